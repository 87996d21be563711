use mathlib.Core.Path.{ap, ◌∙◌}
use mathlib.Core.List.{List, ◌++◌}
use Prim.Native.Nat.{ℕ, ◌-◌, ◌≤◌}
use native.Mathlib.Omega.{arith}
use lib.ListN.{length, take, drop}
use Rattle.columns.specs.Line.{read_line, line_from}
use Rattle.texts_reading.proofs.CodeLine.{begun-line, begun-size}
use Rattle.texts.specs.Reader.{longest_line}
use Rattle.texts_reading.proofs.pending.Pending.line.Goals as goal

pub returns : goal.returns
returns c =
    let p = c.more-whole.result in (
      c.line_of-2.ensures.0,
      λ bs b.
          let w = c.more-whole.ensures.1 bs b in
          let n : length (bs ++ take (c.args.end - c.args.at) (drop c.args.at c.args.part.now)) ≤ longest_line = omega (arith, w.size, c.more-whole.ensures.0) in
          c.line_of-2.ensures.1 (omega (arith, begun-size p _ w n, c.more-whole.ensures.0)) ∙ ap (λ (l : List ℕ). line_from (read_line l)) (begun-line p _ w),
    )
