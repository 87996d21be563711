use mathlib.Core.Path.{refl, sym, ap, ◌∙◌}
use mathlib.Core.Option.{some}
use Prim.Native.Nat.{◌+◌}
use native.Mathlib.Omega.{arith}
use lib.ListN.{drop}
use Rattle.job.specs.declared.size.Size.{Size}
use Rattle.job.specs.Job.{job_of}
use Rattle.plan.specs.Plan.{cost_at}
use Rattle.layouts.specs.Lines.{board, rows_of}
use Rattle.layouts_strips.specs.Begun.{level_in}
use Rattle.fold_call.proofs.Boarding.{with-board}
use Rattle.fold_call.proofs.boards.with_board.Goals as goal

pub returns-in-Board : goal.returns-in-Board
unfolding cost_at
returns-in-Board c =
    let a = c.args in
    let size = c.size_at-size in (
      with-board (job_of a.lines.now.job.now) (drop a.c (rows_of a.lines.now.layouts.now)) a.at (some board)
          (sym (ap level_in c.in-Board.is) ∙ c.begins_at.ensures)
          refl
          (ap (λ (z : Size). a.at.cost + z.cost) size.ensures)
          c.size_named.ensures,
      omega (arith, size.type_inv),
    )
