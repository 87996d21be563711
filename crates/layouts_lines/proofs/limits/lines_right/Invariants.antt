use mathlib.Core.Path.{◌≡◌}
use mathlib.Core.Bool.{not}
use Prim.Native.Nat.{◌+◌}
use lib.ListN.{length, drop}
use Rattle.job.specs.Verdict.{lowest}
use Rattle.job.specs.Job.{Job}
use Rattle.layouts.specs.Lines.{lines_in, row_right}
use Rattle.layouts_lines.proofs.limits.lines_right.Given as goal

-- `lines_right` looks at the lines in rising number: those from c on decide as all of them do.
abbrev pub invariant-loop-c : goal.invariant-loop-c
invariant-loop-c l = (job : Job) → length job.sizes ≡ l.t.0 → length job.items ≡ l.n.0 → lowest 2 (λ _ r. not (row_right job r)) 1 (lines_in l.layouts) ≡ lowest 2 (λ _ r. not (row_right job r)) (l.c + 1) (drop l.c (lines_in l.layouts))
