use mathlib.Core.Path.{◌≡◌}
use mathlib.Core.Bool.{not}
use Prim.Native.Nat.{◌+◌}
use lib.ListN.{drop}
use Rattle.job.specs.Verdict.{lowest}
use Rattle.job.specs.Job.{job_of, permitted}
use Rattle.layouts.specs.Lines.{rows_of}
use Rattle.layouts_lines.proofs.permitted.permitted_row.Given as goal

-- `permitted_row` looks at the lines in rising number: those from c on decide as all of them do.
abbrev pub invariant-loop-c : goal.invariant-loop-c
invariant-loop-c l = lowest 19 (λ _ r. not (permitted (job_of l.job) r.item)) 1 (rows_of l.layouts) ≡ lowest 19 (λ _ r. not (permitted (job_of l.job) r.item)) (l.c + 1) (drop l.c (rows_of l.layouts))
