use mathlib.Core.Path.{◌≡◌}
use mathlib.Core.Bool.{not}
use Prim.Native.Nat.{◌-◌}
use lib.ListN.{drop}
use Rattle.job.specs.Verdict.{lowest}
use Rattle.job.specs.Job.{job_of, item_right}
use Rattle.job.proofs.admit.types_right.Given as goal

-- `types_right` looks at the item types in rising number: what is left to check from type i on is the whole check.
abbrev pub invariant-loop-i : goal.invariant-loop-i
invariant-loop-i l = lowest 2 (λ _ it. not (item_right it)) 1 (job_of l.job).items ≡ lowest 2 (λ _ it. not (item_right it)) l.i (drop (l.i - 1) (job_of l.job).items)
