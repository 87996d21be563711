use mathlib.Core.Path.{◌≡◌}
use Prim.Native.Nat.{◌-◌}
use lib.ListN.{drop}
use Rattle.job.specs.Verdict.{lowest}
use Rattle.job.specs.Job.{job_of, larger}
use Rattle.job.proofs.admit.types_fit.Given as goal

-- `types_fit` looks at the item types in rising number: what is left to check from type i on is the whole check.
abbrev pub invariant-loop-i : goal.invariant-loop-i
invariant-loop-i l = lowest 3 (λ _ it. larger (job_of l.job) it) 1 (job_of l.job).items ≡ lowest 3 (λ _ it. larger (job_of l.job) it) l.i (drop (l.i - 1) (job_of l.job).items)
