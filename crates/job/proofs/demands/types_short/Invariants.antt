use mathlib.Core.Path.{◌≡◌}
use Prim.Native.Nat.{◌-◌}
use lib.Dec.{ltb}
use lib.ListN.{get_or, drop}
use Rattle.job.specs.Verdict.{lowest}
use Rattle.job.specs.Job.{job_of}
use Rattle.job.proofs.demands.types_short.Given as goal

-- `types_short` looks at the item types in rising number: those from i on decide as all of them do.
abbrev pub invariant-loop-i : goal.invariant-loop-i
invariant-loop-i l = lowest 11 (λ j item. ltb (get_or l.sums j 0) item.demand) 1 (job_of l.job).items ≡ lowest 11 (λ j item. ltb (get_or l.sums j 0) item.demand) l.i (drop (l.i - 1) (job_of l.job).items)
