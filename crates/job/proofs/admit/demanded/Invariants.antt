use mathlib.Core.Path.{◌≡◌}
use Prim.Native.Nat.{◌+◌, ◌*◌, ◌-◌, ◌≤◌}
use lib.ListN.{drop}
use Rattle.job.specs.Lists.{sum_of}
use Rattle.job.specs.Job.{job_of, demanded}
use Rattle.job.proofs.admit.demanded.Given as goal

-- `demanded` adds up the demands in rising number of the types: what has been added and the demands from type i on are all of them.
abbrev pub invariant-loop-i : goal.invariant-loop-i
invariant-loop-i l = (l.sum ≤ 65535 * l.i) × (demanded (job_of l.job) ≡ l.sum + sum_of (λ it. it.demand) (drop (l.i - 1) (job_of l.job).items))
