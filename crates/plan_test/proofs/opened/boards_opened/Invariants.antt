use mathlib.Core.Path.{◌≡◌}
use Prim.Native.Nat.{◌*◌, ◌≤◌}
use lib.ListN.{get_or}
use Rattle.job.specs.Sizes.{max_pieces}
use Rattle.job.specs.Job.{job_of, size_at}
use Rattle.plan_test.specs.Sums.{sum_below}
use Rattle.plan_test.proofs.opened.boards_opened.Given as goal

-- `boards_opened` adds up boards and costs in rising number of the sizes: after those below j it has their sums.
abbrev pub invariant-loop-j : goal.invariant-loop-j
invariant-loop-j l = (l.boards ≤ max_pieces * l.j)
    × ((l.cost ≤ 65535 * l.boards)
    × ((l.boards ≡ sum_below (λ i. get_or l.on i 0) l.j) × (l.cost ≡ sum_below (λ i. (size_at (job_of l.job) i).cost * get_or l.on i 0) l.j)))
