use mathlib.Core.Path.{◌≡◌}
use Prim.Native.Nat.{◌*◌, ◌≤◌}
use lib.ListN.{take}
use Rattle.plan.specs.Plan.{total}
use Rattle.plan_test.proofs.plan_row.total.Given as goal

-- `total` adds up the counts one by one: after c turns the sum is that of the first c.
abbrev pub invariant-loop-n : goal.invariant-loop-n
invariant-loop-n l = (l.sum ≤ 65535 * l.n-index) × (l.sum ≡ total (take l.n-index l.counts))
