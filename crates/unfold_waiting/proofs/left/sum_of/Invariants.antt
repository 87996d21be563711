use mathlib.Core.Path.{◌≡◌}
use Prim.Native.Nat.{◌+◌, ◌*◌, ◌≤◌}
use lib.ListN.{drop}
use Rattle.plan.specs.Plan.{total}
use Rattle.unfold_waiting.proofs.left.sum_of.Given as goal

-- `sum_of` adds up from the first count on: what it has after some counts and what the others add are all.
abbrev pub invariant-loop-n : goal.invariant-loop-n
invariant-loop-n l = (l.sum ≤ 65535 * l.n-index) × (total l.part ≡ l.sum + total (drop l.n-index l.part))
