use Prim.Native.Nat.{◌+◌, ◌-◌, ◌≤◌}
use Rattle.listing.specs.CutRead.{cuts_read}
use Rattle.listing_find.specs.Rising.{Rising, Narrowed}
use Rattle.listing_find.proofs.search.find_cut_near.Given as goal

-- `find_cut_near` tries cuts farther and farther on, until one does not come before the pair; what is left is halved.
abbrev pub invariant-loop-probe : goal.invariant-loop-probe
invariant-loop-probe l = (l.low ≤ l.probe) × (l.low ≤ l.end) × (1 ≤ l.distance) × (l.distance ≤ l.probe + 1) × (Rising (cuts_read l.k.0 l.cuts) → Narrowed (cuts_read l.k.0 l.cuts) l.j.0 l.i.0 l.low l.end)

abbrev pub decreases-loop-probe : goal.decreases-loop-probe
decreases-loop-probe l = l.end - l.probe
