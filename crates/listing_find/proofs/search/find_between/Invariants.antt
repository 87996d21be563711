use Prim.Native.Nat.{◌-◌, ◌≤◌}
use Rattle.listing.specs.CutRead.{cuts_read}
use Rattle.listing_find.specs.Rising.{Rising, Narrowed}
use Rattle.listing_find.proofs.search.find_between.Given as goal

-- `find_between` halves the cuts that are left: those below `low` come before the pair, those from `high` on do not.
abbrev pub invariant-loop-low : goal.invariant-loop-low
invariant-loop-low l = (l.low ≤ l.high) × (l.high ≤ l.k.0) × (Rising (cuts_read l.k.0 l.cuts) → Narrowed (cuts_read l.k.0 l.cuts) l.j.0 l.i.0 l.low l.high)

abbrev pub decreases-loop-low : goal.decreases-loop-low
decreases-loop-low l = l.high - l.low
