use Prim.Native.Nat.{◌≤◌}
use native.Mathlib.Omega.{arith}
use borrow.Author.Tests.{not-true, not-false}
use Rattle.listing.specs.CutRead.{cuts_read}
use Rattle.listing.proofs.CodeCuts.{length-cuts_from}
use Rattle.listing_find.specs.Rising.{Rising, Narrowed}
use Rattle.listing_find.proofs.Narrowing.{narrowed-start, read_up, read_down}
use Rattle.listing_find.proofs.search.find_cut_near.Goals as goal
use Rattle.listing_find.proofs.search.find_cut_near.Goals.{else-loop-probe-test, then-loop-probe-test+else-not-is_earlier+then-end-probe}

pub loop-probe-init : goal.loop-probe-init
loop-probe-init c =
    let a = c.args in
    (omega arith, omega arith, omega arith, omega arith, λ r. narrowed-start (cuts_read a.k.0 a.cuts.now) a.j.0 a.i.0 a.k.0 (rw length-cuts_from (omega arith)))

pub find_between-requires : goal.find_between-requires
find_between-requires c =
    let a = c.args in
    let l = c.loop-probe in record { k_in_bounds = (c.requires, (l.invariant.0, omega arith)); narrowed = read_down a.cuts.now a.k.0 a.j.0 a.i.0 l.low a.k.0 l.invariant.4 l.probe (omega arith) c.is_earlier.ensures (not-true _ c.if-not-is_earlier.true-raw) }

pub loop-probe-preserved : goal.loop-probe-preserved
loop-probe-preserved c =
    let a = c.args in
    let l = c.loop-probe in
    (omega arith, omega arith, omega arith, omega arith, read_up a.cuts.now a.k.0 a.j.0 a.i.0 l.low a.k.0 l.invariant.4 l.probe (omega arith) c.is_earlier.ensures (not-false _ c.if-not-is_earlier.false-raw))

-- the cuts that are left where the loop ends: as at its head, or those behind the last cut that was tried
pub find_between-requires-2 : goal.find_between-requires-2
find_between-requires-2 c =
    let a = c.args in
    let l = c.loop-probe in
    let low = c.loop-probe-test.low in
    let left : (low ≤ a.k.0) × (Rising (cuts_read a.k.0 a.cuts.now) → Narrowed (cuts_read a.k.0 a.cuts.now) a.j.0 a.i.0 low a.k.0) =
    elim c.loop-probe-test.branch [
      | else-loop-probe-test w ↦ rw w.low-is (l.invariant.1, l.invariant.4)
      | then-loop-probe-test+else-not-is_earlier+then-end-probe w ↦
          rw w.low-is (omega (arith, w.loop-probe-test.true), read_up a.cuts.now a.k.0 a.j.0 a.i.0 l.low a.k.0 l.invariant.4 l.probe (omega (arith, w.loop-probe-test.true)) w.is_earlier.ensures (not-false _ w.if-not-is_earlier.false-raw))
    ] in record { k_in_bounds = (c.requires, (left.0, omega arith)); narrowed = left.1 }
