use Prim.Native.Nat.{◌+◌, ◌-◌, ◌/◌}
use native.Mathlib.Omega.{arith}
use borrow.Author.Rules.{rules}
use Rattle.listing_find.proofs.Narrowing.{read_up, read_down, read_at, read-other, read_past}
use Rattle.listing_find.proofs.search.find_between.Goals.{else-low-k-via-then-low-k+else-is_pair, else-low-k-via-else-low-k}
use Rattle.listing_find.proofs.search.find_between.Goals as goal

pub loop-low-preserved-then-is_earlier : goal.loop-low-preserved-then-is_earlier
loop-low-preserved-then-is_earlier c =
    let a = c.args in
    let l = c.loop-low in
    (search rules, search rules, read_up a.cuts.now a.k.0 a.j.0 a.i.0 l.low l.high l.invariant.2 (l.low + (l.high - l.low) / 2) (omega arith) c.is_earlier.ensures c.if-is_earlier.true)

pub loop-low-preserved : goal.loop-low-preserved
loop-low-preserved c =
    let a = c.args in
    let l = c.loop-low in
    (search rules, search rules, read_down a.cuts.now a.k.0 a.j.0 a.i.0 l.low l.high l.invariant.2 (l.low + (l.high - l.low) / 2) (omega arith) c.is_earlier.ensures c.if-is_earlier.false)

pub returns-then-is_pair-clause-result_value : goal.returns-then-is_pair-clause-result_value
returns-then-is_pair-clause-result_value c m e r =
    let a = c.args in
    let l = c.loop-low in
    read_at a.cuts.now a.k.0 a.j.0 a.i.0 l.low l.high l.invariant.2 c.loop-low-test.false m e r c.if-low-k.true c.is_pair.ensures c.if-is_pair.true

pub returns-clause-result_value : goal.returns-clause-result_value
returns-clause-result_value c m e r =
    let a = c.args in
    let l = c.loop-low in
    elim c.else-low-k.branch [
      | else-low-k-via-then-low-k+else-is_pair w ↦
          read-other a.cuts.now a.k.0 a.j.0 a.i.0 l.low l.high l.invariant.2 c.loop-low-test.false m e r w.if-low-k.true w.is_pair.ensures w.if-is_pair.false
      | else-low-k-via-else-low-k w ↦ read_past a.cuts.now a.k.0 a.j.0 a.i.0 l.low l.high l.invariant.2 c.loop-low-test.false m e r w.if-low-k.false
    ]
