use mathlib.Core.Path.{sym}
use Prim.Native.Nat.{◌<◌}
use lib.ListN.{length}
use native.Mathlib.Omega.{arith}
use Rattle.texts_reading.proofs.CodeJudge.{within-next, below-low, above-high, within_all}
use Rattle.texts_reading.proofs.judge.within_limits.Goals.{then-values-i-via-then-values-i, then-values-i-via-else-values-i+then-high-i}
use Rattle.texts_reading.proofs.judge.within_limits.Goals as goal

pub returns-then-values-i : goal.returns-then-values-i
returns-then-values-i c =
    let l = c.loop-i in
    let a = c.args in
    let h : l.i < length a.values.now = omega arith in
    elim c.then-values-i.branch [
      | then-values-i-via-then-values-i w ↦ sym (below-low a.values.now a.low.now a.high.now l.i c.requires.0 c.requires.1 l.invariant h w.if-values-i.true)
      | then-values-i-via-else-values-i+then-high-i w ↦
          sym (above-high a.values.now a.low.now a.high.now l.i c.requires.0 c.requires.1 l.invariant h w.if-values-i.false w.if-high-i.true)
    ]

pub loop-i-preserved : goal.loop-i-preserved
loop-i-preserved c =
    let l = c.loop-i in
    let a = c.args in
    within-next a.values.now a.low.now a.high.now l.i c.requires.0 c.requires.1 l.invariant (omega arith) c.if-values-i.false c.if-high-i.false

pub returns : goal.returns
returns c =
    let l = c.loop-i in
    let a = c.args in
    sym (within_all a.values.now a.low.now a.high.now l.i c.requires.0 c.requires.1 l.invariant (omega arith))
