use mathlib.Core.Path.{refl, sym}
use native.Mathlib.Omega.{arith}
use Rattle.unfold_waiting.proofs.CodeLeft.{sum-end, sum-next}
use Rattle.unfold_waiting.proofs.left.sum_of.Goals as goal

pub loop-n-preserved : goal.loop-n-preserved
loop-n-preserved c =
    let d = c.loop-n in
    let more = sum-next _ d.n-index d.sum d.invariant.1 c.loop-n-test.true refl in
    (omega (arith, d.invariant.0, c.type_inv.part d.n-index), more)

pub returns : goal.returns
returns c =
    let d = c.loop-n in sym (sum-end _ d.n-index d.sum d.invariant.1 c.loop-n-test.false)
