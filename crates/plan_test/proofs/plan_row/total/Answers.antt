use Prim.Native.Nat.{◌+◌}
use mathlib.Core.Path.{◌≡◌, refl}
use native.Mathlib.Omega.{arith}
use borrow.Author.Rules.{rules}
use lib.ListN.{get_or, take}
use lib.Seq.{get_or-take, length-take-le}
use Rattle.job.specs.Lists.{sum_of}
use Rattle.plan.specs.Plan.{total}
use Rattle.plan_test.proofs.CodeSums.{total-more}
use Rattle.plan_test.proofs.plan_row.total.Goals as goal

pub loop-n-init : goal.loop-n-init
unfolding total sum_of
loop-n-init c = (search rules, refl)

pub loop-n-preserved : goal.loop-n-preserved
loop-n-preserved c =
    let i = c.loop-n.n-index in
    let ns = c.args.counts.now in
    let long = length-take-le c.args.k.0 ns c.requires.1 in
    let e : total (take (i + 1) ns) ≡ total (take i ns) + get_or ns i 0 = total-more ns i (omega (arith, long, c.loop-n-test.true, c.requires.1)) in
    let t : get_or (take c.args.k.0 ns) i 0 ≡ get_or ns i 0 = get_or-take c.args.k.0 ns i 0 (omega (arith, long, c.loop-n-test.true)) in
    (omega (arith, t, c.type_inv.counts i, c.loop-n.invariant.0), omega (arith, e, t, c.loop-n.invariant.1))
