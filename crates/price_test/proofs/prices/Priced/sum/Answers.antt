use Prim.Native.Nat.{◌≤◌, ◌<◌}
use native.Mathlib.Omega.{arith}
use lib.ListN.{length}
use Rattle.job.specs.Job.{job_of}
use Rattle.listing.proofs.CodeLent.{lent-words, lent-items}
use Rattle.plan.specs.Prices.{price_sum}
use Rattle.price_test.proofs.CodePrices.{product-most, priced-next, priced-end}
use borrow.Author.Rules.{rules}
use Rattle.price_test.proofs.prices.Priced.sum.Goals as goal

pub loop-i-init : goal.loop-i-init
unfolding price_sum
loop-i-init c = (search rules, omega arith)

pub overflow_add-sum : goal.overflow_add-sum
overflow_add-sum c =
    let l = c.loop-i in
    let lent = c.args.self.now.listed.lent in
    let within : l.i ≤ c.args.self.now.listed.job.head.types.0 = omega (arith, c.loop-i-test.true) in
    let most = product-most _ _ _ c.requires (lent-words lent) l.i l.auto.i within c.item_at-item.ensures in
    omega (arith, most, l.invariant.0, lent.few-items)

pub loop-i-preserved : goal.loop-i-preserved
loop-i-preserved c =
    let l = c.loop-i in
    let s = c.args.self.now in
    let job = job_of s.listed.job.words.now in
    let n = s.listed.job.head.types.0 in
    let lent = s.listed.lent in
    let within : l.i ≤ n = omega (arith, c.loop-i-test.true) in
    let room : n < length s.prices.now = omega (arith, s.whole) in
    let x = c.item_at-item.ensures in
    let most = product-most _ _ _ c.requires (lent-words lent) l.i l.auto.i within x in
    let next = priced-next job n s.prices.now (lent-items lent) room l.i l.sum l.invariant.1 x l.auto.i within in
    (omega (arith, most, l.invariant.0, l.auto.i), next)

pub returns : goal.returns
returns c =
    let l = c.loop-i in
    let s = c.args.self.now in
    let n = s.listed.job.head.types.0 in
    let room : n < length s.prices.now = omega (arith, s.whole) in
    let past : n < l.i = omega (arith, c.loop-i-test.false) in
    let job = job_of s.listed.job.words.now in
    priced-end job n s.prices.now (lent-items s.listed.lent) room l.i l.sum l.invariant.1 past
