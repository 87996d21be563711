use native.Mathlib.Omega.{arith}
use Rattle.job.specs.Job.{job_of, type_of}
use Rattle.listing.specs.CutRead.{cut_in}
use Rattle.price_test.proofs.CodePrices.{item-price, over-limit}
use Rattle.price_test.proofs.prices.Priced.over_limit.Goals as goal

-- `over_limit` adds the prices of the item and of the two residuals.
-- the type of a position is the half of its number
pub bounds-self-i : goal.bounds-self-i
unfolding type_of
bounds-self-i c = omega (arith, c.requires.of-item, c.args.self.now.whole)

pub returns : goal.returns
unfolding type_of
returns c =
    let s = c.args.self.now in
    let n = s.listed.job.head.types.0 in
    let item = item-price n s.prices.now (type_of c.args.cut.item.0) c.requires.from_one c.requires.of-item in
    let top = c.residual_price-top.ensures.value in
    let right = c.residual_price-right.ensures.value in
    over-limit n s.prices.now (job_of s.listed.job.words.now) (cut_in c.args.cut) item top right c.price_limit.ensures
