use native.Mathlib.Omega.{arith}
use Rattle.job.specs.Job.{job_of}
use Rattle.listing.proofs.CodeLent.{lent-sizes}
use Rattle.price_test.proofs.CodePrices.{no-residual, residual-price}
use Rattle.price_test.proofs.prices.Priced.residual_price.Goals as goal

-- `residual_price` reads the word behind D and those of the item types; the number of a size has none.
pub returns-then-j-head : goal.returns-then-j-head
returns-then-j-head c =
    let s = c.args.self.now in
    let job = job_of s.listed.job.words.now in
    let none = no-residual _ s.prices.now job _ (lent-sizes s.listed.lent) c.args.j.0 (omega arith) in
    record { value = none; upper_bound = omega arith }

pub returns : goal.returns
returns c =
    let s = c.args.self.now in
    let job = job_of s.listed.job.words.now in
    let price = residual-price _ s.prices.now job _ (lent-sizes s.listed.lent) c.args.j.0 (omega arith) in
    record { value = price; upper_bound = omega arith }
