use mathlib.Core.Path.{◌≡◌, sym, ap, ◌∙◌}
use Prim.Native.Nat.{ℕ, ◌*◌, ◌≤◌, ◌<◌}
use mathlib.Core.List.{List}
use native.Mathlib.Omega.{arith}
use lib.ListN.{length, get_or}
use Rattle.job.specs.declared.size.Size.{Size}
use Rattle.job.specs.Job.{job_of, size_at}
use Rattle.listing.proofs.CodeLent.{lent-sizes}
use Rattle.plan.specs.Plan.{cost_at}
use Rattle.plan.specs.Prices.{prices_at, price_limit}
use Rattle.plan.proofs.PriceExact.{limit-size, limit-residual}
use Rattle.price_test.proofs.prices.Priced.price_limit.Goals as goal

-- `price_limit` is D times the cost for a size, else the price of the plate.
-- the limit on a size
on-size :
    (ws prices : List ℕ) (n : ℕ) {r : ℕ} {z : Size} (j : ℕ)
    → j < length (job_of ws).sizes
    → z ≡ size_at (job_of ws) j
    → r ≡ get_or prices 0 0 * z.cost
    → r ≡ price_limit (job_of ws) (prices_at n prices) j
unfolding cost_at
on-size ws prices n j h e l =
    l ∙ ap (λ (z : Size). get_or prices 0 0 * z.cost) e ∙ sym (limit-size (job_of ws) (prices_at n prices) j h)

pub returns-then-j-self : goal.returns-then-j-self
returns-then-j-self c =
    let s = c.args.self.now in
    let below : c.args.j.0 < length (job_of s.listed.job.words.now).sizes = omega (arith, lent-sizes s.listed.lent) in
    on-size s.listed.job.words.now s.prices.now _ c.args.j.0 below c.size.ensures c.size_limit.ensures

pub returns : goal.returns
returns c =
    let s = c.args.self.now in
    let past : length (job_of s.listed.job.words.now).sizes ≤ c.args.j.0 = omega (arith, lent-sizes s.listed.lent) in
    c.residual_price.ensures.value ∙ sym (limit-residual _ (prices_at _ s.prices.now) c.args.j.0 past)
