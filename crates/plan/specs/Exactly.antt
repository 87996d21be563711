-- Demand 2's "exactly", in plain statements: the words and buffers that the plan test and the price test accept.
use Rattle.std.specs.Prelude.{ℕ, ◌+◌, ◌≤◌, ◌<◌, ◌≡◌, ◌↔◌, List, length, get_or}
use Rattle.job.specs.Sizes.{plates_size, cuts_size, counts_size, max_price}
use Rattle.job.specs.Verdict.{pass}
use Rattle.job.specs.Buffers.{Answer, given, refused}
use Rattle.job.specs.Job.{job_of}
use Rattle.job.specs.Admitted.{Between, AdmittedWords}
use Rattle.listing.specs.Listing.{model_row, listing_of, residual_types}
use Rattle.plan.specs.Prices.{prices_of}
use Rattle.plan.specs.Feasible.{Feasible, NonePast, DualFeasible}
use Rattle.plan.specs.PlanCall.{plan_verdict}
use Rattle.plan.specs.PriceCall.{price_verdict}

-- what the plan test asks; `ws` are the job's words, `counts` the counts passed in, `plates` and `cuts` the lent buffers as they were
pub record PlanRight (ws counts plates cuts : List ℕ) : Type 0 where
  -- the words are those of an admitted job
  pub admitted : AdmittedWords ws
  -- no buffer is "shorter than full size"
  pub plates-full : plates_size ≤ length plates
  pub cuts-full : cuts_size ≤ length cuts
  pub counts-full : counts_size ≤ length counts
  -- the walk meets neither limit
  pub within-limits : model_row (job_of ws) ≡ pass
  -- there is no "nonzero word past the last cut"
  pub none-past : NonePast (listing_of (job_of ws)) counts
  -- each demand is reached, no residual type is overdrawn, and the counts add up to at most 4,000
  pub feasible : Feasible (job_of ws) (listing_of (job_of ws)) counts

-- what the price test asks; `ws` are the job's words, `prices` the price words, `plates` and `cuts` the lent buffers as they were
pub record PricesRight (ws prices plates cuts : List ℕ) : Type 0 where
  -- the words are those of an admitted job
  pub admitted : AdmittedWords ws
  -- no buffer is "shorter than full size"
  pub plates-full : plates_size ≤ length plates
  pub cuts-full : cuts_size ≤ length cuts
  -- the walk meets neither limit
  pub within-limits : model_row (job_of ws) ≡ pass
  -- "prices are D, the n, the m"
  pub number : length prices ≡ 1 + length (job_of ws).items + residual_types (listing_of (job_of ws))
  -- "a denominator D, 1 to 9,999", the first word
  pub denominator-limits : Between 1 max_price (get_or prices 0 0)
  -- "a price 0 to 9,999 for each item type and each residual type", the words after it
  pub price-limits : (k : ℕ) → 1 ≤ k → k < length prices → get_or prices k 0 ≤ max_price
  -- no cut is over its limit
  pub feasible : DualFeasible (job_of ws) (listing_of (job_of ws)) (prices_of (job_of ws) prices)

-- an answer that accepts gives results
abbrev pub Accepts : Answer → Type 0
Accepts (given results) = Unit {0}
Accepts (refused number place) = ⊥

-- each test accepts exactly that
pub record AcceptsExactly : Type 0 where
  pub plans :
      (ws counts plates cuts : List ℕ)
      → (plan_verdict ws counts plates cuts ≡ pass) ↔ PlanRight ws counts plates cuts
  pub prices :
      (ws prices plates cuts : List ℕ)
      → (price_verdict ws prices plates cuts ≡ pass) ↔ PricesRight ws prices plates cuts
