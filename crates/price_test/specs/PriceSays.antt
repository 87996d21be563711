-- What the price test's answer says: the sum of price times demand and D, or a refusal's number and place; and the last rows of its verdict.
use Rattle.std.specs.Prelude.{ℕ, List, [], ◌∷◌, Result, Ok, Err}
use Rattle.job.specs.Verdict.{Verdict, ◌then◌}
use Rattle.job.specs.Buffers.{Answer, given, refused}
use Rattle.job.specs.Job.{Job}
use Rattle.listing.specs.Listing.{model_row, listing_of}
use Rattle.plan.specs.Prices.{prices_of, price_sum, prices_sized, prices_row}
use Rattle.job.specs.declared.refused.Refused.{Refused}
use Rattle.job.specs.Refused.{number_of}
use Rattle.price_test.specs.declared.prices.Bound.{Bound}

abbrev pub says_of : Result Bound Refused → Answer
says_of (Ok b) = given (b.sum ∷ b.d ∷ [])
says_of (Err r) = refused (number_of r.refusal) r.place

-- what is promised of prices that are accepted
abbrev pub OnAccepted : Result Bound Refused → (ℕ → ℕ → Type 0) → Type 0
OnAccepted (Ok b) promise = promise b.sum b.d
OnAccepted (Err r) promise = Unit {0}

-- the rows from the model on
abbrev pub price_tail : Job → List ℕ → Verdict
price_tail job ws = model_row job then prices_sized job (listing_of job) ws then prices_row job (listing_of job) (prices_of job ws)

-- the results of price words that are accepted, "sum and D"
abbrev pub sum_and_d : Job → List ℕ → List ℕ
sum_and_d job ws = price_sum job (prices_of job ws) ∷ (prices_of job ws).denominator ∷ []
