-- Document 01, "Where each number is given": what the price test answers. What it leaves in plates and cuts is `plates_end` and `cuts_end`.
use Rattle.std.specs.Prelude.{ℕ, List, [], ◌∷◌}
use Rattle.job.specs.Verdict.{Verdict, ◌then◌}
use Rattle.job.specs.Buffers.{Answer, answer, sized, plates_size, cuts_size}
use Rattle.job.specs.Job.{job_of, job_words, admission}
use Rattle.listing.specs.Listing.{model_row, listing_of}
use Rattle.plan.specs.Prices.{prices_of, price_words, prices_sized, prices_row, price_sum}

-- `ws` are the job's words, `prices` the price words, `plates` and `cuts` the lent buffers as they were;
-- "words of prices and layouts belong to the line row, after the job's words"
unfoldable pub price_verdict : List ℕ → List ℕ → List ℕ → List ℕ → Verdict
price_verdict ws prices plates cuts =
    job_words ws
    then price_words prices
    then admission (job_of ws)
    then sized 1 plates_size plates
    then sized 2 cuts_size cuts
    then model_row (job_of ws)
    then prices_sized (job_of ws) (listing_of (job_of ws)) prices
    then prices_row (job_of ws) (listing_of (job_of ws)) (prices_of (job_of ws) prices)

-- "price test, sum and D"
unfoldable pub price_answer : List ℕ → List ℕ → List ℕ → List ℕ → Answer
price_answer ws prices plates cuts =
    let ps = prices_of (job_of ws) prices in
    answer (price_verdict ws prices plates cuts) (price_sum (job_of ws) ps ∷ ps.denominator ∷ [])
