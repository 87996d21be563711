-- Document 01, "Where each number is given": the plan row and the prices row of a saw text, and what the code knows of them.
use Rattle.std.specs.Prelude.{Result, Ok, Err, ℕ, ◌+◌, ◌<◌, ◌≡◌, true, false, List, length}
use Rattle.std.proofs.Math.Option.{Option, none, some}
use Rattle.job.specs.Verdict.{Verdict, pass, ◌then◌}
use Rattle.job.specs.Buffers.{Answer, given, refused, answer}
use Rattle.job.specs.Job.{Job, job_of}
use Rattle.listing.specs.Listing.{Listing, listing_of}
use Rattle.listing.specs.Holds.{Holds}
use Rattle.plan.specs.Plan.{boards, plan_cost, counts_row, plan_row}
use Rattle.plan.specs.Prices.{price_words}
use Rattle.plan.specs.PlanCall.{boards_and_cost}
use Rattle.job.specs.declared.refused.Refused.{Refused}
use Rattle.plan_test.specs.declared.opened.Opening.{Opening}
use Rattle.plan_test.specs.PlanSays.{says_of}
use Rattle.texts.specs.Widths.{place_limit}
use Rattle.texts.specs.JobLines.{body_line}
use Rattle.texts.specs.SawText.{Counted, PriceLines, Saw, cuts_named, plates_shown, cuts_rising, plan_counts, price_lines_row}
use Rattle.saw_text_body.specs.declared.plan_lines.PlanLines.{PlanLines}
use Rattle.saw_text_body.specs.declared.price_lines.PriceLines.{PriceLines as CodePrices}
use Rattle.saw_text_body.specs.PlanRead.{PlanKept}

-- the plan row of lines 3, the first of which is line `first`: 8, request Five's 20, 9, then 10, 11 and 12 of their counts
unfoldable pub lines_row : Job → Listing → ℕ → List Counted → Verdict
lines_row job l first rs =
    cuts_named l first rs
    then plates_shown l first rs
    then cuts_rising l 0 first rs
    then plan_row job l (plan_counts l rs)

-- the rows of a saw text after the job and the model
unfoldable pub listed_rows : Saw → Verdict
listed_rows s =
    let job = job_of s.job in
    let l = listing_of job in
    cuts_named l (body_line s.job) s.plan
    then plates_shown l (body_line s.job) s.plan
    then cuts_rising l 0 (body_line s.job) s.plan
    then plan_row job l (plan_counts l s.plan)
    then price_lines_row job l s.prices

-- the place of a refusal fits a number of a line
abbrev pub PlaceFits : Answer → Type 0
PlaceFits (given results) = Unit {0}
PlaceFits (refused number place) = place < place_limit

-- what is known of an accepted plan: its counts, as words, pass their rows, open that many boards, and these cost so much (request Six)
abbrev pub Tested : Result Opening Refused → Listing → Job → List ℕ → Type 0
Tested (Ok o) l job counts = ((counts_row l counts then plan_row job l counts) ≡ pass) × ((o.boards ≡ boards l counts) × (o.cost ≡ plan_cost job l counts))
Tested (Err r) l job counts = Unit {0}

-- what the code says of the lines 3 that it keeps, of a job with the words ws
pub record PlanTold (l : Listing) (ws counts : List ℕ) (p : PlanLines) (a : Result Opening Refused) : Type 0 where
  pub says :
      (first : ℕ) (rs : List Counted)
      → PlanKept l first rs p counts
      → says_of a ≡ answer (lines_row (job_of ws) l first rs) (boards_and_cost (job_of ws) l (plan_counts l rs))
  pub fits : (first : ℕ) (rs : List Counted) → PlanKept l first rs p counts → PlaceFits (says_of a)
  pub tested : Tested a l (job_of ws) counts

-- lines 4, 5 and 6, whole: the n and the m of line 4, and the price words in a buffer, which have passed the line row
pub record PricesGiven (ps : PriceLines) (p : CodePrices) (buffer : List ℕ) : Type 0 where
  pub types : p.types.0 ≡ ps.types
  pub residuals : p.residuals ≡ ps.residuals
  pub words : Holds buffer ps.words
  pub size : length ps.words ≡ 1 + ps.types + ps.residuals
  pub passed : price_words ps.words ≡ pass

-- the prices of a saw text that ends, if there are any
abbrev pub PricesEnd : Option PriceLines → CodePrices → List ℕ → Type 0
PricesEnd none p buffer = p.given ≡ false
PricesEnd (some ps) p buffer = (p.given ≡ true) × PricesGiven ps p buffer
