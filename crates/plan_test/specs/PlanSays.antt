-- What the plan test's answer says: the boards that the plan opens and what they cost (request Six), or a refusal's number and place; and the last rows of
-- its verdict.
use Rattle.std.specs.Prelude.{ℕ, List, [], ◌∷◌, Result, Ok, Err}
use Rattle.job.specs.Verdict.{Verdict, ◌then◌}
use Rattle.job.specs.Buffers.{Answer, given, refused}
use Rattle.job.specs.Job.{Job}
use Rattle.listing.specs.Listing.{model_row, listing_of}
use Rattle.plan.specs.Plan.{counts_row, plan_row}
use Rattle.job.specs.declared.refused.Refused.{Refused}
use Rattle.job.specs.Refused.{number_of}
use Rattle.plan_test.specs.declared.opened.Opening.{Opening}

abbrev pub says_of : Result Opening Refused → Answer
says_of (Ok o) = given (o.boards ∷ o.cost ∷ [])
says_of (Err r) = refused (number_of r.refusal) r.place

-- the rows from the model on
abbrev pub plan_tail : Job → List ℕ → Verdict
plan_tail job counts = model_row job then counts_row (listing_of job) counts then plan_row job (listing_of job) counts
