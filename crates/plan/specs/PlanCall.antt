-- Document 01, "Where each number is given": what the plan test answers. What it leaves in plates and cuts is `plates_end` and `cuts_end`.
use Rattle.std.specs.Prelude.{ℕ, List, [], ◌∷◌}
use Rattle.job.specs.Verdict.{Verdict, ◌then◌}
use Rattle.job.specs.Buffers.{Answer, answer, sized, plates_size, cuts_size, counts_size}
use Rattle.job.specs.Job.{Job, job_of, job_words, admission}
use Rattle.listing.specs.Listing.{Listing, model_row, listing_of}
use Rattle.plan.specs.Plan.{boards, plan_cost, counts_row, plan_row}

-- `ws` are the job's words, `counts` the counts passed in, `plates` and `cuts` the lent buffers as they were
unfoldable pub plan_verdict : List ℕ → List ℕ → List ℕ → List ℕ → Verdict
plan_verdict ws counts plates cuts =
    job_words ws
    then admission (job_of ws)
    then sized 1 plates_size plates
    then sized 2 cuts_size cuts
    then sized 3 counts_size counts
    then model_row (job_of ws)
    then counts_row (listing_of (job_of ws)) counts
    then plan_row (job_of ws) (listing_of (job_of ws)) counts

-- "the plan test and folding give boards and cost" (request Six)
abbrev pub boards_and_cost : Job → Listing → List ℕ → List ℕ
boards_and_cost job l counts = boards l counts ∷ plan_cost job l counts ∷ []

unfoldable pub plan_answer : List ℕ → List ℕ → List ℕ → List ℕ → Answer
plan_answer ws counts plates cuts =
    answer (plan_verdict ws counts plates cuts) (boards_and_cost (job_of ws) (listing_of (job_of ws)) counts)
