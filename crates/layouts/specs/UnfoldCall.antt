-- Document 01, "Where each number is given", with request Two: what the unfolding call answers, and what it leaves in the placements and the offcuts that
-- it is lent. What it leaves in plates and cuts is `plates_end` and `cuts_end`.
use Rattle.std.specs.Prelude.{ℕ, Bool, not, ◌&&◌, List, [], ◌∷◌, length}
use Rattle.job.specs.Verdict.{Verdict, ◌then◌, refuse_if, within}
use Rattle.job.specs.Buffers.{Answer, answer, ends, sized, plates_size, cuts_size, counts_size, placements_size, offcuts_size}
use Rattle.job.specs.Job.{job_of, job_words, admission, max_side}
use Rattle.listing.specs.Listing.{model_row, listing_of}
use Rattle.plan.specs.Plan.{counts_row, plan_row}
use Rattle.layouts.specs.Placement.{placement_words}
use Rattle.layouts.specs.Unfold.{Run, unfolded}
use Rattle.layouts.specs.Offcuts.{Offcut, offcuts_of, offcut_words}

-- request Two: "two set lengths (1 to 10,000; else 2, place 0 ..)", which belong to the line row, after the job's words
unfoldable pub lengths_right : ℕ → ℕ → Bool
lengths_right first second = within 1 max_side first && within 1 max_side second

unfoldable pub lengths_row : ℕ → ℕ → Verdict
lengths_row first second = refuse_if (not (lengths_right first second)) 2 0

-- `ws` are the job's words, `first` and `second` the two lengths, `counts` the counts passed in, `plates`, `cuts`, `placements` and `offcuts` the lent
-- buffers as they were
unfoldable pub unfold_verdict : List ℕ → ℕ → ℕ → List ℕ → List ℕ → List ℕ → List ℕ → List ℕ → Verdict
unfold_verdict ws first second counts plates cuts placements offcuts =
    job_words ws
    then lengths_row first second
    then admission (job_of ws)
    then sized 1 plates_size plates
    then sized 2 cuts_size cuts
    then sized 3 counts_size counts
    then sized 4 placements_size placements
    then sized 5 offcuts_size offcuts
    then model_row (job_of ws)
    then counts_row (listing_of (job_of ws)) counts
    then plan_row (job_of ws) (listing_of (job_of ws)) counts

-- the unfolding of the counts
unfoldable pub unfolding_of : List ℕ → List ℕ → Run
unfolding_of ws counts = unfolded (job_of ws) (listing_of (job_of ws)) counts

-- what it leaves over
unfoldable pub offcuts_from : List ℕ → List ℕ → List Offcut
offcuts_from ws counts = offcuts_of (job_of ws) (listing_of (job_of ws)) counts

-- "unfolding, boards and pieces"; of offcuts it "also gives their number" (request Two)
unfoldable pub unfold_answer : List ℕ → ℕ → ℕ → List ℕ → List ℕ → List ℕ → List ℕ → List ℕ → Answer
unfold_answer ws first second counts plates cuts placements offcuts =
    let r = unfolding_of ws counts in
    answer (unfold_verdict ws first second counts plates cuts placements offcuts)
    (r.last.turn.board.number ∷ length r.placements ∷ length (offcuts_from ws counts) ∷ [])

-- the placements, by the call's verdict
unfoldable pub placements_end : Verdict → List ℕ → List ℕ → List ℕ → List ℕ
placements_end v ws counts placements = ends v placements (placement_words (unfolding_of ws counts).placements)

-- the offcuts, by the call's verdict
unfoldable pub offcuts_end : Verdict → List ℕ → ℕ → ℕ → List ℕ → List ℕ → List ℕ
offcuts_end v ws first second counts offcuts = ends v offcuts (offcut_words first second (offcuts_from ws counts))
