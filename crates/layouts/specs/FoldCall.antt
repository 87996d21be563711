-- Document 01, "Where each number is given": what the folding call answers, and what it leaves in the counts that it is lent.
-- What it leaves in plates and cuts is `plates_end` and `cuts_end`.
use Rattle.std.specs.Prelude.{ℕ, List, [], ◌∷◌, length}
use Rattle.job.specs.Verdict.{Verdict, ◌then◌}
use Rattle.job.specs.Buffers.{Answer, answer, ends, sized, plates_size, cuts_size, counts_size}
use Rattle.job.specs.Job.{job_of, job_words, admission}
use Rattle.listing.specs.Listing.{model_row, listing_of}
use Rattle.layouts.specs.Placement.{set_cost}
use Rattle.layouts.specs.Lines.{rows_of, layout_words, set_of}
use Rattle.layouts.specs.LayoutsRow.{layouts_row}
use Rattle.layouts.specs.Fold.{folded}

-- `ws` are the job's words, `layouts` the layout words, `plates`, `cuts` and `counts` the lent buffers as they were;
-- "words of prices and layouts belong to the line row, after the job's words"
unfoldable pub fold_verdict : List ℕ → List ℕ → List ℕ → List ℕ → List ℕ → Verdict
fold_verdict ws layouts plates cuts counts =
    job_words ws
    then layout_words (job_of ws) layouts
    then admission (job_of ws)
    then sized 1 plates_size plates
    then sized 2 cuts_size cuts
    then sized 3 counts_size counts
    then model_row (job_of ws)
    then layouts_row 1 (job_of ws) (rows_of layouts)

-- "the plan test and folding give boards and cost" (request Six)
unfoldable pub fold_answer : List ℕ → List ℕ → List ℕ → List ℕ → List ℕ → Answer
fold_answer ws layouts plates cuts counts =
    answer (fold_verdict ws layouts plates cuts counts) (length (set_of layouts) ∷ set_cost (job_of ws) (set_of layouts) ∷ [])

-- the counts, by the call's verdict
unfoldable pub counts_end : Verdict → List ℕ → List ℕ → List ℕ → List ℕ
counts_end v ws layouts counts = ends v counts (folded (job_of ws) (listing_of (job_of ws)) (set_of layouts))
