-- Document 01, "Where each number is given": what the listing call answers, and what it leaves in the plates and the cuts that it is lent.
use Rattle.std.specs.Prelude.{ℕ, List, [], ◌∷◌, length}
use Rattle.job.specs.Verdict.{Verdict, ◌then◌}
use Rattle.job.specs.Buffers.{Answer, answer, ends, sized, plates_size, cuts_size}
use Rattle.job.specs.Job.{job_of, job_words, admission}
use Rattle.listing.specs.Listing.{model_row, listing_of, residual_types}
use Rattle.listing.specs.Records.{plate_words, cut_words}

-- `ws` are the job's words, `plates` and `cuts` the lent buffers as they were
unfoldable pub list_verdict : List ℕ → List ℕ → List ℕ → Verdict
list_verdict ws plates cuts =
    job_words ws
    then admission (job_of ws)
    then sized 1 plates_size plates
    then sized 2 cuts_size cuts
    then model_row (job_of ws)

-- "listing, the numbers of residual types and cuts"
unfoldable pub list_answer : List ℕ → List ℕ → List ℕ → Answer
list_answer ws plates cuts =
    let l = listing_of (job_of ws) in
    answer (list_verdict ws plates cuts) (residual_types l ∷ length l.cuts ∷ [])

-- "plates and cuts lent to any call that succeeds end as the listing": by the call's verdict
unfoldable pub plates_end : Verdict → List ℕ → List ℕ → List ℕ
plates_end v ws plates = ends v plates (plate_words (job_of ws) (listing_of (job_of ws)).plates)

unfoldable pub cuts_end : Verdict → List ℕ → List ℕ → List ℕ
cuts_end v ws cuts = ends v cuts (cut_words (listing_of (job_of ws)).cuts)
