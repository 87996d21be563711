-- Job words that pass the line row and the job row: the job is admitted, and where it has a listing demand 3 holds of it.
use Prim.Native.Nat.{ℕ}
use mathlib.Core.Path.{◌≡◌}
use mathlib.Core.List.{List}
use Rattle.job.specs.Verdict.{pass, ◌then◌}
use Rattle.job.specs.Job.{job_of, job_words, admission}
use Rattle.job.specs.Admitted.{Admitted, Sided, Stocked}
use Rattle.job.proofs.Verdicts.{then-both}
use Rattle.job.proofs.Admission.{admitted-words, admitted-job, admitted-sided, admitted-stocked}
use Rattle.listing.specs.Listing.{model_row}
use Rattle.layouts.specs.Demand3.{Demand3Of}
use Rattle.layouts.proofs.demand.Demand3.{demand3}

module _ (ws : List ℕ) (words : job_words ws ≡ pass) (fits : admission (job_of ws) ≡ pass) where
  pub admitted : Admitted (job_of ws)
  admitted = admitted-job ws ((admitted-words ws).0 (then-both (job_words ws) (admission (job_of ws)) words fits))

  pub sided : Sided (job_of ws)
  sided = admitted-sided (job_of ws) admitted

  pub stocked : Stocked (job_of ws)
  stocked = admitted-stocked (job_of ws) admitted

  pub demands : model_row (job_of ws) ≡ pass → Demand3Of ws
  demands row =
      let rows = then-both (admission (job_of ws)) (model_row (job_of ws)) fits row in
      demand3.every-listed ws (then-both (job_words ws) (admission (job_of ws) then model_row (job_of ws)) words rows)
