-- What a job that is lent with its cuts says of itself: as many sizes and item types as the code counts.
use mathlib.Core.Path.{◌≡◌, ◌∙◌}
use Prim.Native.Nat.{ℕ}
use mathlib.Core.List.{List}
use native.Mathlib.Omega.{arith}
use lib.ListN.{length, get_or}
use Rattle.job.specs.Sizes.{job_size}
use Rattle.job.specs.Job.{job_of}
use Rattle.job.proofs.SizeWords.{sizes-length}
use Rattle.job.proofs.ItemWords.{items-length}
use Rattle.listing.specs.CutRead.{Lent}

module _ {job cuts : List ℕ} {t n m k : ℕ} (lent : Lent job cuts t n m k) where
  -- its words, by the number of sizes that they have
  pub lent-words : length job ≡ job_size (get_or job 2 0) n
  lent-words = omega (arith, lent.job-words, lent.job-sizes)

  pub lent-sizes : length (job_of job).sizes ≡ t
  lent-sizes = sizes-length job (omega (arith, lent-words)) ∙ lent.job-sizes

  pub lent-items : length (job_of job).items ≡ n
  lent-items = items-length job n lent-words
