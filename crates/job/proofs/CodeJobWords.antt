-- What the code knows of words that passed the line row: as many sizes and item types as it says.
use mathlib.Core.Path.{◌≡◌, ◌∙◌}
use Prim.Native.Nat.{ℕ}
use mathlib.Core.List.{List}
use native.Mathlib.Omega.{arith}
use lib.ListN.{length}
use Rattle.job.specs.declared.mode.Mode.{Mode}
use Rattle.job.specs.Job.{job_of}
use Rattle.job.specs.JobWords.{JobWords}
use Rattle.job.proofs.SizeWords.{sizes-length}
use Rattle.job.proofs.ItemWords.{items-length}

module _ {ws : List ℕ} {mode : Mode} {t n : ℕ} (w : JobWords ws mode t n) where
  pub words-sizes : length (job_of ws).sizes ≡ t
  words-sizes = sizes-length ws (omega (arith, w.words, w.sizes)) ∙ w.sizes

  pub words-items : length (job_of ws).items ≡ n
  words-items = items-length ws n (omega (arith, w.words, w.sizes))
