-- The job's words in the buffer that a text keeps them in, and what the listing of that job says of the job row and the model row.
use Prim.Native.Nat.{ℕ, ◌-◌, ◌≤◌}
use native.Mathlib.Omega.{arith}
use mathlib.Core.Path.{◌≡◌, sym, ap, ap₂, ◌∙◌}
use mathlib.Core.List.{List}
use lib.ListN.{length, take, replicate}
use lib.Seq.{take_at}
use Rattle.job.specs.Sizes.{max_sizes, max_types, job_size, plates_size, cuts_size}
use Rattle.job.specs.Verdict.{pass, refuse}
use Rattle.job.specs.Buffers.{filled}
use Rattle.job.specs.Job.{job_words}
use Rattle.job.proofs.Buffers.{sized-full}
use Rattle.job.proofs.CodeAdmission.{passed_length, passed-few-sizes, passed-few}
use Rattle.listing.specs.Holds.{Holds}
use Rattle.listing.specs.ListCall.{list_verdict}
use Rattle.listing.proofs.CodeHolds.{held_word}
use Rattle.texts.specs.JobLines.{board_sizes, types_of}
use Rattle.texts_reading.specs.TextEnd.{job_model_row}

-- the first words of a buffer that holds words
pub held-take : {buffer ws : List ℕ} (n : ℕ) → length ws ≡ n → Holds buffer ws → take n buffer ≡ ws
unfolding filled
held-take {buffer} {ws} n e h = ap (take n) h.words ∙ take_at ws (replicate (length buffer - length ws) 0) n e

-- a buffer that holds job words: as many as its own numbers of sizes and of types say
module _ (job ws : List ℕ) (held : Holds job ws) (passed : job_words ws ≡ pass) where
  sizes-kept : board_sizes job ≡ board_sizes ws
  sizes-kept = held_word ws held 2

  types-kept : types_of job ≡ types_of ws
  types-kept = held_word ws held 3

  pub few-sizes-kept : board_sizes job ≤ max_sizes
  few-sizes-kept = omega (arith, sizes-kept, passed-few-sizes ws passed)

  pub few-kept : types_of job ≤ max_types
  few-kept = omega (arith, types-kept, passed-few ws passed)

  pub words-kept : take (job_size (board_sizes job) (types_of job)) job ≡ ws
  words-kept =
      held-take (job_size (board_sizes job) (types_of job)) (passed_length ws passed ∙ ap₂ job_size (sym sizes-kept) (sym types-kept)) held

-- a listing that is refused, its lent buffers of full size, is refused by the job row or the model row
pub list-refused :
    (ws plates cuts : List ℕ) {number place : ℕ}
    → plates_size ≤ length plates
    → cuts_size ≤ length cuts
    → job_words ws ≡ pass
    → list_verdict ws plates cuts ≡ refuse number place
    → job_model_row ws ≡ refuse number place
unfolding list_verdict
list-refused ws plates cuts p c w v =
    rw (w, sized-full 1 plates_size plates p, sized-full 2 cuts_size cuts c) at v
