-- Document 01, "Texts", with the sizes of request Six: lines of kinds 1, 10 and 2 as the job's words, in a lent buffer.
use Rattle.std.specs.Prelude.{ℕ, ◌≤◌, ◌≡◌, List, [], ◌∷◌, ◌++◌, length, drop}
use Rattle.job.specs.Sizes.{words_before, word_of_type}
use Rattle.job.specs.Job.{max_sizes, max_types}
use Rattle.listing.specs.Holds.{Holds}
use Rattle.texts.specs.Shape.{job_line, size_line, item_line, numbers_row}
use Rattle.texts.specs.JobLines.{board_sizes, types_of}
use Rattle.texts_reading.specs.Judged.{line_verdict}

-- the numbers of sizes and of types that the words of a job's head give are those of others
pub record SameHead (job job' : List ℕ) : Type 0 where
  pub sizes : board_sizes job' ≡ board_sizes job
  pub types : types_of job' ≡ types_of job

-- line 1 with the numbers ns, over a job's words that become others; r is the number of its refusal, or 0
pub record FirstRead (ns job job' : List ℕ) (r : ℕ) : Type 0 where
  pub row : (line : ℕ) → line_verdict r line ≡ numbers_row line (job_line ∷ []) ns
  -- refused, it changes no word
  pub unchanged : (r ≡ 0 → ⊥) → job' ≡ job
  -- else its numbers after the kind are the first words, and the numbers of sizes and of types are within their limits
  pub read : r ≡ 0 → Holds job [] → Holds job' (drop 1 ns)
  pub sizes : r ≡ 0 → (1 ≤ board_sizes job') × (board_sizes job' ≤ max_sizes)
  pub types : r ≡ 0 → (1 ≤ types_of job') × (types_of job' ≤ max_types)

-- line 10 of size j
pub record SizeRead (j : ℕ) (ns job job' : List ℕ) (r : ℕ) : Type 0 where
  pub row : (line : ℕ) → line_verdict r line ≡ numbers_row line (size_line j ∷ []) ns
  pub unchanged : (r ≡ 0 → ⊥) → job' ≡ job
  -- its numbers after the size are the next words, and the head stays
  pub read : r ≡ 0 → (ws : List ℕ) → length ws ≡ words_before j → Holds job ws → Holds job' (ws ++ drop 2 ns)
  pub same : r ≡ 0 → SameHead job job'

-- line 2 of type i
pub record ItemRead (i : ℕ) (ns job job' : List ℕ) (r : ℕ) : Type 0 where
  pub row : (line : ℕ) → line_verdict r line ≡ numbers_row line (item_line i ∷ []) ns
  pub unchanged : (r ≡ 0 → ⊥) → job' ≡ job
  -- its numbers after the type are the next words, and the head stays
  pub read : r ≡ 0 → (ws : List ℕ) → length ws ≡ word_of_type (board_sizes job) i → Holds job ws → Holds job' (ws ++ drop 2 ns)
  pub same : r ≡ 0 → SameHead job job'
