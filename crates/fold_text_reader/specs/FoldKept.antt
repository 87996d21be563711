-- Document 01, "Texts": what the code keeps of a fold text so far, in its state and in lent words.
use Rattle.std.specs.Prelude.{ℕ, ◌*◌, ◌≤◌, ◌<◌, ◌≡◌, List, [], length, take, replicate}
use Rattle.job.specs.Sizes.{words_of_placement, words_before, job_size, longest_job, word_of_type}
use Rattle.job.specs.Job.{max_sizes, max_types}
use Rattle.job.specs.Buffers.{placements_size}
use Rattle.listing.specs.Holds.{Holds}
use Rattle.texts.specs.Reader.{Reader, started, fed}
use Rattle.texts.specs.JobLines.{board_sizes, types_of}
use Rattle.texts.specs.FoldText.{Fold, fold_grammar}
use Rattle.texts_reading.specs.declared.text.Place.{Place}
use Rattle.texts_reading.specs.declared.text.Place.TheVariants.{First, Sizes, Types, Body, ItemPrices, PlatePrices, Done}
use Rattle.texts_reading.specs.Standing.{TextAt, TextKept, TextReady}
use Rattle.fold_text_reader.specs.declared.fold.FoldReader.{FoldReader}

-- the words of 4,000 lines of kind 7; of more lines than that none is kept
unfoldable pub layouts_size : ℕ
layouts_size = placements_size

-- the words of a job in the buffer that keeps them: as many as its own numbers of sizes and of types say
abbrev pub held_words : List ℕ → List ℕ
held_words job = take (job_size (board_sizes job) (types_of job)) job

-- the state's own numbers for what comes next: t and n are the job's words for the numbers of sizes and of types, and `rows` counts the lines of kind 7
abbrev pub PlaceReady : Place → ℕ → ℕ → ℕ → Type 0
PlaceReady First t n rows = rows ≡ 0
PlaceReady (Sizes j) t n rows = (j.0 < t) × (t ≤ max_sizes) × (1 ≤ n) × (n ≤ max_types) × (rows ≡ 0)
PlaceReady (Types i) t n rows = (1 ≤ i.0) × (i.0 ≤ n) × (n ≤ max_types) × (t ≤ max_sizes) × (rows ≡ 0)
PlaceReady Body t n rows = (t ≤ max_sizes) × (n ≤ max_types)
PlaceReady (ItemPrices i) t n rows = ⊥
PlaceReady (PlatePrices j) t n rows = ⊥
PlaceReady Done t n rows = ⊥

-- the state's own numbers are sound, and the lent words are of full size
pub record FoldReady (f : FoldReader) (job layouts : List ℕ) : Type 0 where
  pub text : TextReady f.text
  pub few : f.rows ≤ f.text.lines
  pub job-size : longest_job ≤ length job
  pub layouts-size : layouts_size ≤ length layouts
  pub place : PlaceReady f.text.place (board_sizes job) (types_of job) f.rows

-- how many words the job has so far
abbrev pub WordsSoFar : Place → List ℕ → Type 0
WordsSoFar First ws = ws ≡ []
WordsSoFar (Sizes j) ws = length ws ≡ words_before j.0
WordsSoFar (Types i) ws = length ws ≡ word_of_type (board_sizes ws) i.0
WordsSoFar Body ws = length ws ≡ job_size (board_sizes ws) (types_of ws)
WordsSoFar (ItemPrices i) ws = ⊥
WordsSoFar (PlatePrices j) ws = ⊥
WordsSoFar Done ws = ⊥

-- the state and the lent words keep what the definition's reader does: place, lines, verdict and pending bytes; the job's words; the number of the lines
-- of kind 7, and the words of the first 4,000; zeros behind the words
pub record FoldKept (r : Reader Fold) (f : FoldReader) (job layouts : List ℕ) : Type 0 where
  pub ready : FoldReady f job layouts
  pub text : TextKept (λ (s : Fold). s.place) r f.text
  pub job-words : Holds job r.state.job
  pub job-size : WordsSoFar f.text.place r.state.job
  pub rows : length r.state.layouts ≡ words_of_placement * f.rows
  pub layout-words : Holds layouts (take layouts_size r.state.layouts)

-- a step from one state and its lent words to another, which does to the definition's reader what `next` says
pub record Step (next : Reader Fold → Reader Fold) (f : FoldReader) (job layouts : List ℕ) (f' : FoldReader) (job' layouts' : List ℕ) : Type 0 where
  pub ready : FoldReady f' job' layouts'
  pub kept : (r : Reader Fold) → FoldKept r f job layouts → FoldKept (next r) f' job' layouts'

-- nothing is read yet: every lent word is 0, and where the words are of full size the definition's first reader is kept
pub record Started (job layouts : List ℕ) (f : FoldReader) (job' layouts' : List ℕ) : Type 0 where
  pub text : TextAt f.text First 0 0 []
  pub rows : f.rows ≡ 0
  pub job-zero : job' ≡ replicate (length job) 0
  pub layouts-zero : layouts' ≡ replicate (length layouts) 0
  pub kept : longest_job ≤ length job → layouts_size ≤ length layouts → FoldKept (started fold_grammar) f job' layouts'

-- a part is fed to a state and its lent words
pub record Fed (part : List ℕ) (f : FoldReader) (job layouts : List ℕ) (f' : FoldReader) (job' layouts' : List ℕ) : Type 0 where
  -- for every reader of the definition that was kept, that reader with the part fed to it is kept
  pub kept : (r : Reader Fold) → FoldKept r f job layouts → FoldKept (fed fold_grammar r part) f' job' layouts'
  -- a state that is not sound, or lent words that are not of full size, change nothing
  pub state-same : (FoldReady f job layouts → ⊥) → f' ≡ f
  pub job-same : (FoldReady f job layouts → ⊥) → job' ≡ job
  pub layouts_same : (FoldReady f job layouts → ⊥) → layouts' ≡ layouts
