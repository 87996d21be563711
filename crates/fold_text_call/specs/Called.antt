-- Document 01, "Texts": the answer to a fold text, from bytes to bytes, and what every lent word then is.
use Rattle.std.specs.Prelude.{ℕ, ◌≡◌, Bool, true, false, List, length, take}
use Rattle.job.specs.Buffers.{filled}
use Rattle.job.specs.Job.{job_of}
use Rattle.listing.specs.Listing.{listing_of}
use Rattle.listing.specs.Records.{plate_words, cut_words}
use Rattle.layouts.specs.Lines.{set_of}
use Rattle.layouts.specs.Fold.{folded}
use Rattle.columns.specs.Group.{put}
use Rattle.texts.specs.Reader.{Reader, started, fed}
use Rattle.texts.specs.FoldText.{Fold, fold_grammar, fold_text}
use Rattle.fold_text_reader.specs.FoldKept.{layouts_size}
use Rattle.fold_text_ending.specs.FoldEnd.{left_in, room_to_end}
use Rattle.fold_text_ending.specs.Finished.{verdict_at}

-- what a call is lent: bytes for the output; words for the job, the layouts, the plates, the cuts, the counts
pub record Lent : Type 0 where
  pub out : List ℕ
  pub job : List ℕ
  pub layouts : List ℕ
  pub plates : List ℕ
  pub cuts : List ℕ
  pub counts : List ℕ

abbrev pub lent : List ℕ → List ℕ → List ℕ → List ℕ → List ℕ → List ℕ → Lent
lent out job layouts plates cuts counts = record { out = out; job = job; layouts = layouts; plates = plates; cuts = cuts; counts = counts }

-- every buffer has its full size, and the output room for the longest
abbrev pub room_in : Lent → Bool
room_in b = room_to_end (length b.job) (length b.layouts) (length b.plates) (length b.cuts) (length b.counts) (length b.out)

-- the definition's reader after the whole text
abbrev pub read_of : List ℕ → Reader Fold
read_of text = fed fold_grammar (started fold_grammar) text

-- the answer stands at the start of the output, and its bytes are counted; the job and the layouts are the words of the lines admitted, of lines 7 the
-- first 4,000; plates and cuts are the listing and counts the plan, or zeros
pub record AnswerLeft (text : List ℕ) (b : Lent) (n : ℕ) (b' : Lent) : Type 0 where
  pub size : n ≡ length (fold_text text)
  pub output : b'.out ≡ put b.out 0 (fold_text text)
  pub job-left : b'.job ≡ filled (length b.job) (read_of text).state.job
  pub layouts-left : b'.layouts ≡ filled (length b.layouts) (take layouts_size (read_of text).state.layouts)
  pub plates-left : b'.plates ≡ left_in (verdict_at (read_of text)) (length b.plates) (plate_words (job_of (read_of text).state.job) (listing_of (job_of (read_of text).state.job)).plates)
  pub cuts-left : b'.cuts ≡ left_in (verdict_at (read_of text)) (length b.cuts) (cut_words (listing_of (job_of (read_of text).state.job)).cuts)
  pub counts-left : b'.counts ≡ left_in (verdict_at (read_of text)) (length b.counts) (folded (job_of (read_of text).state.job) (listing_of (job_of (read_of text).state.job)) (set_of (read_of text).state.layouts))

-- a call answers the text; where there is no room nothing changes, and 0 is handed back
pub record Called (text : List ℕ) (b : Lent) (n : ℕ) (b' : Lent) : Type 0 where
  pub answered : room_in b ≡ true → AnswerLeft text b n b'
  pub short : room_in b ≡ false → (n ≡ 0) × (b' ≡ b)
