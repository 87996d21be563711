-- Document 01, "Texts": what the end of a fold text leaves, in the output and in the lent plates, cuts and counts.
use Rattle.std.specs.Prelude.{ℕ, ◌≡◌, List, length}
use Rattle.job.specs.Verdict.{Verdict, ◌then◌}
use Rattle.job.specs.Job.{job_of}
use Rattle.listing.specs.Listing.{listing_of}
use Rattle.listing.specs.Records.{plate_words, cut_words}
use Rattle.layouts.specs.Lines.{set_of}
use Rattle.layouts.specs.Fold.{folded}
use Rattle.columns.specs.Group.{put}
use Rattle.texts.specs.Reader.{Reader, text_row}
use Rattle.texts.specs.FoldText.{Fold, fold_grammar, fold_rows, fold_written}
use Rattle.fold_text_ending.specs.FoldEnd.{left_in}

-- the verdict of a text that ends
abbrev pub verdict_at : Reader Fold → Verdict
verdict_at r = text_row fold_grammar r then fold_rows r.state

-- the answer to the text stands at the start of the output, and its bytes are counted; plates and cuts are the listing and counts the plan, or zeros
pub record Finished (r : Reader Fold) (out plates cuts counts : List ℕ) (n : ℕ) (out' plates' cuts' counts' : List ℕ) : Type 0 where
  pub size : n ≡ length (fold_written r)
  pub output : out' ≡ put out 0 (fold_written r)
  pub plates-left : plates' ≡ left_in (verdict_at r) (length plates) (plate_words (job_of r.state.job) (listing_of (job_of r.state.job)).plates)
  pub cuts-left : cuts' ≡ left_in (verdict_at r) (length cuts) (cut_words (listing_of (job_of r.state.job)).cuts)
  pub counts-left : counts' ≡ left_in (verdict_at r) (length counts) (folded (job_of r.state.job) (listing_of (job_of r.state.job)) (set_of r.state.layouts))
