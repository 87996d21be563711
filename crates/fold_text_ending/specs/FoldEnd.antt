-- Document 01, "Texts": what is kept of a fold text that ends, and what is then written and left in the lent plates, cuts and counts.
use Rattle.std.specs.Prelude.{ℕ, ◌*◌, ◌≤◌, ◌<◌, ◌≡◌, Bool, ◌&&◌, List, leb, length, take, replicate}
use Rattle.job.specs.Sizes.{words_of_plate, words_of_placement, longest_job, RecordIn}
use Rattle.job.specs.Verdict.{Verdict, pass, refuse, ◌then◌}
use Rattle.job.specs.Buffers.{filled, plates_size, cuts_size, counts_size, placements_size}
use Rattle.job.specs.Job.{job_of, job_words, admission}
use Rattle.listing.specs.Listing.{model_row, listing_of, max_cuts}
use Rattle.listing.specs.Records.{plate_words, cut_words}
use Rattle.listing.specs.Holds.{Holds}
use Rattle.listing.specs.CutRead.{cut_read}
use Rattle.layouts.specs.Lines.{rows_of, layout_words, set_of}
use Rattle.layouts.specs.LayoutsRow.{layouts_row}
use Rattle.layouts.specs.Fold.{folded}
use Rattle.fold_counts.specs.Lent.{CutsLent}
use Rattle.texts.specs.JobLines.{body, body_line}
use Rattle.texts.specs.Reader.{Reader, max_lines, text_row, written}
use Rattle.texts.specs.FoldText.{Fold, fold_of, fold_grammar, fold_lines}
use Rattle.texts_reading.specs.declared.text.TextReader.{TextReader}
use Rattle.texts_reading.specs.Standing.{TextKept}
use Rattle.fold_text_reader.specs.FoldKept.{layouts_size}
use Rattle.texts_writing.specs.Wrote.{Wrote, longest_fold}

-- the rows after the line row: job, model, layouts
abbrev pub last_rows : List ℕ → List ℕ → Verdict
last_rows ws ls =
    admission (job_of ws) then model_row (job_of ws) then layouts_row (body_line ws) (job_of ws) (rows_of ls)

-- `ws` are the words of an admitted job, and the buffers hold its listing, of k cuts
pub record ListedLent (ws plates cuts : List ℕ) (k : ℕ) : Type 0 where
  pub words : job_words ws ≡ pass
  pub admitted : admission (job_of ws) ≡ pass
  pub modelled : model_row (job_of ws) ≡ pass
  pub plates-hold : Holds plates (plate_words (job_of ws) (listing_of (job_of ws)).plates)
  pub cuts-hold : Holds cuts (cut_words (listing_of (job_of ws)).cuts)
  pub lent : CutsLent (listing_of (job_of ws)) cuts k
  pub few-cuts : k ≤ max_cuts
  -- request Five: each cut is on a plate type whose words are in the buffer
  pub plates-there : (c : ℕ) → c < k → RecordIn words_of_plate (cut_read cuts c).plate plates

-- what is kept of a fold text that passes the line row: the job's words, the number of its lines 7, and the words of the first 4,000 of them
pub record WholeKept (ws ls : List ℕ) (rows : ℕ) (job layouts : List ℕ) : Type 0 where
  pub words : Holds job ws
  pub passed : job_words ws ≡ pass
  pub size : length ls ≡ words_of_placement * rows
  pub lines : layout_words (job_of ws) ls ≡ pass
  pub first-lines : Holds layouts (take layouts_size ls)

-- what is kept of a fold text that ends: where it stands, and, if it passes the line row, what it holds
pub record TextEnds (r : Reader Fold) (text : TextReader) (rows : ℕ) (job layouts : List ℕ) : Type 0 where
  pub stands : TextKept (λ s. s.place) r text
  pub few : r.lines ≤ max_lines
  pub whole : text_row fold_grammar r ≡ pass → WholeKept r.state.job r.state.layouts rows job layouts

-- a lent buffer of a size, by the verdict: words and then zeros, or, refused, zeros
abbrev pub left_in : Verdict → ℕ → List ℕ → List ℕ
left_in pass size ws = filled size ws
left_in (refuse number place) size ws = replicate size 0

-- the answer by a verdict: the bytes written at the start of the output, how many they are, and the listing and the plan in lent buffers of some sizes
pub record Answered (v : Verdict) (ws ls out : List ℕ) (plates cuts counts n : ℕ) (out' plates' cuts' counts' : List ℕ) : Type 0 where
  pub wrote : Wrote out 0 (written v (fold_lines (fold_of body ws ls))) n out'
  pub plates-left : plates' ≡ left_in v plates (plate_words (job_of ws) (listing_of (job_of ws)).plates)
  pub cuts-left : cuts' ≡ left_in v cuts (cut_words (listing_of (job_of ws)).cuts)
  pub counts-left : counts' ≡ left_in v counts (folded (job_of ws) (listing_of (job_of ws)) (set_of ls))

-- every buffer has its full size, and the output room for the longest: lengths of the job's words, layout words, plates, cuts, counts, output
unfoldable pub room_to_end : ℕ → ℕ → ℕ → ℕ → ℕ → ℕ → Bool
room_to_end job layouts plates cuts counts out =
    leb longest_job job
    && leb placements_size layouts
    && leb plates_size plates
    && leb cuts_size cuts
    && leb counts_size counts
    && leb longest_fold out

-- nothing is written
pub record Unchanged (out plates cuts counts : List ℕ) (n : ℕ) (out' plates' cuts' counts' : List ℕ) : Type 0 where
  pub none : n ≡ 0
  pub output : out' ≡ out
  pub plates-are : plates' ≡ plates
  pub cuts_are : cuts' ≡ cuts
  pub counts-are : counts' ≡ counts
