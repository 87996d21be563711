-- Document 01, "Texts": what is kept of a saw text that ends, and what is then written and left in the lent placements.
use Rattle.std.specs.Prelude.{ℕ, ◌≤◌, ◌≡◌, List, [], length, replicate}
use Rattle.job.specs.Verdict.{Verdict, pass, refuse}
use Rattle.job.specs.Sizes.{counts_size, placements_size, prices_size}
use Rattle.job.specs.Buffers.{filled}
use Rattle.job.specs.Job.{job_of, job_words}
use Rattle.listing.specs.Listing.{listing_of}
use Rattle.listing.specs.Holds.{Holds}
use Rattle.listing.specs.CutRead.{cuts_read}
use Rattle.listing.specs.CutRead.{Lent as CutsLent}
use Rattle.layouts.specs.Placement.{placement_words}
use Rattle.unfold_step.specs.Ready.{ModelLent}
use Rattle.texts.specs.JobLines.{board_sizes, types_of}
use Rattle.texts.specs.Reader.{Reader, max_lines, text_row, written}
use Rattle.texts.specs.SawText.{Saw, saw_grammar, saw_lines}
use Rattle.texts.specs.Printed.{saw_run}
use Rattle.texts_reading.specs.declared.text.TextReader.{TextReader}
use Rattle.texts_reading.specs.Standing.{TextKept}
use Rattle.saw_text_lines.specs.declared.held.SawHeld.{SawHeld}
use Rattle.saw_text_body.specs.ModelRead.{ModelKept}
use Rattle.saw_text_lines.specs.SawKept.{Lent, Room, PlanHeld}
use Rattle.texts_writing.specs.Wrote.{Wrote, longest_saw}
use Rattle.saw_text_rows.specs.Tail.{PricesEnd}

-- `ws` are the words of an admitted job, and the buffers hold its listing, of m plate types and k cuts
pub record ListedLent (ws plates cuts : List ℕ) (m k : ℕ) : Type 0 where
  pub words : job_words ws ≡ pass
  pub lent : CutsLent ws cuts (board_sizes ws) (types_of ws) m k
  pub sizes : (listing_of (job_of ws)).sizes ≡ board_sizes ws
  pub types : length (listing_of (job_of ws)).plates ≡ m
  pub listed : (listing_of (job_of ws)).cuts ≡ cuts_read k cuts
  pub model : ModelLent ws plates cuts k

-- buffers of full size, placements cleared, and room for the longest output
pub record Ready (counts prices placements out : List ℕ) : Type 0 where
  pub for-counts : counts_size ≤ length counts
  pub for-prices : prices_size ≤ length prices
  pub cleared : Holds placements []
  pub for-placements : placements_size ≤ length placements
  pub for-out : longest_saw ≤ length out

-- what is kept of a saw text that passes the line row: the job's words, the model as the listing call left it, the lines 3, the prices
pub record WholeKept (s : Saw) (h : SawHeld) (b : Lent) : Type 0 where
  pub words : Holds b.job s.job
  pub passed : job_words s.job ≡ pass
  pub model : ModelKept s.job h.model b.plates b.cuts
  pub plan : PlanHeld s.job h.model s.plan h.plan b.counts
  pub prices : PricesEnd s.prices h.prices b.prices

-- what is kept of a saw text that ends: where it stands, and, if it passes the line row, what it holds
pub record TextEnds (r : Reader Saw) (text : TextReader) (h : SawHeld) (b : Lent) : Type 0 where
  pub room : Room b
  pub stands : TextKept (λ s. s.place) r text
  pub few : r.lines ≤ max_lines
  pub whole : text_row saw_grammar r ≡ pass → WholeKept r.state h b

-- lent placements, by the verdict: the words of each piece and then zeros, or, refused, zeros
abbrev pub placed_end : Verdict → Saw → List ℕ → List ℕ
placed_end pass s placements = filled (length placements) (placement_words (saw_run s).placements)
placed_end (refuse number place) s placements = replicate (length placements) 0

-- the answer by a verdict: the bytes written at the start of the output, how many they are, and the placements
pub record Answered (v : Verdict) (s : Saw) (out placements : List ℕ) (n : ℕ) (out' placements' : List ℕ) : Type 0 where
  pub wrote : Wrote out 0 (written v (saw_lines s)) n out'
  pub placed : placements' ≡ placed_end v s placements

-- every buffer has its full size, and the output room for the longest
pub record RoomToEnd (b : Lent) (placements out : List ℕ) : Type 0 where
  pub lent : Room b
  pub for-placements : placements_size ≤ length placements
  pub for-out : longest_saw ≤ length out

-- nothing is written
pub record Unchanged (out placements : List ℕ) (n : ℕ) (out' placements' : List ℕ) : Type 0 where
  pub none : n ≡ 0
  pub output : out' ≡ out
  pub placements-are : placements' ≡ placements
