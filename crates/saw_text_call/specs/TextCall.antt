-- Document 01, "Texts": the saw text as one call, from bytes to bytes: what it writes, and what it leaves in every lent buffer.
use Rattle.std.specs.Prelude.{ℕ, ◌≡◌, List, [], length}
use Rattle.std.proofs.Math.Option.{Option, none, some}
use Rattle.job.specs.Verdict.{Verdict, pass, refuse}
use Rattle.job.specs.Buffers.{filled}
use Rattle.job.specs.Job.{job_of}
use Rattle.listing.specs.Listing.{listing_of}
use Rattle.listing.specs.ListCall.{list_verdict, plates_end, cuts_end}
use Rattle.columns.specs.Group.{put}
use Rattle.texts.specs.JobLines.{Place, first, sizes, types, body, item_prices, plate_prices, done}
use Rattle.texts.specs.SawText.{PriceLines, Saw, plan_counts, saw_text}
use Rattle.texts.specs.Printed.{saw_holds}
use Rattle.texts.specs.Refused.{verdict_on_saw}
use Rattle.saw_text_body.specs.PlanRead.{risen}
use Rattle.saw_text_lines.specs.SawKept.{Lent}
use Rattle.saw_text_ending.specs.SawEnd.{placed_end, RoomToEnd}

-- what the reader has listed: nothing before the job's lines are complete, which is as if refused; from then on what the listing call says of the job's words
abbrev pub listed_by : Place → List ℕ → Lent → Verdict
listed_by first ws b = refuse 1 0
listed_by (sizes j) ws b = refuse 1 0
listed_by (types i) ws b = refuse 1 0
listed_by body ws b = list_verdict ws b.plates b.cuts
listed_by (item_prices i) ws b = list_verdict ws b.plates b.cuts
listed_by (plate_prices j) ws b = list_verdict ws b.plates b.cuts
listed_by done ws b = list_verdict ws b.plates b.cuts

-- the counts of the lines 3 before the first whose cut is not after the last, none where the job is not listed
abbrev pub counts_by : Verdict → Saw → List ℕ
counts_by pass s = let l = listing_of (job_of s.job) in plan_counts l (risen l 0 s.plan)
counts_by (refuse number place) s = []

-- the words of the lines 4, 5 and 6
abbrev pub prices_by : Option PriceLines → List ℕ
prices_by none = []
prices_by (some ps) = ps.words

-- the reader's buffers after a text that holds s, from the buffers b: each its words and then zeros, plates and cuts as the listing call leaves them
pub record LentAfter (s : Saw) (b b' : Lent) : Type 0 where
  pub job : b'.job ≡ filled (length b.job) s.job
  pub plates : b'.plates ≡ plates_end (listed_by s.place s.job b) s.job b.plates
  pub cuts : b'.cuts ≡ cuts_end (listed_by s.place s.job b) s.job b.cuts
  pub counts : b'.counts ≡ filled (length b.counts) (counts_by (listed_by s.place s.job b) s)
  pub prices : b'.prices ≡ filled (length b.prices) (prices_by s.prices)

-- the answer stands at the start of the output, the bytes behind it as they were; every lent word is that of the definitions
pub record SawAnswered (bs : List ℕ) (b : Lent) (placements out : List ℕ) (n : ℕ) (b' : Lent) (placements' out' : List ℕ) : Type 0 where
  pub size : n ≡ length (saw_text bs)
  pub output : out' ≡ put out 0 (saw_text bs)
  pub placed : placements' ≡ placed_end (verdict_on_saw bs) (saw_holds bs) placements
  pub lent : LentAfter (saw_holds bs) b b'

-- nothing is written, and no lent word changes
pub record SawUnchanged (b : Lent) (placements out : List ℕ) (n : ℕ) (b' : Lent) (placements' out' : List ℕ) : Type 0 where
  pub none_written : n ≡ 0
  pub output : out' ≡ out
  pub placed : placements' ≡ placements
  pub lent : b' ≡ b

-- the saw text as one call, by whether there is room: full sizes of the lent buffers, and the longest output
pub record SawCall (bs : List ℕ) (b : Lent) (placements out : List ℕ) (n : ℕ) (b' : Lent) (placements' out' : List ℕ) : Type 0 where
  pub answered : RoomToEnd b placements out → SawAnswered bs b placements out n b' placements' out'
  pub unchanged : (RoomToEnd b placements out → ⊥) → SawUnchanged b placements out n b' placements' out'
