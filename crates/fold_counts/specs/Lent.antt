-- What the code knows of the words that it is lent: the cuts of a listing, the lines of layouts, and counts so far.
use Rattle.std.specs.Prelude.{ℕ, ◌+◌, ◌*◌, ◌^◌, ◌≤◌, ◌<◌, ◌≡◌, List, length}
use Rattle.job.specs.Sizes.{max_side, max_pieces, words_of_cut, job_size}
use Rattle.job.specs.Lists.{tally}
use Rattle.job.specs.Job.{board_sizes, job_of, type_of, position_at}
use Rattle.listing.specs.Listing.{Listing}
use Rattle.listing.specs.Holds.{Holds}
use Rattle.listing.specs.CutRead.{cuts_read}
use Rattle.listing_find.specs.Rising.{Rising}
use Rattle.layouts_strips.specs.Measures.{LentLines}

-- the buffer has the k cuts of a listing, which rise
pub record CutsLent (l : Listing) (cuts : List ℕ) (k : ℕ) : Type 0 where
  pub listed : l.cuts ≡ cuts_read k cuts
  pub rising : Rising l.cuts
  pub cut-words : words_of_cut * k ≤ length cuts

-- layout words of a number of lines, at most 4,000, whose item types are the job's; the sides of these, in both turns, are within their limits
pub record LinesLent (ws layouts : List ℕ) (lines : ℕ) : Type 0 where
  pub lines-lent : LentLines ws layouts lines
  pub sides : (q : ℕ) → 1 ≤ type_of q → job_size (board_sizes ws) (type_of q) ≤ length ws → ((position_at (job_of ws) q).width ≤ max_side) × ((position_at (job_of ws) q).height ≤ max_side)

-- the buffer has a count for each of k cuts: how often it was done so far; n more can be counted
pub record Counting (counts : List ℕ) (k n : ℕ) : Type 0 where
  pub so_far : List ℕ
  pub held : Holds counts (tally k 1 so_far)
  pub few : length so_far + n < 2 ^ 16
  pub room : k ≤ length counts

-- what can still be counted where a strip begins, which is more than its cuts are: at most as many as there are pieces
abbrev pub strip_room : ℕ
strip_room = 4 * max_pieces

-- the same behind the first cut of a strip of three stages
abbrev pub others_room : ℕ
others_room = 3 * max_pieces
