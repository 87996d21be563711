-- The table of a job's positions (request One), as the code keeps it for the walk: eight words for each number of a position, of which those of a permitted
-- one say its sides, from which side on what its cut leaves is kept, and which permitted position comes next.
use Rattle.std.specs.Prelude.{ℕ, ◌+◌, ◌*◌, ◌≤◌, ◌<◌, ◌≡◌, ◌⊎◌, true, false, List, length, get_or}
use Rattle.job.specs.Sizes.{max_types}
use Rattle.job.specs.Job.{Job, positions, position_at, permitted}
use Rattle.listing.specs.Plate.{plate}
use Rattle.listing_positions.specs.Least.{least_of}

-- the words of a position, of which five are used
abbrev pub words_of_position : ℕ
words_of_position = 8

-- the words of the table: positions are numbered from 2 to twice the item types plus 1
abbrev pub table_size : ℕ
table_size = words_of_position * (2 * max_types + 2)

-- word w of position q
abbrev pub word_at : List ℕ → ℕ → ℕ → ℕ
word_at table q w = get_or table (words_of_position * q + w) 0

-- x is the permitted position that follows position q, or past the last: the next number, or, where that is not permitted, the one after it
pub record Next (job : Job) (q x : ℕ) : Type 0 where
  pub follows : (x ≡ q + 1) ⊎ ((x ≡ q + 2) × (permitted job (q + 1) ≡ false))
  pub allowed : x ≤ length (positions job) → permitted job x ≡ true

-- the words of position q: its sides; the least width of a right that is as high as it lies; the least height of a top of stage 3 that is as wide; the next
pub record Tabled (job : Job) (table : List ℕ) (q : ℕ) : Type 0 where
  pub width : word_at table q 0 ≡ (position_at job q).width
  pub height : word_at table q 1 ≡ (position_at job q).height
  pub right : word_at table q 2 ≡ least_of job (plate 0 (position_at job q).height 2)
  pub top : word_at table q 3 ≡ least_of job (plate (position_at job q).width 0 3)
  pub next : Next job q (word_at table q 4)

-- the table has every permitted position below q
pub record TableTo (job : Job) (q : ℕ) (table : List ℕ) : Type 0 where
  pub each : (x : ℕ) → permitted job x ≡ true → x < q → Tabled job table x

-- the table has every permitted position
pub record Table (job : Job) (table : List ℕ) : Type 0 where
  pub each : (q : ℕ) → permitted job q ≡ true → Tabled job table q
