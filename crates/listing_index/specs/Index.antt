-- The index of residual types, as the code keeps it beside the plates: buckets, and in each the numbers from the greatest down. Document 01, "Numbering":
-- "a type met before keeps its number"; the index is how that number is found.
use Rattle.std.specs.Prelude.{ℕ, zero, suc, ◌+◌, ◌*◌, ◌%◌, ◌≤◌, ◌<◌, ◌≡◌, Bool, cond, ◌&&◌, List, leb, eqb, length, get_or}
use Rattle.job.specs.Sizes.{max_sizes, max_side, max_types, max_plates}
use Rattle.job.specs.Job.{Job}
use Rattle.job.specs.Admitted.{Admitted}
use Rattle.listing.specs.declared.plate.Plate.{Plate}
use Rattle.listing.specs.Plate.{waste}
use Rattle.listing.specs.Listing.{Listing}
use Rattle.listing.specs.Reached.{Reached}

-- the buckets: a prime above the greatest side
abbrev pub buckets : ℕ
buckets = 10007

-- the words of the index: one for each bucket, and behind them one for each plate type
abbrev pub index_size : ℕ
index_size = buckets + max_plates

-- what a height and a stage count for beside a width
abbrev pub height_factor : ℕ
height_factor = 6185

abbrev pub stage_factor : ℕ
stage_factor = 3121

abbrev pub bucket_sum : Plate → ℕ
bucket_sum p = p.width + height_factor * p.height + stage_factor * p.stage

-- the bucket of a plate type
unfoldable pub bucket_of : Plate → ℕ
bucket_of p = bucket_sum p % buckets

-- plate type j is a residual type, past the t sizes (request Six), and in bucket b
abbrev pub in_bucket : ℕ → List Plate → ℕ → ℕ → Bool
in_bucket t ps b j = leb t j && eqb (bucket_of (get_or ps j waste)) b

-- one more than the greatest number below a limit that is in bucket b; 0 where there is none
unfoldable pub latest : ℕ → List Plate → ℕ → ℕ → ℕ
latest t ps b zero = 0
latest t ps b (suc j) = cond (in_bucket t ps b j) (suc j) (latest t ps b j)

-- the index of the plate types `ps`, of which the first t are sizes and the others are distinct
pub record Indexed (t : ℕ) (ps : List Plate) (index : List ℕ) : Type 0 where
  -- of each bucket, the greatest number
  pub heads : (b : ℕ) → b < buckets → get_or index b 0 ≡ latest t ps b (length ps)
  -- of each number, the one before it in its bucket
  pub nexts : (j : ℕ) → j < length ps → get_or index (buckets + j) 0 ≡ latest t ps (bucket_of (get_or ps j waste)) j
  -- no two residual types are the same
  pub distinct : (i j : ℕ) → t ≤ i → t ≤ j → i < length ps → j < length ps → get_or ps i waste ≡ get_or ps j waste → i ≡ j

-- what a search needs to stay within m plate types and to end: from each number it goes on to a lower one
pub record Chained (index : List ℕ) (m : ℕ) : Type 0 where
  -- every word is there
  pub long : index_size ≤ length index
  pub few : m ≤ max_plates
  -- a bucket begins with one of the m numbers
  pub heads : (b : ℕ) → b < buckets → get_or index b 0 ≤ m
  -- a number is followed by a lower one
  pub nexts : (j : ℕ) → j < m → get_or index (buckets + j) 0 ≤ j

-- p is none of the residual types
abbrev pub New : ℕ → List Plate → Plate → Type 0
New t ps p = (j : ℕ) → t ≤ j → j < length ps → get_or ps j waste ≡ p → ⊥

-- Two plate types in one bucket with the same stage that have one side in common have both.
pub record OneEach : Type 0 where
  pub by_width : (p q : Plate) → p.height ≤ max_side → q.height ≤ max_side → bucket_of p ≡ bucket_of q → p.stage ≡ q.stage → p.width ≡ q.width → p ≡ q
  pub by_height : (p q : Plate) → p.width ≤ max_side → q.width ≤ max_side → bucket_of p ≡ bucket_of q → p.stage ≡ q.stage → p.height ≡ q.height → p ≡ q

-- how many numbers below a limit pass a test
unfoldable pub counted : (ℕ → Bool) → ℕ → ℕ
counted f zero = 0
counted f (suc j) = cond (f j) 1 0 + counted f j

-- of the first n plate types those in bucket b, along which a search goes down, looking at each once at the most: no more than the job has sizes and twice
-- its positions, of which each item type has two; 166 for the greatest jobs
pub record FewInBucket (job : Job) (l : Listing) (b n : ℕ) : Type 0 where
  pub by-job : counted (in_bucket (length job.sizes) l.plates b) n ≤ length job.sizes + 4 * length job.items
  pub at_most : counted (in_bucket (length job.sizes) l.plates b) n ≤ max_sizes + 4 * max_types

-- How many plate types a search looks at: so few, whatever the job, at every place that the walk comes to, also where it is then refused with 6 or 7.
abbrev pub ShortSearches : Type 0
ShortSearches = (job : Job) → Admitted job → (j i : ℕ) (l : Listing) → Reached job j i l → (b n : ℕ) → n ≤ length l.plates → FewInBucket job l b n
