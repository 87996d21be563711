-- How the code's walk stands to the walk of the model: buffers, tables and counters that hold a listing, from which the rest of the walk is the whole.
use Rattle.std.specs.Prelude.{ℕ, ◌+◌, ◌-◌, ◌*◌, ◌≤◌, ◌<◌, ◌≡◌, true, cond, List, leb, eqb, length, get_or, drop, Result, Ok, Err}
use Rattle.job.specs.declared.mode.Mode.{Mode}
use Rattle.job.specs.Mode.{three}
use Rattle.job.specs.declared.refused.Refusal.{Refusal}
use Rattle.job.specs.declared.refused.Refusal.TheVariants.{PlatesMany}
use Rattle.job.specs.Refused.{number_of}
use Rattle.job.specs.Sizes.{max_types, max_plates, max_cuts, plates_size, cuts_size}
use Rattle.job.specs.Job.{Job, job_of, positions}
use Rattle.job.specs.Admitted.{Sided}
use Rattle.listing.specs.declared.plate.Plate.{Plate}
use Rattle.listing.specs.Plate.{waste, kept}
use Rattle.listing.specs.Listing.{Listing, Walk, going, stopped, Entry, over_items, over_plates, walk}
use Rattle.listing.specs.Records.{plate_words, cut_words}
use Rattle.listing.specs.Holds.{Holds}
use Rattle.listing_index.specs.Index.{index_size, Indexed}
use Rattle.listing_positions.specs.Least.{least_of}
use Rattle.listing_positions.specs.Table.{table_size, Table}
use Rattle.listing_call.specs.declared.entry.Entered.{Entered}
use Rattle.listing_call.specs.declared.walk.Listed.{Listed}

-- room for every plate type and every cut, and a job with sides of at least 1
pub record Room (ws plates cuts : List ℕ) : Type 0 where
  pub sided : Sided (job_of ws)
  pub plate-room : plates_size ≤ length plates
  pub cut-room : cuts_size ≤ length cuts

-- the same within the walk, with the mode of the job and its blade (request Four), the table of the job's positions, and room for the index and for the least side of every plate type
pub record Ready (ws : List ℕ) (mode : Mode) (blade : ℕ) (table plates index leasts cuts : List ℕ) : Type 0 where
  pub of-mode : mode ≡ (job_of ws).mode
  pub of-blade : blade ≡ (job_of ws).blade
  pub sided : Sided (job_of ws)
  pub few-positions : length (positions (job_of ws)) ≤ 2 * max_types + 1
  pub of-table : Table (job_of ws) table
  pub table-room : table_size ≤ length table
  pub plate-room : plates_size ≤ length plates
  pub index-room : index_size ≤ length index
  pub least-room : max_plates ≤ length leasts
  pub cut-room : cuts_size ≤ length cuts

-- the buffers hold a listing of the job's sizes, m plate types with the sizes among them and k cuts, within the limits
pub record Rep (job : Job) (l : Listing) (plates cuts : List ℕ) (m k : ℕ) : Type 0 where
  pub of-sizes : l.sizes ≡ length job.sizes
  pub of-plates : Holds plates (plate_words job l.plates)
  pub of-cuts : Holds cuts (cut_words l.cuts)
  pub plate-count : length l.plates ≡ m
  pub cut-count : length l.cuts ≡ k
  pub few-plates : m ≤ max_plates
  pub few-cuts : k ≤ max_cuts
  pub some-plates : length job.sizes ≤ m

-- the buffers hold a listing from which `rest` is the whole walk
pub record Here (job : Job) (rest : Listing → Walk) (whole : Walk) (plates cuts : List ℕ) (m k : ℕ) : Type 0 where
  pub l : Listing
  pub rep : Rep job l plates cuts m k
  pub goes_on : rest l ≡ whole

-- what is known of plate types: the index of the residual types, and of each the least side from which a plate of its stage and other side is kept
pub record Known (job : Job) (ps : List Plate) (index leasts : List ℕ) : Type 0 where
  pub of-index : Indexed (length job.sizes) ps index
  pub of-leasts : (j : ℕ) → j < length ps → get_or leasts j 0 ≡ least_of job (get_or ps j waste)

-- .. and so much is known of its plate types
pub record Stands (job : Job) (rest : Listing → Walk) (plates index leasts cuts : List ℕ) (m k : ℕ) : Type 0 where
  pub here : Here job rest (walk job) plates cuts m k
  pub known : Known job here.l.plates index leasts

-- m plate types, the sizes among them, as they are held and known
pub record Holding (job : Job) (ps : List Plate) (plates index leasts : List ℕ) (m : ℕ) : Type 0 where
  pub count : length ps ≡ m
  pub sizes : length job.sizes ≤ m
  pub few : m ≤ max_plates
  pub held : Holds plates (plate_words job ps)
  pub known : Known job ps index leasts

-- a residual is kept exactly where its divided side reaches `least`, which is then the least side of its stage and other side
pub record KeptFrom (job : Job) (p : Plate) (side least : ℕ) : Type 0 where
  pub test : kept job p ≡ leb least side
  pub is : kept job p ≡ true → least ≡ least_of job p

-- of the least sides of a plate of stage s and of an item in its position, those of the residuals: a top of stage 1 is as wide as the plate, another as the
-- item; a right is as high as the item, but at stage 2 of three stages as the plate
unfoldable pub top_from : ℕ → ℕ → ℕ → ℕ
top_from s least top = cond (eqb s 1) least top

unfoldable pub right_from : Mode → ℕ → ℕ → ℕ → ℕ
right_from m s least right = cond (eqb s 1) right (cond (three m) least right)

-- a residual's entry, as the code answers it: its number, and the plate types after it; or there is no room for them
pub record EnteredIn (job : Job) (e : Entry) (j m : ℕ) (plates index leasts : List ℕ) : Type 0 where
  pub number : j ≡ e.number
  pub holding : Holding job e.plates plates index leasts m

abbrev pub EnteredAs : Job → Entry → Result Entered Refusal → List ℕ → List ℕ → List ℕ → Type 0
EnteredAs job e (Ok a) plates index leasts = EnteredIn job e a.number.0 a.plates.0 plates index leasts
EnteredAs job e (Err r) plates index leasts = (r ≡ PlatesMany) × (max_plates < length e.plates)

-- the walk goes on with `rest` unless it has stopped
abbrev pub and_then : Walk → (Listing → Walk) → Walk
and_then w rest = elim w [ stopped n ↦ stopped n | going l ↦ rest l ]

-- what is left of the walk at plate type j; and, at plate type j, which is q, from position i on
abbrev pub rest_walk : Job → ℕ → Listing → Walk
rest_walk job j l = over_plates max_plates max_cuts job (max_plates - j) j l

abbrev pub rest_row : Job → ℕ → Plate → ℕ → Listing → Walk
rest_row job j q i l = and_then (over_items max_plates max_cuts job j q i (drop (i - 1) (positions job)) l) (rest_walk job (j + 1))

-- what a step says that counts in place: the numbers that it left, or its refusal
abbrev pub went : Result (Unit {0}) Refusal → Listed → Result Listed Refusal
went (Ok _) a = Ok a
went (Err r) a = Err r

-- a part of the walk, as the code answers it: the buffers hold a listing from which `rest` is the whole walk, or this has stopped with 6 or 7
abbrev pub Goes : Job → (Listing → Walk) → Result Listed Refusal → List ℕ → List ℕ → List ℕ → List ℕ → Type 0
Goes job rest (Ok a) plates index leasts cuts = Stands job rest plates index leasts cuts a.plates.0 a.cuts.0
Goes job rest (Err r) plates index leasts cuts = (walk job ≡ stopped (number_of r)) × (5 < number_of r)

-- the whole walk, as the code answers it: it ends with a listing, which the buffers then hold, or it has stopped with 6 or 7
abbrev pub Stepped : Job → Walk → Result Listed Refusal → List ℕ → List ℕ → Type 0
Stepped job w (Ok a) plates cuts = Here job going w plates cuts a.plates.0 a.cuts.0
Stepped job w (Err r) plates cuts = (w ≡ stopped (number_of r)) × (5 < number_of r)
