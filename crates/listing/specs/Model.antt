-- Document 01, "Plates and cuts", in plain statements: what the proofs of demand 3 use of a listing. It leaves open which residual type has which
-- number, and whether a cut leaves each: `Numbering` says both, and so what the listing of a job is.
use Rattle.std.specs.Prelude.{ℕ, suc, ◌≤◌, ◌<◌, ◌≡◌, ◌⊎◌, true, false, length}
use Rattle.job.specs.declared.item.Position.{Position}
use Rattle.job.specs.Job.{Job, size_at, positions, position_at}
use Rattle.listing.specs.declared.plate.Plate.{Plate}
use Rattle.listing.specs.declared.plate.Residuals.{Residuals}
use Rattle.listing.specs.Plate.{board, may_cut, leaves, kept}
use Rattle.listing.specs.Listing.{Cut, Listing, plate_at, cut_at, max_plates, max_cuts}

-- r is the number of the residual q: that of its residual type where it is kept, a number that no size has (request Six), else 0
abbrev pub Numbered : Job → Listing → Plate → ℕ → Type 0
Numbered job l q r =
    ((kept job q ≡ false) × (r ≡ 0))
    ⊎ ((kept job q ≡ true) × (0 < r) × (r < length l.plates) × (plate_at l r ≡ q) × (length job.sizes ≤ r))

-- pair (j, i) comes before pair (j', i') in the walk
abbrev pub Before : Cut → Cut → Type 0
Before c d = (c.plate < d.plate) ⊎ ((c.plate ≡ d.plate) × (c.item < d.item))

-- the item of a cut, in its position, and the residuals
abbrev pub item_of : Job → Cut → Position
item_of job c = position_at job c.item

abbrev pub left_by : Job → Listing → Cut → Residuals
left_by job l c = leaves job.mode job.blade (item_of job c) (plate_at l c.plate)

-- the plate types and cuts of a job; cut k stands at place k - 1, so places c, d are those of cuts suc c, suc d
pub record Model (job : Job) (l : Listing) : Type 0 where
  -- within the limits
  pub few-plates : length l.plates ≤ max_plates
  pub few-cuts : length l.cuts ≤ max_cuts
  -- the sizes are the first plate types (request Six)
  pub sized : l.sizes ≡ length job.sizes
  pub some_size : 0 < length job.sizes
  pub size-plates : length job.sizes ≤ length l.plates
  pub first : (j : ℕ) → j < length job.sizes → plate_at l j ≡ board (size_at job j)
  -- residual types are distinct
  pub distinct : (j k : ℕ) → length job.sizes ≤ j → length job.sizes ≤ k → j < length l.plates → k < length l.plates → plate_at l j ≡ plate_at l k → j ≡ k
  -- each residual type has an item type that may be cut from it, in some position, and a stage from 1 to 3
  pub all-kept : (j : ℕ) → length job.sizes ≤ j → j < length l.plates → kept job (plate_at l j) ≡ true
  pub staged : (j : ℕ) → j < length l.plates → (1 ≤ (plate_at l j).stage) × ((plate_at l j).stage ≤ 3)
  -- a cut is a permitted pair of a plate type and a position of an item type
  pub on-plate : (c : ℕ) → c < length l.cuts → (cut_at l (suc c)).plate < length l.plates
  pub of-item : (c : ℕ) → c < length l.cuts → (1 ≤ (cut_at l (suc c)).item) × ((cut_at l (suc c)).item ≤ length (positions job))
  pub permitted : (c : ℕ) → c < length l.cuts → may_cut job.mode (item_of job (cut_at l (suc c))) (plate_at l (cut_at l (suc c)).plate) ≡ true
  -- its residuals have their numbers, or 0 where they are not kept
  pub top-numbered : (c : ℕ) → c < length l.cuts → Numbered job l (left_by job l (cut_at l (suc c))).top (cut_at l (suc c)).top
  pub right-numbered : (c : ℕ) → c < length l.cuts → Numbered job l (left_by job l (cut_at l (suc c))).right (cut_at l (suc c)).right
  -- each permitted pair is a cut
  pub each : (j i : ℕ) → j < length l.plates → 1 ≤ i → i ≤ length (positions job) → may_cut job.mode (position_at job i) (plate_at l j) ≡ true → (c : ℕ) × (c < length l.cuts) × ((cut_at l (suc c)).plate ≡ j) × ((cut_at l (suc c)).item ≡ i)
  -- cuts rise with the plate type and, on one plate type, with the position: so each pair is one cut only, and the cuts on one plate type
  -- are numbered in a row
  pub rising : (c d : ℕ) → c < d → d < length l.cuts → Before (cut_at l (suc c)) (cut_at l (suc d))
