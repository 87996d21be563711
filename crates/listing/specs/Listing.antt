-- Document 01, "Plates and cuts": the walk that numbers plate types and cuts, and where it is refused, 6 and 7.
use Rattle.std.specs.Prelude.{ℕ, zero, suc, ◌-◌, true, false, List, [], ◌∷◌, ◌++◌, map, ltb, length, get_or}
pub use Rattle.job.specs.Sizes.{max_plates, max_cuts}
use Rattle.job.specs.Job.{Job, positions}
use Rattle.job.specs.declared.item.Position.{Position}
use Rattle.job.specs.Verdict.{Verdict, pass, refuse}
use Rattle.listing.specs.declared.plate.Plate.{Plate}
use Rattle.listing.specs.declared.plate.Residuals.{Residuals}
use Rattle.listing.specs.Plate.{board, waste, same, may_cut, leaves, kept}

-- a cut: "plate, type and turn" (request One), and the numbers of its top and its right, 0 if not kept. `item` is the number of type and turn, which is
-- also the item word of its record: "twice the type plus the turn"
pub record Cut : Type 0 where
  pub plate : ℕ
  pub item : ℕ
  pub top : ℕ
  pub right : ℕ

-- the plate types and the cuts in the order of their numbers: plate type j stands at place j, cut k at place k - 1; "sizes take plate numbers 0 to t−1;
-- residual types follow" (request Six)
pub record Listing : Type 0 where
  -- how many of the plate types are sizes
  pub sizes : ℕ
  pub plates : List Plate
  pub cuts : List Cut

-- what stands for a cut that the listing has not
abbrev pub no_cut : Cut
no_cut = record { plate = 0; item = 0; top = 0; right = 0 }

-- plate type j, from 0
unfoldable pub plate_at : Listing → ℕ → Plate
plate_at l j = get_or l.plates j waste

-- cut k, from 1
unfoldable pub cut_at : Listing → ℕ → Cut
cut_at l zero = no_cut
cut_at l (suc k) = get_or l.cuts k no_cut

-- where the walk stands: it goes on with a listing, or it has met refusal 6 or 7
pub data Walk : Type 0 where
  going : Listing → Walk
  stopped : ℕ → Walk

-- "a type met before keeps its number": its place among the plate types, or, where it is new, the next number
unfoldable pub number_in : List Plate → Plate → ℕ
number_in [] p = 0
number_in (q ∷ qs) p = elim (same p q) [ true ↦ 0 | false ↦ suc (number_in qs p) ]

-- its place where it is sought among the residual types alone (request Six): the first t plate types, which are the sizes, are passed over
unfoldable pub number_from : ℕ → List Plate → Plate → ℕ
number_from zero ps p = number_in ps p
number_from (suc t) [] p = 0
number_from (suc t) (q ∷ qs) p = suc (number_from t qs p)

-- a residual's number, and the plate types with it among them
pub record Entry : Type 0 where
  pub number : ℕ
  pub plates : List Plate

-- a residual that is kept and new becomes the next plate type; one that is not kept has the number 0
unfoldable pub entered : Job → Plate → List Plate → Entry
entered job p ps =
    elim (kept job p) [
      | false ↦ record { number = 0; plates = ps }
      | true ↦
          let j = number_from (length job.sizes) ps p in
          record { number = j; plates = elim (ltb j (length ps)) [ true ↦ ps | false ↦ ps ++ (p ∷ []) ] }
    ]

-- the permitted pair of plate type j and position i "becomes the next cut", "then its top and after it its right"
unfoldable pub cut_done : Job → ℕ → ℕ → Residuals → Listing → Listing
cut_done job j i r l =
    let t = entered job r.top l.plates in
    let u = entered job r.right t.plates in
    record {
      sizes = l.sizes;
      plates = u.plates;
      cuts = l.cuts ++ (record { plate = j; item = i; top = t.number; right = u.number } ∷ []);
    }

-- where the walk begins: the sizes alone, each a plate type of stage 1 whatever fits it, two equal ones with a number each (request Six)
abbrev pub walk_start : Job → Listing
walk_start job = record { sizes = length job.sizes; plates = map board job.sizes; cuts = [] }

-- The walk, over its two limits, so that it can also be computed with small ones.
module _ (plate_limit cut_limit : ℕ) (job : Job) where
  -- what a pair's cut makes of the walk: 7, one cut too many; 6, too many plate types; else the walk goes on. "A pair is counted as a cut before its
  -- residuals": where one pair passes both limits, 7 is met first
  unfoldable pub limited : Listing → Walk
  limited l =
      elim (ltb cut_limit (length l.cuts)) [
        | true ↦ stopped 7
        | false ↦ elim (ltb plate_limit (length l.plates)) [ true ↦ stopped 6 | false ↦ going l ]
      ]

  -- plate type j, which is p, with position i: an item type and its turn
  unfoldable pub pair : ℕ → Plate → ℕ → Position → Listing → Walk
  pair j p i item l =
      elim (may_cut job.mode item p) [
        | false ↦ going l
        | true ↦ limited (cut_done job j i (leaves job.mode job.blade item p) l)
      ]

  -- "at each, item types in rising number", each "the unturned first" (request One): positions from i on
  unfoldable pub over_items : ℕ → Plate → ℕ → List Position → Listing → Walk
  over_items j p i [] l = going l
  over_items j p i (item ∷ items) l =
      elim (pair j p i item l) [
        | stopped n ↦ stopped n
        | going l' ↦ over_items j p (suc i) items l'
      ]

  -- "walk plate types in rising number": those from j on, of which there are at most `fuel`
  unfoldable pub over_plates : ℕ → ℕ → Listing → Walk
  over_plates zero j l = going l
  over_plates (suc fuel) j l =
      elim (ltb j (length l.plates)) [
        | false ↦ going l
        | true ↦
            elim (over_items j (plate_at l j) 1 (positions job) l) [
              | stopped n ↦ stopped n
              | going l' ↦ over_plates fuel (suc j) l'
            ]
      ]

  -- the whole walk, from the sizes alone
  unfoldable pub walk_within : Walk
  walk_within = over_plates plate_limit 0 (walk_start job)

unfoldable pub walk : Job → Walk
walk job = walk_within max_plates max_cuts job

-- the model row: the first of 6 and 7 that the walk meets
unfoldable pub model_row : Job → Verdict
model_row job = elim (walk job) [ going l ↦ pass | stopped n ↦ refuse n 0 ]

-- the listing of a job; where the walk is refused there is none
unfoldable pub listing_of : Job → Listing
listing_of job = elim (walk job) [ going l ↦ l | stopped n ↦ record { sizes = 0; plates = []; cuts = [] } ]

-- the number of residual types: all plate types but the sizes (request Six)
unfoldable pub residual_types : Listing → ℕ
residual_types l = length l.plates - l.sizes
