-- The walk step by step: how each of its definitions computes where its tests are known.
use Prim.Native.Nat.{ℕ, zero, suc, ◌≤◌, ◌<◌}
use native.Mathlib.Omega.{arith}
use mathlib.Core.Path.{◌≡◌, refl}
use mathlib.Core.Bool.{true, false}
use mathlib.Core.List.{List, [], ◌∷◌, ◌++◌}
use lib.ListN.{length, get_or, drop, drop_of_length-le}
use lib.Seq.{drop-cons}
use borrow.Author.Tests.{lt-ltb, le-ltb}
use Rattle.job.specs.declared.item.Position.{Position}
use Rattle.job.specs.Verdict.{Verdict, pass, refuse}
use Rattle.job.specs.Job.{Job, positions, no_position}
use Rattle.job.proofs.Verdicts.{pass-not-refuse}
use Rattle.listing.specs.declared.plate.Plate.{Plate}
use Rattle.listing.specs.declared.plate.Residuals.{Residuals}
use Rattle.listing.specs.Plate.{may_cut, leaves}
use Rattle.listing.specs.Listing.{Cut, Listing, Walk, going, stopped, plate_at, entered, cut_done, limited, pair, over_items, over_plates, walk_within, walk, model_row, listing_of, max_plates, max_cuts}

-- a walk that goes on is not stopped
pub going-not-stopped : {w : Walk} {l : Listing} {n : ℕ} → w ≡ going l → w ≡ stopped n → ⊥
going-not-stopped {w} {l} {n} e f = let z : ◌≡◌ {A = ℕ} 0 1 = cc in omega arith

-- it goes on with one listing, or is stopped by one refusal
pub going-one : {w : Walk} {l l' : Listing} → w ≡ going l → w ≡ going l' → l ≡ l'
going-one e f = cc

-- the cut of plate type j and position i with residuals r: its top is numbered among the plate types, its right among those with the top
abbrev pub cut_made : Job → ℕ → ℕ → Residuals → List Plate → Cut
cut_made job j i r ps =
    let t = entered job r.top ps in
    record { plate = j; item = i; top = t.number; right = (entered job r.right t.plates).number }

-- what the cut adds: its top and after it its right to the plate types, and itself to the cuts
module _ (job : Job) (j i : ℕ) (r : Residuals) (l : Listing) where
  pub done-sizes : (cut_done job j i r l).sizes ≡ l.sizes
  unfolding cut_done
  done-sizes = refl

  pub done-plates : (cut_done job j i r l).plates ≡ (entered job r.right (entered job r.top l.plates).plates).plates
  unfolding cut_done
  done-plates = refl

  pub done-cuts : (cut_done job j i r l).cuts ≡ l.cuts ++ (cut_made job j i r l.plates ∷ [])
  unfolding cut_done
  done-cuts = refl

module _ (plate_limit cut_limit : ℕ) (job : Job) where
  -- past the limit of cuts: 7, whatever the plate types
  pub limited-cuts : (l : Listing) → cut_limit < length l.cuts → limited plate_limit cut_limit job l ≡ stopped 7
  unfolding limited
  limited-cuts l h = rw (limited, lt-ltb cut_limit (length l.cuts) h)

  -- past the limit of plate types alone: 6
  pub limited-plates : (l : Listing) → length l.cuts ≤ cut_limit → plate_limit < length l.plates → limited plate_limit cut_limit job l ≡ stopped 6
  unfolding limited
  limited-plates l h k = rw (limited, le-ltb cut_limit (length l.cuts) h, lt-ltb plate_limit (length l.plates) k)

  -- within both limits
  pub limited-going : (l : Listing) → length l.cuts ≤ cut_limit → length l.plates ≤ plate_limit → limited plate_limit cut_limit job l ≡ going l
  unfolding limited
  limited-going l h k = rw (limited, le-ltb cut_limit (length l.cuts) h, le-ltb plate_limit (length l.plates) k)

  -- a pair that is not permitted changes nothing
  pub pair-skipped :
      (j : ℕ) (p : Plate) (i : ℕ) (it : Position) (l : Listing)
      → may_cut job.mode it p ≡ false
      → pair plate_limit cut_limit job j p i it l ≡ going l
  unfolding pair
  pair-skipped j p i it l h = rw (h, pair)

  -- a permitted pair is the next cut, within the limits
  pub pair-cut :
      (j : ℕ) (p : Plate) (i : ℕ) (it : Position) (l : Listing)
      → may_cut job.mode it p ≡ true
      → pair plate_limit cut_limit job j p i it l ≡ limited plate_limit cut_limit job (cut_done job j i (leaves job.mode job.blade it p) l)
  unfolding pair
  pair-cut j p i it l h = rw (h, pair)

  -- the positions of one plate type, one pair further
  pub items-going :
      (j : ℕ) (p : Plate) (i : ℕ) (it : Position) (its : List Position) (l l' : Listing)
      → pair plate_limit cut_limit job j p i it l ≡ going l'
      → over_items plate_limit cut_limit job j p i (it ∷ its) l ≡ over_items plate_limit cut_limit job j p (suc i) its l'
  unfolding over_items
  items-going j p i it its l l' h = rw (h, over_items)

  pub items-stopped :
      (j : ℕ) (p : Plate) (i : ℕ) (it : Position) (its : List Position) (l : Listing) (n : ℕ)
      → pair plate_limit cut_limit job j p i it l ≡ stopped n
      → over_items plate_limit cut_limit job j p i (it ∷ its) l ≡ stopped n
  unfolding over_items
  items-stopped j p i it its l n h = rw (h, over_items)

  -- the same from a place of the job's positions on
  pub items-drop-going :
      (j : ℕ) (p : Plate) (i k : ℕ) (its : List Position) (l l' : Listing)
      → k < length its
      → pair plate_limit cut_limit job j p i (get_or its k no_position) l ≡ going l'
      → over_items plate_limit cut_limit job j p i (drop k its) l ≡ over_items plate_limit cut_limit job j p (suc i) (drop (suc k) its) l'
  items-drop-going j p i k its l l' b h = rw (drop-cons its k no_position b) (items-going j p i (get_or its k no_position) (drop (suc k) its) l l' h)

  pub items-drop-stopped :
      (j : ℕ) (p : Plate) (i k : ℕ) (its : List Position) (l : Listing) (n : ℕ)
      → k < length its
      → pair plate_limit cut_limit job j p i (get_or its k no_position) l ≡ stopped n
      → over_items plate_limit cut_limit job j p i (drop k its) l ≡ stopped n
  items-drop-stopped j p i k its l n b h = rw (drop-cons its k no_position b) (items-stopped j p i (get_or its k no_position) (drop (suc k) its) l n h)

  pub items-drop-end :
      (j : ℕ) (p : Plate) (i k : ℕ) (its : List Position) (l : Listing)
      → length its ≤ k
      → over_items plate_limit cut_limit job j p i (drop k its) l ≡ going l
  unfolding over_items
  items-drop-end j p i k its l h = rw (drop_of_length-le its h)

  -- the plate types, one further
  pub plates-going :
      (fuel j : ℕ) (l l' : Listing)
      → j < length l.plates
      → over_items plate_limit cut_limit job j (plate_at l j) 1 (positions job) l ≡ going l'
      → over_plates plate_limit cut_limit job (suc fuel) j l ≡ over_plates plate_limit cut_limit job fuel (suc j) l'
  unfolding over_plates
  plates-going fuel j l l' b h = rw (over_plates, lt-ltb j (length l.plates) b, h)

  pub plates-stopped :
      (fuel j : ℕ) (l : Listing) (n : ℕ)
      → j < length l.plates
      → over_items plate_limit cut_limit job j (plate_at l j) 1 (positions job) l ≡ stopped n
      → over_plates plate_limit cut_limit job (suc fuel) j l ≡ stopped n
  unfolding over_plates
  plates-stopped fuel j l n b h = rw (over_plates, lt-ltb j (length l.plates) b, h)

  -- no plate type is left
  pub plates-end : (fuel j : ℕ) (l : Listing) → length l.plates ≤ j → over_plates plate_limit cut_limit job fuel j l ≡ going l
  unfolding over_plates
  plates-end zero j l h = refl
  plates-end (suc fuel) j l h = rw (le-ltb j (length l.plates) h, over_plates)

-- the model row and the listing, by the walk
module _ (job : Job) where
  -- the walk has the limits of document 01
  pub walk-limits : walk job ≡ walk_within max_plates max_cuts job
  unfolding walk
  walk-limits = refl

  pub row-going : (l : Listing) → walk job ≡ going l → model_row job ≡ pass
  unfolding model_row
  row-going l h = rw (h, model_row)

  pub row-stopped : (n : ℕ) → walk job ≡ stopped n → model_row job ≡ refuse n 0
  unfolding model_row
  row-stopped n h = rw (h, model_row)

  pub listing-going : (l : Listing) → walk job ≡ going l → listing_of job ≡ l
  unfolding listing_of
  listing-going l h = rw (h, listing_of)

  -- where the row passes the walk goes on with the listing
  pub row-listing : model_row job ≡ pass → walk job ≡ going (listing_of job)
  unfolding model_row listing_of
  row-listing h = go (walk job) h
    where
      go :
          (w : Walk)
          → (elim w as (λ _. Verdict) [ going l ↦ pass | stopped n ↦ refuse n 0 ]) ≡ pass
          → w ≡ going (elim w as (λ _. Listing) [ going l ↦ l | stopped n ↦ record { sizes = 0; plates = []; cuts = [] } ])
      go (going l) e = refl
      go (stopped n) e = absurd (pass-not-refuse e refl)
