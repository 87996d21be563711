-- The limits of the walk: what 6 and 7 mean exactly, and what a walk with larger limits says of one that is refused.
use Prim.Native.Nat.{ℕ, zero, suc, ◌-◌, ◌≤◌, ◌<◌}
use native.Mathlib.Omega.{arith}
use mathlib.Core.Path.{◌≡◌, refl, sym, ◌∙◌, ap}
use mathlib.Core.Logic.{◌⊎◌, inl, inr}
use mathlib.Core.Bool.{Bool, true, false}
use mathlib.Core.List.{List, [], ◌∷◌}
use lib.Dec.{ltb}
use lib.ListN.{length, drop}
use Rattle.job.specs.declared.item.Position.{Position}
use Rattle.job.specs.Verdict.{pass, refuse}
use Rattle.job.specs.Job.{Job, positions, position_at}
use Rattle.job.proofs.Tests.{at-most-or-above}
use Rattle.job.proofs.CodeEnds.{Not5, not5-pass, not5-refuse}
use Rattle.listing.specs.declared.plate.Plate.{Plate}
use Rattle.listing.specs.Plate.{may_cut, leaves}
use Rattle.listing.specs.Listing.{Listing, Walk, going, stopped, plate_at, cut_done, limited, pair, over_items, over_plates, walk_start, walk_within, model_row, max_plates, max_cuts}
use Rattle.listing.specs.Reached.{done, after}
use Rattle.listing.proofs.Growth.{Grown, grown-same, grown-trans, done-count}
use Rattle.listing.proofs.Steps.{going-one, going-not-stopped, walk-limits, row-going, row-stopped}
use Rattle.listing.proofs.Along.{plates-grown, items-grown}
use Rattle.listing.proofs.Reached.{Few, onward, rest, rest-row, rest_end, reached-rest, reached-end, reached-seven, reached-six}
use Rattle.listing.proofs.Ends.{over-seven, over-six, Halted, walk-complete, walk-halted}

-- a walk that is stopped is so with 6 or 7, whatever the job: also one of more sizes than plate types may be
abbrev SixSeven : Walk → Type 0
SixSeven (going l) = Unit {0}
SixSeven (stopped n) = (n ≡ 6) ⊎ (n ≡ 7)

module _ (P C : ℕ) (job : Job) where
  stops-limited : (l : Listing) → SixSeven (limited P C job l)
  unfolding limited
  stops-limited l = go (ltb C (length l.cuts)) (ltb P (length l.plates))
    where
      go : (a b : Bool) → SixSeven (elim a as (λ _. Walk) [ true ↦ stopped 7 | false ↦ elim b as (λ _. Walk) [ true ↦ stopped 6 | false ↦ going l ] ])
      go true b = inr refl
      go false true = inl refl
      go false false = tt

  stops-pair : (j : ℕ) (p : Plate) (i : ℕ) (it : Position) (l : Listing) → SixSeven (pair P C job j p i it l)
  unfolding pair
  stops-pair j p i it l = go (may_cut job.mode it p)
    where
      go : (a : Bool) → SixSeven (elim a as (λ _. Walk) [ false ↦ going l | true ↦ limited P C job (cut_done job j i (leaves job.mode job.blade it p) l) ])
      go true = stops-limited (cut_done job j i (leaves job.mode job.blade it p) l)
      go false = tt

  stops-items : (j : ℕ) (p : Plate) (i : ℕ) (its : List Position) (l : Listing) → SixSeven (over_items P C job j p i its l)
  unfolding over_items
  stops-items j p i [] l = tt
  stops-items j p i (it ∷ its) l = go (pair P C job j p i it l) (stops-pair j p i it l) (λ l'. stops-items j p (suc i) its l')
    where
      go :
          (w : Walk)
          → SixSeven w
          → ((l' : Listing) → SixSeven (over_items P C job j p (suc i) its l'))
          → SixSeven (elim w as (λ _. Walk) [ stopped n ↦ stopped n | going l' ↦ over_items P C job j p (suc i) its l' ])
      go (going l') h rec = rec l'
      go (stopped n) h rec = h

  stops-plates : (fuel j : ℕ) (l : Listing) → SixSeven (over_plates P C job fuel j l)
  unfolding over_plates
  stops-plates zero j l = tt
  stops-plates (suc fuel) j l = go (ltb j (length l.plates)) (over_items P C job j (plate_at l j) 1 (positions job) l) (stops-items j (plate_at l j) 1 (positions job) l) (λ l'. stops-plates fuel (suc j) l')
    where
      go :
          (a : Bool) (w : Walk)
          → SixSeven w
          → ((l' : Listing) → SixSeven (over_plates P C job fuel (suc j) l'))
          → SixSeven (elim a as (λ _. Walk) [ false ↦ going l | true ↦ elim w as (λ _. Walk) [ stopped n ↦ stopped n | going l' ↦ over_plates P C job fuel (suc j) l' ] ])
      go false w h rec = tt
      go true (going l') h rec = rec l'
      go true (stopped n) h rec = h

  stops-walk : SixSeven (walk_within P C job)
  unfolding walk_within
  stops-walk = stops-plates P 0 (walk_start job)

-- the model row passes, or refuses with 6 or 7
pub row-cases : (job : Job) → (model_row job ≡ pass) ⊎ ((model_row job ≡ refuse 6 0) ⊎ (model_row job ≡ refuse 7 0))
row-cases job = go (walk_within max_plates max_cuts job) refl (stops-walk max_plates max_cuts job)
  where
    go : (w : Walk) → walk_within max_plates max_cuts job ≡ w → SixSeven w → (model_row job ≡ pass) ⊎ ((model_row job ≡ refuse 6 0) ⊎ (model_row job ≡ refuse 7 0))
    go (going l) e h = inl (row-going job l (walk-limits job ∙ e))
    go (stopped n) e (inl h) = inr (inl (row-stopped job 6 (walk-limits job ∙ e ∙ ap stopped h)))
    go (stopped n) e (inr h) = inr (inr (row-stopped job 7 (walk-limits job ∙ e ∙ ap stopped h)))

-- the model row does not refuse with 5
pub model-not5 : (job : Job) → Not5 (model_row job)
model-not5 job = go (row-cases job)
  where
    go : (model_row job ≡ pass) ⊎ ((model_row job ≡ refuse 6 0) ⊎ (model_row job ≡ refuse 7 0)) → Not5 (model_row job)
    go (inl e) = rw e not5-pass
    go (inr (inl e)) = rw e (not5-refuse 6 0 (λ q. omega arith))
    go (inr (inr e)) = rw e (not5-refuse 7 0 (λ q. omega arith))

-- along the rest of a walk plate types and cuts keep their numbers
pub rest-grown : (P C : ℕ) (job : Job) (j i : ℕ) (l l' : Listing) → rest P C job j i l ≡ going l' → Grown l l'
rest-grown P C job j i l l' e = go (at-most-or-above (length l.plates) j) (over_items P C job j (plate_at l j) i (drop (i - 1) (positions job)) l) refl
  where
    go :
        (length l.plates ≤ j) ⊎ (j < length l.plates)
        → (w : Walk)
        → over_items P C job j (plate_at l j) i (drop (i - 1) (positions job)) l ≡ w
        → Grown l l'
    go (inl h) w f = rw (going-one e (rest_end P C job j i l h)) (grown-same l)
    go (inr h) (going m) f =
        grown-trans l m l' (items-grown P C job j (plate_at l j) i (drop (i - 1) (positions job)) l m f)
        (plates-grown P C job (P - suc j) (suc j) m l' (sym (rest-row P C job j i l h ∙ ap (onward P C job j) f) ∙ e))
    go (inr h) (stopped n) f = absurd (going-not-stopped e (rest-row P C job j i l h ∙ ap (onward P C job j) f))

-- limits P, C and others that are no smaller
module _ (P C P' C' : ℕ) (job : Job) (some : length job.sizes ≤ P) (p : P ≤ P') (c : C ≤ C') where
  few-larger : (l : Listing) → Few P C l → Few P' C' l
  few-larger l f = record { few-plates = omega (arith, f.few-plates); few-cuts = omega (arith, f.few-cuts) }

  -- a walk that is not refused is the same with larger limits
  pub larger-same : (l : Listing) → walk_within P C job ≡ going l → walk_within P' C' job ≡ going l
  larger-same l e =
      let d = walk-complete P C job some l e in
      reached-end P' C' job d.reached (few-larger l d.few) d.none_left

  -- a walk that is refused is refused at a pair that a walk with larger limits has among its cuts
  pub larger-grown :
      (n : ℕ) (h : Halted P C job n) (l : Listing)
      → walk_within P' C' job ≡ going l
      → Grown (after job h.plate h.item h.listing) l
  larger-grown n h l e = go (at-most-or-above (length next.cuts) C') (at-most-or-above (length next.plates) P')
    where
      next : Listing
      next = after job h.plate h.item h.listing

      more : length next.cuts ≡ suc (length h.listing.cuts)
      more = done-count job h.plate h.item (leaves job.mode job.blade (position_at job h.item) (plate_at h.listing h.plate)) h.listing

      few : Few P' C' h.listing
      few = few-larger h.listing h.few

      go : (length next.cuts ≤ C') ⊎ (C' < length next.cuts) → (length next.plates ≤ P') ⊎ (P' < length next.plates) → Grown next l
      go (inr a) b = absurd (going-not-stopped e (reached-seven P' C' job h.reached few h.on-plate h.of-item h.allowed (omega (arith, more))))
      go (inl a) (inr b) = absurd (going-not-stopped e (reached-six P' C' job h.reached few h.on-plate h.of-item h.allowed (omega (arith, more)) b))
      go (inl a) (inl b) =
          rest-grown P' C' job h.plate (suc h.item) next l
          (sym (reached-rest P' C' job (done h.reached h.on-plate h.of-item h.allowed) (record { few-plates = b; few-cuts = a })) ∙ e)

  -- where it is refused with 7, larger limits give more cuts; where with 6, more plate types
  pub larger-cuts : (l : Listing) → walk_within P C job ≡ stopped 7 → walk_within P' C' job ≡ going l → C < length l.cuts
  larger-cuts l e f =
      let h = walk-halted P C job some 7 e in
      let left = leaves job.mode job.blade (position_at job h.item) (plate_at h.listing h.plate) in
      omega (arith, (larger-grown 7 h l f).cuts-longer.no-fewer, done-count job h.plate h.item left h.listing, over-seven h.passed)

  pub larger-plates : (l : Listing) → walk_within P C job ≡ stopped 6 → walk_within P' C' job ≡ going l → P < length l.plates
  larger-plates l e f =
      let h = walk-halted P C job some 6 e in
      omega (arith, (larger-grown 6 h l f).plates-longer.no-fewer, (over-six h.passed).1)
