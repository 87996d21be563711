-- Document 01, "Plates and cuts": a residual is kept exactly where some position may be cut from it, and then it has sides of at least 1.
use Prim.Native.Nat.{ℕ, zero, suc, ◌≤◌, ◌<◌}
use native.Mathlib.Omega.{arith}
use mathlib.Core.Path.{◌≡◌, refl}
use mathlib.Core.Logic.{◌⊎◌, inl, inr}
use mathlib.Core.Bool.{true, false}
use lib.ListN.{length}
use Rattle.job.specs.declared.item.Position.{Position}
use Rattle.job.specs.Job.{Job, positions, no_position, position_at}
use Rattle.job.specs.Admitted.{Sided}
use Rattle.job.proofs.Tests.{not-both, not-true-false}
use Rattle.job.proofs.Lists.{any_found, any_at}
use Rattle.listing.specs.declared.plate.Plate.{Plate}
use Rattle.listing.specs.Plate.{waste, may_cut, leaves, kept}
use Rattle.listing.proofs.Plates.{may-cut}
use Rattle.listing.proofs.Residuals.{Staged, sides, residuals-smaller, residuals-staged}

module _ (job : Job) where
  -- position i of the job, from 1, may be cut from the plate
  pub record CutFrom (p : Plate) (i : ℕ) : Type 0 where
    pub from_one : 1 ≤ i
    pub to_last : i ≤ length (positions job)
    pub allowed : may_cut job.mode (position_at job i) p ≡ true

  -- of a plate that is kept, a position that may be cut from it
  pub kept-found : (p : Plate) → kept job p ≡ true → (i : ℕ) × CutFrom p i
  unfolding kept position_at
  kept-found p h =
      let r = any_found (λ item. may_cut job.mode item p) (positions job) no_position h in
      (suc r.0, record { from_one = omega arith; to_last = r.1; allowed = r.2 })

  -- a position that may be cut from a plate keeps it
  pub kept_by : (p : Plate) (i : ℕ) → CutFrom p i → kept job p ≡ true
  unfolding kept position_at
  kept_by p zero c = absurd (omega arith)
  kept_by p (suc i) c = any_at (λ item. may_cut job.mode item p) (positions job) i no_position c.to_last c.allowed

  -- from a plate that is not kept no position may be cut
  pub not-kept : (p : Plate) → kept job p ≡ false → (i : ℕ) → CutFrom p i → ⊥
  not-kept p h i c = not-both (kept_by p i c) h

  module _ (sided : Sided job) where
    -- a plate from which a position may be cut has sides of at least 1
    pub cut-sides : (p : Plate) (i : ℕ) → CutFrom p i → (1 ≤ p.width) × (1 ≤ p.height)
    cut-sides p i c =
        let r = may-cut job.mode (position_at job i) p c.allowed in
        let s = sided i r.allowed in
        omega (arith, s, r.in-width, r.in-height)

    pub kept-sides : (p : Plate) → kept job p ≡ true → (1 ≤ p.width) × (1 ≤ p.height)
    kept-sides p h = let r = kept-found p h in cut-sides p r.0 r.1

    -- "a side of 0 is always waste"
    pub no-width : (p : Plate) → p.width ≡ 0 → kept job p ≡ false
    no-width p e = not-true-false (kept job p) (λ t. let s = kept-sides p t in omega arith)

    pub waste-not-kept : kept job waste ≡ false
    waste-not-kept = no-width waste refl

    -- the residuals of a permitted pair are smaller than the plate
    module _ (p : Plate) (i : ℕ) (c : CutFrom p i) where
      cut-smaller : (sides (leaves job.mode job.blade (position_at job i) p).top < sides p) × (sides (leaves job.mode job.blade (position_at job i) p).right < sides p)
      cut-smaller =
          let r = may-cut job.mode (position_at job i) p c.allowed in
          let s = sided i r.allowed in
          residuals-smaller job.mode job.blade (position_at job i) p s.0 s.1 r.in-width r.in-height

      pub top-smaller : sides (leaves job.mode job.blade (position_at job i) p).top < sides p
      top-smaller = cut-smaller.0

      pub right-smaller : sides (leaves job.mode job.blade (position_at job i) p).right < sides p
      right-smaller = cut-smaller.1

    -- a residual that is kept has a stage from 1 to 3
    kept-staged : (q : Plate) → (q ≡ waste) ⊎ Staged q → kept job q ≡ true → Staged q
    kept-staged q (inl e) h = absurd (not-both (rw e at h) waste-not-kept)
    kept-staged q (inr s) h = s

    module _ (p : Plate) (item : Position) where
      pub top-staged : kept job (leaves job.mode job.blade item p).top ≡ true → Staged (leaves job.mode job.blade item p).top
      top-staged = kept-staged (leaves job.mode job.blade item p).top (residuals-staged job.mode job.blade item p).0

      pub right-staged : kept job (leaves job.mode job.blade item p).right ≡ true → Staged (leaves job.mode job.blade item p).right
      right-staged = kept-staged (leaves job.mode job.blade item p).right (residuals-staged job.mode job.blade item p).1
