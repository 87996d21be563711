-- Document 01, "Plates and cuts": what a cut leaves, by the stage, the mode and the blade; residuals are smaller than the plate, and their stages.
use Prim.Native.Nat.{ℕ, ◌+◌, ◌≤◌, ◌<◌}
use native.Mathlib.Omega.{arith}
use mathlib.Core.Path.{◌≡◌, refl}
use mathlib.Core.Logic.{◌⊎◌, inl, inr}
use mathlib.Core.Bool.{Bool, true, false}
use lib.Dec.{eqb}
use borrow.Author.Tests.{eqb-true, eqb-false}
use Rattle.job.specs.declared.mode.Mode.{Mode}
use Rattle.job.specs.declared.item.Position.{Position}
use Rattle.job.specs.Mode.{three}
use Rattle.listing.specs.declared.plate.Plate.{Plate}
use Rattle.listing.specs.declared.plate.Residuals.{Residuals}
use Rattle.listing.specs.Plate.{waste, stage_one, stage_two_of_two, stage_two_of_three, stage_three, leaves}

-- what a cut leaves of any plate, by cases; a stage that is neither 1 nor 2 is taken as stage 3
pub data Leaving (m : Mode) (b : ℕ) (item : Position) (p : Plate) : Type 0 where
  at_one :
      p.stage ≡ 1
      → leaves m b item p ≡ stage_one b item p
      → Leaving m b item p
  at-two :
      p.stage ≡ 2
      → three m ≡ false
      → leaves m b item p ≡ stage_two_of_two b item p
      → Leaving m b item p
  at-two-three :
      p.stage ≡ 2
      → three m ≡ true
      → leaves m b item p ≡ stage_two_of_three b item p
      → Leaving m b item p
  at-three :
      (p.stage ≡ 1 → ⊥)
      → (p.stage ≡ 2 → ⊥)
      → leaves m b item p ≡ stage_three b item p
      → Leaving m b item p

pub leaving : (m : Mode) (b : ℕ) (item : Position) (p : Plate) → Leaving m b item p
unfolding leaves
leaving m b item p = go (eqb p.stage 1) (eqb p.stage 2) (three m) refl refl refl
  where
    go : (a c t : Bool) → eqb p.stage 1 ≡ a → eqb p.stage 2 ≡ c → three m ≡ t → Leaving m b item p
    go true c t e f g = at_one (eqb-true p.stage 1 e) (rw e)
    go false true false e f g = at-two (eqb-true p.stage 2 f) g (rw (e, f, g))
    go false true true e f g = at-two-three (eqb-true p.stage 2 f) g (rw (e, f, g))
    go false false t e f g = at-three (eqb-false p.stage 1 e) (eqb-false p.stage 2 f) (rw (e, f))

-- the sum of a plate's sides
abbrev pub sides : Plate → ℕ
sides p = p.width + p.height

-- a stage from 1 to 3
abbrev pub Staged : Plate → Type 0
Staged p = (1 ≤ p.stage) × (p.stage ≤ 3)

module _ (m : Mode) (b : ℕ) (item : Position) (p : Plate) where
  -- what holds of the residuals in each case holds of what the cut leaves
  pub leaves_by :
      (P : Residuals → Type 0)
      → (p.stage ≡ 1 → P (stage_one b item p))
      → (p.stage ≡ 2 → three m ≡ true → P (stage_two_of_three b item p))
      → (p.stage ≡ 2 → three m ≡ false → P (stage_two_of_two b item p))
      → ((p.stage ≡ 1 → ⊥) → (p.stage ≡ 2 → ⊥) → P (stage_three b item p))
      → P (leaves m b item p)
  leaves_by P one two-three two other = go (leaving m b item p)
    where
      go : Leaving m b item p → P (leaves m b item p)
      go (at_one s e) = rw e (one s)
      go (at-two s t e) = rw e (two s t)
      go (at-two-three s t e) = rw e (two-three s t)
      go (at-three s t e) = rw e (other s t)

  -- the residuals of an item with sides of at least 1 that fits into the plate are smaller than the plate
  pub residuals-smaller :
      1 ≤ item.width
      → 1 ≤ item.height
      → item.width ≤ p.width
      → item.height ≤ p.height
      → (sides (leaves m b item p).top < sides p) × (sides (leaves m b item p).right < sides p)
  residuals-smaller u v x y =
      leaves_by (λ r. (sides r.top < sides p) × (sides r.right < sides p))
      (λ _. omega arith) (λ _ _. omega arith) (λ _ _. omega arith) (λ _ _. omega arith)

  -- a residual that is not waste has a stage from 1 to 3
  pub residuals-staged : (((leaves m b item p).top ≡ waste) ⊎ Staged (leaves m b item p).top) × (((leaves m b item p).right ≡ waste) ⊎ Staged (leaves m b item p).right)
  residuals-staged =
      leaves_by (λ r. ((r.top ≡ waste) ⊎ Staged r.top) × ((r.right ≡ waste) ⊎ Staged r.right))
      (λ _. (inr (omega arith), inr (omega arith)))
      (λ _ _. (inr (omega arith), inr (omega arith)))
      (λ _ _. (inl refl, inr (omega arith)))
      (λ _ _. (inr (omega arith), inl refl))

  -- top and right are of different stages, so they are never one type
  pub stages-differ : (leaves m b item p).top.stage ≡ (leaves m b item p).right.stage → ⊥
  stages-differ =
      leaves_by (λ r. r.top.stage ≡ r.right.stage → ⊥) (λ _ e. omega arith) (λ _ _ e. omega arith) (λ _ _ e. omega arith) (λ _ _ e. omega arith)

  -- the stages of the residuals, by the stage of the plate: a residual that has none is waste
  pub stages-1 : p.stage ≡ 1 → ((leaves m b item p).top.stage ≡ 1) × ((leaves m b item p).right.stage ≡ 2)
  stages-1 e =
      leaves_by (λ r. (r.top.stage ≡ 1) × (r.right.stage ≡ 2))
      (λ _. (refl, refl)) (λ d _. absurd (omega arith)) (λ d _. absurd (omega arith)) (λ d _. absurd (d e))

  pub stages-2 : p.stage ≡ 2 → (((leaves m b item p).top ≡ waste) ⊎ ((leaves m b item p).top.stage ≡ 3)) × ((leaves m b item p).right.stage ≡ 2)
  stages-2 e =
      leaves_by (λ r. ((r.top ≡ waste) ⊎ (r.top.stage ≡ 3)) × (r.right.stage ≡ 2))
      (λ d. absurd (omega arith)) (λ _ _. (inr refl, refl)) (λ _ _. (inl refl, refl)) (λ _ d. absurd (d e))

  pub stages-3 : p.stage ≡ 3 → ((leaves m b item p).top.stage ≡ 3) × ((leaves m b item p).right ≡ waste)
  stages-3 e =
      leaves_by (λ r. (r.top.stage ≡ 3) × (r.right ≡ waste))
      (λ d. absurd (omega arith)) (λ d _. absurd (omega arith)) (λ d _. absurd (omega arith)) (λ _ _. (refl, refl))
