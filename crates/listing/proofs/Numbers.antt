-- Document 01, "Numbering": the number of a residual among the plate types, and the plate types after it is entered.
use Prim.Native.Nat.{ℕ, zero, suc, ◌≤◌, ◌<◌}
use native.Mathlib.Omega.{arith}
use mathlib.Core.Path.{◌≡◌, refl, sym}
use mathlib.Core.Logic.{◌⊎◌, inl, inr}
use mathlib.Core.Bool.{Bool, true, false}
use mathlib.Core.List.{List, [], ◌∷◌, ◌++◌}
use lib.ListN.{length, get_or}
use borrow.Author.Tests.{lt-ltb, le-ltb}
use Rattle.job.specs.Job.{Job}
use Rattle.job.proofs.Tests.{at-most-or-above}
use Rattle.listing.specs.declared.plate.Plate.{Plate}
use Rattle.listing.specs.Plate.{waste, same, kept}
use Rattle.listing.specs.Listing.{number_in, number_from, entered}
use Rattle.listing.proofs.Plates.{same-equal, same-differ}

-- a number is at most the next number
pub number-at-most : (ps : List Plate) (p : Plate) → number_in ps p ≤ length ps
unfolding number_in
number-at-most [] p = omega arith
number-at-most (q ∷ qs) p = go (same p q) (number-at-most qs p)
  where
    go : (t : Bool) → number_in qs p ≤ length qs → (elim t as (λ _. ℕ) [ true ↦ 0 | false ↦ suc (number_in qs p) ]) ≤ suc (length qs)
    go true h = omega arith
    go false h = omega arith

-- below it none is the one
pub number-before : (ps : List Plate) (p : Plate) (j : ℕ) → j < number_in ps p → get_or ps j waste ≡ p → ⊥
unfolding number_in
number-before [] p j h e = omega arith
number-before (q ∷ qs) p j h e = go (same p q) refl j h e (number-before qs p)
  where
    go :
        (t : Bool)
        → same p q ≡ t
        → (j : ℕ)
        → j < (elim t as (λ _. ℕ) [ true ↦ 0 | false ↦ suc (number_in qs p) ])
        → get_or (q ∷ qs) j waste ≡ p
        → ((j : ℕ) → j < number_in qs p → get_or qs j waste ≡ p → ⊥)
        → ⊥
    go true s j h e f = omega arith
    go false s zero h e f = same-differ p q s (sym e)
    go false s (suc j) h e f = f j (omega arith) e

-- a number below the next number is the place of the one
pub number-found : (ps : List Plate) (p : Plate) → number_in ps p < length ps → get_or ps (number_in ps p) waste ≡ p
unfolding number_in
number-found [] p h = absurd (omega arith)
number-found (q ∷ qs) p h = go (same p q) refl h (number-found qs p)
  where
    at : Bool → ℕ
    at t = elim t [ true ↦ 0 | false ↦ suc (number_in qs p) ]

    go :
        (t : Bool)
        → same p q ≡ t
        → at t < suc (length qs)
        → (number_in qs p < length qs → get_or qs (number_in qs p) waste ≡ p)
        → get_or (q ∷ qs) (at t) waste ≡ p
    go true s h f = sym (same-equal p q s)
    go false s h f = f (omega arith)

-- among the residual types, past the first t plate types: at most the next number ..
pub from-at-most : (t : ℕ) (ps : List Plate) (p : Plate) → number_from t ps p ≤ length ps
unfolding number_from
from-at-most zero ps p = number-at-most ps p
from-at-most (suc t) [] p = omega arith
from-at-most (suc t) (q ∷ qs) p = omega (arith, from-at-most t qs p)

-- .. a number below it is at least t, and the place of the one ..
pub from_found : (t : ℕ) (ps : List Plate) (p : Plate) → number_from t ps p < length ps → (t ≤ number_from t ps p) × (get_or ps (number_from t ps p) waste ≡ p)
unfolding number_from
from_found zero ps p h = (omega arith, number-found ps p h)
from_found (suc t) [] p h = absurd (omega arith)
from_found (suc t) (q ∷ qs) p h = let (a, b) = from_found t qs p (omega arith) in (omega arith, b)

-- .. and below it none from t on is the one
pub from-before : (t : ℕ) (ps : List Plate) (p : Plate) (j : ℕ) → t ≤ j → j < number_from t ps p → get_or ps j waste ≡ p → ⊥
unfolding number_from
from-before zero ps p j a h e = number-before ps p j h e
from-before (suc t) [] p j a h e = omega arith
from-before (suc t) (q ∷ qs) p zero a h e = omega arith
from-before (suc t) (q ∷ qs) p (suc j) a h e = from-before t qs p j (omega arith) (omega arith) e

module _ (job : Job) (p : Plate) (ps : List Plate) where
  -- the number of sizes
  abbrev t : ℕ
  t = length job.sizes

  -- a residual that is not kept has the number 0
  pub entered-waste : kept job p ≡ false → entered job p ps ≡ record { number = 0; plates = ps }
  unfolding entered
  entered-waste h = rw (h, entered)

  -- "a type met before keeps its number"
  pub entered-met : kept job p ≡ true → number_from t ps p < length ps → entered job p ps ≡ record { number = number_from t ps p; plates = ps }
  unfolding entered
  entered-met h l = rw (h, entered, lt-ltb (number_from t ps p) (length ps) l)

  -- a residual that is kept and new becomes the next plate type
  pub entered-new : kept job p ≡ true → length ps ≤ number_from t ps p → entered job p ps ≡ record { number = length ps; plates = ps ++ (p ∷ []) }
  unfolding entered
  entered-new h l =
      let e : number_from t ps p ≡ length ps = omega (arith, from-at-most t ps p) in
      rw (h, entered, le-ltb (number_from t ps p) (length ps) l, e)

  -- entering a residual, by cases
  pub data Entering : Type 0 where
    not-kept : kept job p ≡ false → entered job p ps ≡ record { number = 0; plates = ps } → Entering
    met :
        (k : ℕ)
        → kept job p ≡ true
        → t ≤ k
        → k < length ps
        → get_or ps k waste ≡ p
        → entered job p ps ≡ record { number = k; plates = ps }
        → Entering
    fresh :
        kept job p ≡ true
        → ((j : ℕ) → t ≤ j → j < length ps → get_or ps j waste ≡ p → ⊥)
        → entered job p ps ≡ record { number = length ps; plates = ps ++ (p ∷ []) }
        → Entering

  pub entering : Entering
  entering = go (kept job p) refl (at-most-or-above (length ps) (number_from t ps p))
    where
      go : (b : Bool) → kept job p ≡ b → (length ps ≤ number_from t ps p) ⊎ (number_from t ps p < length ps) → Entering
      go false h c = not-kept h (entered-waste h)
      go true h (inl l) = fresh h (λ j a b. from-before t ps p j a (omega arith)) (entered-new h l)
      go true h (inr l) = (let (a, b) = from_found t ps p l in met (number_from t ps p) h a l b (entered-met h l))
