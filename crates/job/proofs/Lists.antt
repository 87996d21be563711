-- Tests over a list: what `any` and `all` decide, by places, and how they go one place further.
use Prim.Native.Nat.{ℕ, zero, suc, ◌<◌}
use native.Mathlib.Omega.{arith}
use mathlib.Core.Path.{◌≡◌, refl}
use mathlib.Core.Bool.{Bool, true, false, ◌&&◌, ◌||◌}
use mathlib.Core.List.{List, [], ◌∷◌}
use lib.ListN.{length, get_or}
use Rattle.job.specs.Lists.{any, all}
use Rattle.job.proofs.Tests.{not-both}

module _ {A : Type 0} (test : A → Bool) where
  -- the first element or one of the others; the first and all the others
  pub any-cons : (a : A) (as' : List A) → any test (a ∷ as') ≡ (test a || any test as')
  unfolding any
  any-cons a as' = go (test a)
    where
      go : (t : Bool) → elim t [ true ↦ true | false ↦ any test as' ] ≡ (t || any test as')
      go true = refl
      go false = refl

  pub all_cons : (a : A) (as' : List A) → all test (a ∷ as') ≡ (test a && all test as')
  unfolding all
  all_cons a as' = go (test a)
    where
      go : (t : Bool) → elim t [ true ↦ all test as' | false ↦ false ] ≡ (t && all test as')
      go true = refl
      go false = refl

  -- the first element passes
  pub any_here : (a : A) (as' : List A) → test a ≡ true → any test (a ∷ as') ≡ true
  unfolding any
  any_here a as' h = rw (h, any)

  -- the first element does not pass
  pub any_next : (a : A) (as' : List A) → test a ≡ false → any test (a ∷ as') ≡ any test as'
  unfolding any
  any_next a as' h = rw (h, any)

  -- an element that passes is named by its place
  pub any_found : (as' : List A) (d : A) → any test as' ≡ true → (i : ℕ) × (i < length as') × (test (get_or as' i d) ≡ true)
  unfolding any
  any_found [] d h = absurd (not-both h refl)
  any_found (a ∷ as') d h = go (test a) refl h (any_found as' d)
    where
      go :
          (t : Bool)
          → test a ≡ t
          → (elim t as (λ _. Bool) [ true ↦ true | false ↦ any test as' ]) ≡ true
          → (any test as' ≡ true → (i : ℕ) × (i < length as') × (test (get_or as' i d) ≡ true))
          → (i : ℕ) × (i < length (a ∷ as')) × (test (get_or (a ∷ as') i d) ≡ true)
      go true e h f = (0, omega arith, e)
      go false e h f = let r = f h in (suc r.0, omega (arith, r.1), r.2)

  -- a place whose element passes
  pub any_at : (as' : List A) (i : ℕ) (d : A) → i < length as' → test (get_or as' i d) ≡ true → any test as' ≡ true
  unfolding any
  any_at [] i d h p = absurd (omega arith)
  any_at (a ∷ as') zero d h p = any_here a as' p
  any_at (a ∷ as') (suc i) d h p = go (test a) (any_at as' i d (omega arith) p)
    where
      go : (t : Bool) → any test as' ≡ true → (elim t as (λ _. Bool) [ true ↦ true | false ↦ any test as' ]) ≡ true
      go true f = refl
      go false f = f

  -- every element passes
  pub all-each : (as' : List A) (d : A) → all test as' ≡ true → (i : ℕ) → i < length as' → test (get_or as' i d) ≡ true
  unfolding all
  all-each [] d h i p = absurd (omega arith)
  all-each (a ∷ as') d h i p = go (test a) refl i p h (all-each as' d)
    where
      go :
          (t : Bool)
          → test a ≡ t
          → (i : ℕ)
          → i < length (a ∷ as')
          → (elim t as (λ _. Bool) [ true ↦ all test as' | false ↦ false ]) ≡ true
          → (all test as' ≡ true → (i : ℕ) → i < length as' → test (get_or as' i d) ≡ true)
          → test (get_or (a ∷ as') i d) ≡ true
      go true e zero p h f = e
      go true e (suc i) p h f = f h i (omega arith)
      go false e i p h f = absurd (not-both h refl)

  pub each_all : (as' : List A) (d : A) → ((i : ℕ) → i < length as' → test (get_or as' i d) ≡ true) → all test as' ≡ true
  unfolding all
  each_all [] d f = refl
  each_all (a ∷ as') d f = rw (f 0 (omega arith), all) (each_all as' d (λ i p. f (suc i) (omega arith)))
