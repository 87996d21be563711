-- Sums and greatest values over a list, and how often a number stands in one.
use Prim.Native.Nat.{ℕ, zero, suc, ◌+◌, ◌≤◌, ◌<◌}
use native.Mathlib.Omega.{arith}
use mathlib.Core.Path.{◌≡◌, refl, ◌∙◌, ap}
use mathlib.Core.Bool.{Bool, true, false, cond, ◌||◌}
use mathlib.Core.List.{List, [], ◌∷◌, ◌++◌, map, flat_map}
use lib.Dec.{eqb}
use lib.ListN.{length, get_or, take}
use lib.Seq.{take-suc}
use borrow.Author.Tests.{eq-eqb, ne_eqb}
use Rattle.job.specs.Lists.{sum_of, gap_sum, max_of, occurs, tally}

module _ {A : Type 0} where
  -- one list after another
  pub sum_of-append : (f : A → ℕ) (as' bs : List A) → sum_of f (as' ++ bs) ≡ sum_of f as' + sum_of f bs
  unfolding sum_of
  sum_of-append f [] bs = omega arith
  sum_of-append f (a ∷ as') bs = omega (arith, sum_of-append f as' bs)

  -- a gap between neighbours: none where there is no value or one alone, and one more for each value more
  pub gap_sum-none : (gap : ℕ) (f : A → ℕ) → gap_sum gap f [] ≡ 0
  unfolding gap_sum sum_of
  gap_sum-none gap f = omega arith

  pub gap_sum-one : (gap : ℕ) (f : A → ℕ) (a : A) → gap_sum gap f (a ∷ []) ≡ f a
  unfolding gap_sum sum_of
  gap_sum-one gap f a = omega arith

  pub gap_sum-more : (gap : ℕ) (f : A → ℕ) (a b : A) (as' : List A) → gap_sum gap f (a ∷ b ∷ as') ≡ f a + gap + gap_sum gap f (b ∷ as')
  unfolding gap_sum sum_of
  gap_sum-more gap f a b as' = omega arith

  -- without a gap it is the sum
  pub gap_sum-zero : (f : A → ℕ) (as' : List A) → gap_sum 0 f as' ≡ sum_of f as'
  unfolding gap_sum sum_of
  gap_sum-zero f [] = refl
  gap_sum-zero f (a ∷ as') = let z : gap_sum 0 f as' ≡ sum_of f as' = gap_sum-zero f as' in omega arith

  -- one element more
  pub sum_of-take : (f : A → ℕ) (as' : List A) (i : ℕ) (d : A) → i < length as' → sum_of f (take (suc i) as') ≡ sum_of f (take i as') + f (get_or as' i d)
  unfolding sum_of
  sum_of-take f as' i d h = ap (sum_of f) (take-suc as' i d h) ∙ sum_of-append f (take i as') (get_or as' i d ∷ []) ∙ omega arith

  -- the same values
  pub sum_of-same : (f g : A → ℕ) (as' : List A) → ((a : A) → f a ≡ g a) → sum_of f as' ≡ sum_of g as'
  unfolding sum_of
  sum_of-same f g [] h = refl
  sum_of-same f g (a ∷ as') h = omega (arith, h a, sum_of-same f g as' h)

  -- as many ones as elements
  pub length-sum : (as' : List A) → sum_of (λ _. 1) as' ≡ length as'
  unfolding sum_of
  length-sum [] = refl
  length-sum (a ∷ as') = omega (arith, length-sum as')

  -- a value is at most the greatest
  pub max_of-at : (f : A → ℕ) (as' : List A) (i : ℕ) (d : A) → i < length as' → f (get_or as' i d) ≤ max_of f as'
  unfolding max_of
  max_of-at f [] i d h = absurd (omega arith)
  max_of-at f (a ∷ as') zero d h = omega arith
  max_of-at f (a ∷ as') (suc i) d h = let z : f (get_or as' i d) ≤ max_of f as' = max_of-at f as' i d (omega arith) in omega arith

  -- the greatest of values that are at most b each
  pub max_of-bound : (f : A → ℕ) (b : ℕ) (as' : List A) (d : A) → ((i : ℕ) → i < length as' → f (get_or as' i d) ≤ b) → max_of f as' ≤ b
  unfolding max_of
  max_of-bound f b [] d h = omega arith
  max_of-bound f b (a ∷ as') d h =
      let z : f a ≤ b = h 0 (omega arith) in
      omega (arith, max_of-bound f b as' d (λ i p. h (suc i) (omega arith)))

-- the sum over mapped elements
pub sum_of-map : {A B : Type 0} (f : B → ℕ) (g : A → B) (as' : List A) → sum_of f (map g as') ≡ sum_of (λ a. f (g a)) as'
unfolding sum_of
sum_of-map f g [] = refl
sum_of-map f g (a ∷ as') = omega (arith, sum_of-map f g as')

-- the sum over the parts that elements are made of
pub sum_of-parts : {A B : Type 0} (f : B → ℕ) (g : A → List B) (as' : List A) → sum_of f (flat_map g as') ≡ sum_of (λ a. sum_of f (g a)) as'
unfolding sum_of flat_map
sum_of-parts f g [] = refl
sum_of-parts f g (a ∷ as') = omega (arith, sum_of-append f (g a) (flat_map g as'), sum_of-parts f g as')

-- 1 where a test passes, else 0
abbrev pub bit : Bool → ℕ
bit t = cond t 1 0

-- 1 where two numbers are equal, 0 where they differ
pub bit-same : {a b : ℕ} → a ≡ b → bit (eqb a b) ≡ 1
bit-same {a} {b} e = rw (eq-eqb a b e)

pub bit-diff : {a b : ℕ} → (a ≡ b → ⊥) → bit (eqb a b) ≡ 0
bit-diff {a} {b} d = rw (ne_eqb a b d)

-- of two tests that cannot both pass, how often one does
pub bit_or : (a b : Bool) → (a ≡ true → b ≡ true → ⊥) → bit (a || b) ≡ bit a + bit b
bit_or true true d = absurd (d refl refl)
bit_or true false d = refl
bit_or false b d = omega arith

-- how often a number stands in a list, as a sum
pub occurs-cons : (i k : ℕ) (ks : List ℕ) → occurs i (k ∷ ks) ≡ bit (eqb k i) + occurs i ks
unfolding occurs sum_of
occurs-cons i k ks = go (eqb k i)
  where
    go : (t : Bool) → elim t [ true ↦ 1 | false ↦ 0 ] + occurs i ks ≡ bit t + occurs i ks
    go true = refl
    go false = refl

pub occurs-sum : (i : ℕ) (ks : List ℕ) → occurs i ks ≡ sum_of (λ k. bit (eqb k i)) ks
unfolding sum_of occurs
occurs-sum i [] = refl
occurs-sum i (k ∷ ks) = omega (arith, occurs-cons i k ks, occurs-sum i ks)

-- a number stands once more where it is met
pub occurs-here : (i : ℕ) (is : List ℕ) → occurs i (i ∷ is) ≡ suc (occurs i is)
occurs-here i is = omega (arith, occurs-cons i i is, bit-same {a = i} {b = i} refl)

pub occurs-other : (i k : ℕ) (is : List ℕ) → (k ≡ i → ⊥) → occurs i (k ∷ is) ≡ occurs i is
occurs-other i k is h = omega (arith, occurs-cons i k is, bit-diff h)

-- one list after another
pub occurs-append : (i : ℕ) (is js : List ℕ) → occurs i (is ++ js) ≡ occurs i is + occurs i js
unfolding occurs
occurs-append i is js = sum_of-append (λ k. elim (eqb k i) [ true ↦ 1 | false ↦ 0 ]) is js

-- a number stands in a list at most as often as there are places
pub occurs-length : (i : ℕ) (is : List ℕ) → occurs i is ≤ length is
unfolding occurs sum_of
occurs-length i [] = omega arith
occurs-length i (k ∷ is) = go (eqb k i) (occurs-length i is)
  where
    go : (t : Bool) → occurs i is ≤ length is → (elim t as (λ _. ℕ) [ true ↦ 1 | false ↦ 0 ]) + occurs i is ≤ length (k ∷ is)
    go true h = omega arith
    go false h = omega arith

-- there is a number for each of n
pub tally-length : (n k : ℕ) (ks : List ℕ) → length (tally n k ks) ≡ n
unfolding tally
tally-length zero k ks = refl
tally-length (suc n) k ks = ap suc (tally-length n (suc k) ks)

-- at place i stands how often k + i is met
pub tally-at : (n k : ℕ) (ks : List ℕ) (i d : ℕ) → i < n → get_or (tally n k ks) i d ≡ occurs (k + i) ks
unfolding tally
tally-at zero k ks i d h = absurd (omega arith)
tally-at (suc n) k ks zero d h = ap (λ (j : ℕ). occurs j ks) (omega arith)
tally-at (suc n) k ks (suc i) d h = tally-at n (suc k) ks i d (omega arith) ∙ ap (λ (j : ℕ). occurs j ks) (omega arith)
