-- Tests, sums and the greatest value over a list.
use Rattle.std.specs.Prelude.{ℕ, zero, suc, ◌+◌, ◌-◌, max, Bool, true, false, List, [], ◌∷◌, eqb}

module _ {A : Type 0} where
  -- some element passes the test
  unfoldable pub any : (A → Bool) → List A → Bool
  any test [] = false
  any test (a ∷ as') = elim (test a) [ true ↦ true | false ↦ any test as' ]

  -- every element passes the test
  unfoldable pub all : (A → Bool) → List A → Bool
  all test [] = true
  all test (a ∷ as') = elim (test a) [ true ↦ all test as' | false ↦ false ]

  -- the values of f, added up
  unfoldable pub sum_of : (A → ℕ) → List A → ℕ
  sum_of f [] = 0
  sum_of f (a ∷ as') = f a + sum_of f as'

  -- the values of f, added up with a gap after each
  abbrev pub gaps_after : ℕ → (A → ℕ) → List A → ℕ
  gaps_after gap f as' = sum_of (λ a. f a + gap) as'

  -- request Four, "b between neighbours": the values of f, added up with a gap between neighbours, so that the gap after the last is taken back
  unfoldable pub gap_sum : ℕ → (A → ℕ) → List A → ℕ
  gap_sum gap f as' = gaps_after gap f as' - gap

  -- the greatest value of f, 0 where there is none
  unfoldable pub max_of : (A → ℕ) → List A → ℕ
  max_of f [] = 0
  max_of f (a ∷ as') = max (f a) (max_of f as')

  abbrev pub non_empty : List A → Bool
  non_empty [] = false
  non_empty (a ∷ as') = true

-- how often a number stands in a list
unfoldable pub occurs : ℕ → List ℕ → ℕ
occurs i is = sum_of (λ k. elim (eqb k i) [ true ↦ 1 | false ↦ 0 ]) is

-- how often each of n numbers, from k on, stands in a list
unfoldable pub tally : ℕ → ℕ → List ℕ → List ℕ
tally zero k ks = []
tally (suc n) k ks = occurs k ks ∷ tally n (suc k) ks
