-- Loops that test the elements of a list in turn, on plain values: what is left to do from place i on, counted from 0, is the whole.
use mathlib.Core.Path.{◌≡◌, sym, ◌∙◌}
use Prim.Native.Nat.{ℕ, ◌+◌, ◌≤◌, ◌<◌}
use mathlib.Core.Bool.{Bool, true, false}
use mathlib.Core.List.{List}
use native.Mathlib.Numerals.{add-one}
use lib.ListN.{length, get_or, drop, drop_of_length-le}
use lib.Seq.{drop-cons}
use Rattle.job.specs.Lists.{any, all}

module _ {A : Type 0} (xs : List A) (d : A) (test : A → Bool) (i : ℕ) {whole : Bool} where
  -- a test that some element passes: the loop ends with the first that does
  module _ (w : whole ≡ any test (drop i xs)) where
    pub any-end : length xs ≤ i → false ≡ whole
    unfolding any
    any-end h = sym (w ∙ rw (drop_of_length-le xs {i = i} h))

    module _ (h : i < length xs) where
      pub any_found : test (get_or xs i d) ≡ true → true ≡ whole
      unfolding any
      any_found t = sym (w ∙ rw (drop-cons xs i d h, t, any))

      pub any_next : test (get_or xs i d) ≡ false → whole ≡ any test (drop (i + 1) xs)
      unfolding any
      any_next t = w ∙ rw (drop-cons xs i d h, t, any, add-one i)

  -- a test that every element passes: the loop ends with the first that does not
  module _ (w : whole ≡ all test (drop i xs)) where
    pub all_end : length xs ≤ i → true ≡ whole
    unfolding all
    all_end h = sym (w ∙ rw (drop_of_length-le xs {i = i} h))

    module _ (h : i < length xs) where
      pub all-failed : test (get_or xs i d) ≡ false → false ≡ whole
      unfolding all
      all-failed t = sym (w ∙ rw (drop-cons xs i d h, t, all))

      pub all-next : test (get_or xs i d) ≡ true → whole ≡ all test (drop (i + 1) xs)
      unfolding all
      all-next t = w ∙ rw (drop-cons xs i d h, t, all, add-one i)
