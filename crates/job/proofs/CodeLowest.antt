-- A loop that looks for the lowest place at which a check fails, on plain values: what is left to do from place k on is the whole.
use mathlib.Core.Path.{◌≡◌, refl, sym, ◌∙◌}
use Prim.Native.Nat.{ℕ, suc, ◌+◌, ◌≤◌, ◌<◌}
use mathlib.Core.Bool.{Bool, true, false, cond}
use mathlib.Core.List.{List, [], ◌∷◌}
use native.Mathlib.Omega.{arith}
use native.Mathlib.Numerals.{add-one}
use lib.ListN.{length, get_or, drop}
use Rattle.job.specs.Verdict.{Verdict, pass, refuse, lowest}
use Rattle.job.proofs.Verdicts.{lowest-here, lowest-drop-here, lowest-drop-next, lowest-drop-end}
use Rattle.job.proofs.Verdicts as verdicts

-- the check stands at the element of index i, whose place is k
module _ {A : Type 0} (xs : List A) (d : A) (number : ℕ) (bad : ℕ → A → Bool) (k i : ℕ) {whole : Verdict} (w : whole ≡ lowest number bad k (drop i xs)) where
  pub lowest-end : length xs ≤ i → pass ≡ whole
  lowest-end h = sym (w ∙ lowest-drop-end number bad k xs i h)

  module _ (h : i < length xs) where
    pub lowest-found : bad k (get_or xs i d) ≡ true → refuse number k ≡ whole
    lowest-found t = sym (w ∙ lowest-drop-here number bad k xs i d h t)

    pub lowest-next : bad k (get_or xs i d) ≡ false → whole ≡ lowest number bad (k + 1) (drop (i + 1) xs)
    lowest-next t = w ∙ rw (add-one k, add-one i) (lowest-drop-next number bad k xs i d h t)

module _ {A : Type 0} where
  -- a check at its first place
  lowest-cons : (number : ℕ) (bad : ℕ → A → Bool) (k : ℕ) (a : A) (as' : List A) (t : Bool) → bad k a ≡ t → lowest number bad k (a ∷ as') ≡ cond t (refuse number k) (lowest number bad (suc k) as')
  lowest-cons number bad k a as' true e = lowest-here number bad k a as' e
  lowest-cons number bad k a as' false e = verdicts.lowest-next number bad k a as' e

  -- two checks that agree at every place of a list say the same of it
  pub lowest-agree : (number : ℕ) (bad bad' : ℕ → A → Bool) (k : ℕ) (xs : List A) → ((i : ℕ) (a : A) → k ≤ i → i < k + length xs → bad i a ≡ bad' i a) → lowest number bad k xs ≡ lowest number bad' k xs
  unfolding lowest
  lowest-agree number bad bad' k [] e = refl
  lowest-agree number bad bad' k (a ∷ as') e =
      lowest-cons number bad k a as' (bad k a) refl
      ∙ rw (e k a (omega arith) (omega arith), lowest-agree number bad bad' (suc k) as' (λ i b p q. e i b (omega arith) (omega arith))) (sym (lowest-cons number bad' k a as' (bad' k a) refl))
