-- Conjunctions, limits, verdicts and checks over lists, by their parts.
use Prim.Native.Nat.{ℕ, suc, ◌+◌, ◌≤◌}
use mathlib.Core.Path.{◌≡◌, refl, ◌∙◌}
use mathlib.Core.Bool.{Bool, true, false, not, ◌&&◌}
use mathlib.Core.List.{List, [], ◌∷◌, ◌++◌}
use lib.ListN.{length}
use Rattle.job.specs.Verdict.{pass, refuse, refuse_if, within, lowest}
use Rattle.job.proofs.Tests.{and_left, and_right, within_low, within-high}
use Rattle.job.proofs.Verdicts.{pass-not-refuse, then-both, lowest-append}

-- both parts of a conjunction
pub and_parts : (a b : Bool) → (a && b) ≡ true → (a ≡ true) × (b ≡ true)
and_parts a b h = (and_left a b h, and_right a b h)

-- a value within its limits
pub within-parts : (low high x : ℕ) → within low high x ≡ true → (low ≤ x) × (x ≤ high)
within-parts low high x h = (within_low low high x h, within-high low high x h)

-- a check for what does not hold passes where it holds
pub unless-passed : (t : Bool) (n p : ℕ) → refuse_if (not t) n p ≡ pass → t ≡ true
unless-passed true n p h = refl
unless-passed false n p h = absurd (pass-not-refuse h refl)

-- a check over one list after another
module _ {A : Type 0} (number : ℕ) (bad : ℕ → A → Bool) where
  pub lowest-both :
      (k : ℕ) (as' bs : List A)
      → lowest number bad k as' ≡ pass
      → lowest number bad (k + length as') bs ≡ pass
      → lowest number bad k (as' ++ bs) ≡ pass
  lowest-both k as' bs p q = lowest-append number bad k as' bs ∙ then-both _ _ p q

  -- over one place, and over one place more
  pub lowest-one : (k : ℕ) (a : A) → bad k a ≡ false → lowest number bad k (a ∷ []) ≡ pass
  unfolding lowest
  lowest-one k a h = rw (h, lowest)

  pub lowest-more :
      (k : ℕ) (as' : List A) (a : A)
      → lowest number bad k as' ≡ pass
      → bad (k + length as') a ≡ false
      → lowest number bad k (as' ++ (a ∷ [])) ≡ pass
  lowest-more k as' a p q = lowest-both k as' (a ∷ []) p (lowest-one (k + length as') a q)

  -- where a check passes, it passes at the first place and at those after it
  pub lowest-parts :
      (k : ℕ) (a : A) (as' : List A)
      → lowest number bad k (a ∷ as') ≡ pass
      → (bad k a ≡ false) × (lowest number bad (suc k) as' ≡ pass)
  unfolding lowest
  lowest-parts k a as' h = go (bad k a) h
    where
      go :
          (t : Bool)
          → elim t [ true ↦ refuse number k | false ↦ lowest number bad (suc k) as' ] ≡ pass
          → (t ≡ false) × (lowest number bad (suc k) as' ≡ pass)
      go true h = absurd (pass-not-refuse h refl)
      go false h = (refl, h)
