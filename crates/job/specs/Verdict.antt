-- Document 01, "Where each number is given": a verdict, the order of checks, and the lowest place at which a check fails.
use Rattle.std.specs.Prelude.{ℕ, suc, Bool, true, false, ◌&&◌, List, [], ◌∷◌, leb}

-- what some checks say: they pass, or refuse with a number of the table and the place that it names
pub data Verdict : Type 0 where
  pass : Verdict
  refuse : ℕ → ℕ → Verdict

-- one check after another: "rows apply from the top", and the first refusal stands
infixr 20 ◌then◌
abbrev pub ◌then◌ : Verdict → Verdict → Verdict
pass then v = v
refuse number place then v = refuse number place

-- one check at one place
abbrev pub refuse_if : Bool → ℕ → ℕ → Verdict
refuse_if true number place = refuse number place
refuse_if false number place = pass

-- one check over all its places, numbered from k: "lowest place first"
module _ {A : Type 0} where
  unfoldable pub lowest : ℕ → (ℕ → A → Bool) → ℕ → List A → Verdict
  lowest number bad k [] = pass
  lowest number bad k (a ∷ as') = elim (bad k a) [ true ↦ refuse number k | false ↦ lowest number bad (suc k) as' ]

-- a value within its limits, both included
abbrev pub within : ℕ → ℕ → ℕ → Bool
within low high x = leb low x && leb x high
