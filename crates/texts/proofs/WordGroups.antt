-- Words in groups: three for each size of a job, four for each type, nine for each line of layouts; the induction over each.
use Prim.Native.Nat.{ℕ, zero, suc, ◌*◌}
use native.Mathlib.Omega.{arith}
use mathlib.Core.Path.{◌≡◌}
use mathlib.Core.List.{List, [], ◌∷◌}
use lib.ListN.{length}
use Rattle.job.specs.Sizes.{words_of_size, words_of_item, words_of_placement}

-- k groups of three words
pub data Threes : List ℕ → ℕ → Type 0 where
  no_size : Threes [] zero
  one_size : {a b c k : ℕ} {ws : List ℕ} → Threes ws k → Threes (a ∷ b ∷ c ∷ ws) (suc k)

pub threes : (k : ℕ) (ws : List ℕ) → length ws ≡ words_of_size * k → Threes ws k
threes zero [] h = no_size
threes (suc k) [] h = absurd (omega arith)
threes k (a ∷ []) h = absurd (omega arith)
threes k (a ∷ b ∷ []) h = absurd (omega arith)
threes zero (a ∷ b ∷ c ∷ ws) h = absurd (omega arith)
threes (suc k) (a ∷ b ∷ c ∷ ws) h = one_size (threes k ws (omega arith))

-- k groups of four words
pub data Fours : List ℕ → ℕ → Type 0 where
  no-type : Fours [] zero
  one_type : {a b c d k : ℕ} {ws : List ℕ} → Fours ws k → Fours (a ∷ b ∷ c ∷ d ∷ ws) (suc k)

pub fours : (k : ℕ) (ws : List ℕ) → length ws ≡ words_of_item * k → Fours ws k
fours zero [] h = no-type
fours (suc k) [] h = absurd (omega arith)
fours k (a ∷ []) h = absurd (omega arith)
fours k (a ∷ b ∷ []) h = absurd (omega arith)
fours k (a ∷ b ∷ c ∷ []) h = absurd (omega arith)
fours zero (a ∷ b ∷ c ∷ d ∷ ws) h = absurd (omega arith)
fours (suc k) (a ∷ b ∷ c ∷ d ∷ ws) h = one_type (fours k ws (omega arith))

-- k groups of nine words
pub data Nines : List ℕ → ℕ → Type 0 where
  no_line : Nines [] zero
  one_line : {a b c d e f g h i k : ℕ} {ws : List ℕ} → Nines ws k → Nines (a ∷ b ∷ c ∷ d ∷ e ∷ f ∷ g ∷ h ∷ i ∷ ws) (suc k)

pub nines : (k : ℕ) (ws : List ℕ) → length ws ≡ words_of_placement * k → Nines ws k
nines zero [] h = no_line
nines (suc k) [] h = absurd (omega arith)
nines k (a ∷ []) h = absurd (omega arith)
nines k (a ∷ b ∷ []) h = absurd (omega arith)
nines k (a ∷ b ∷ c ∷ []) h = absurd (omega arith)
nines k (a ∷ b ∷ c ∷ d ∷ []) h = absurd (omega arith)
nines k (a ∷ b ∷ c ∷ d ∷ e ∷ []) h = absurd (omega arith)
nines k (a ∷ b ∷ c ∷ d ∷ e ∷ f ∷ []) h = absurd (omega arith)
nines k (a ∷ b ∷ c ∷ d ∷ e ∷ f ∷ g ∷ []) h = absurd (omega arith)
nines k (a ∷ b ∷ c ∷ d ∷ e ∷ f ∷ g ∷ t ∷ []) h = absurd (omega arith)
nines zero (a ∷ b ∷ c ∷ d ∷ e ∷ f ∷ g ∷ t ∷ u ∷ ws) h = absurd (omega arith)
nines (suc k) (a ∷ b ∷ c ∷ d ∷ e ∷ f ∷ g ∷ t ∷ u ∷ ws) h = one_line (nines k ws (omega arith))
