-- What the inner functions of the group reader promise of the columns before the last.
use Rattle.std.specs.Prelude.{ℕ, ◌/◌, ◌^◌, ◌≤◌, ◌<◌, ◌≡◌, List, length}
use Rattle.columns.specs.Group.{limit, mark, lead}

-- r is the number whose columns up to this one are those of v and then b: the limit, if there is none
pub record Column (v b r : ℕ) : Type 0 where
  pub low : r ≤ limit
  pub right : r < limit → (r / 10 ≡ v) × (mark r ≡ b)
  pub only : (n : ℕ) → n < limit → n / 10 ≡ v → mark n ≡ b → r ≡ n

-- v is the number whose k columns before the last are bs: the limit, if there is none
pub record Columns (bs : List ℕ) (k v : ℕ) : Type 0 where
  pub size : length bs ≡ k
  pub low : v ≤ limit
  pub right : v < limit → (v < 10 ^ k) × (bs ≡ lead k v)
  pub only : (n : ℕ) → n < limit → n < 10 ^ k → bs ≡ lead k n → v ≡ n
