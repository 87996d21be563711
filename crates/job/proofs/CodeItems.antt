-- The item types of a job, and its positions, taken in rising number.
use mathlib.Core.Path.{◌≡◌}
use Prim.Native.Nat.{ℕ, zero, suc, ◌+◌, ◌-◌, ◌≤◌, ◌<◌}
use mathlib.Core.List.{List, [], ◌∷◌}
use native.Mathlib.Omega.{arith}
use lib.ListN.{length, get_or, drop, drop_of_length-le}
use lib.Seq.{drop-cons}
use Rattle.job.specs.Job.{Job, no_item, item_at, no_position, positions, position_at}
pub use Rattle.job.proofs.ItemWords.{items-length}

module _ {A : Type 0} (xs : List A) where
  -- a list from its place i on, counted from 1: what stands there, and those after it
  list-from : (d : A) (j : ℕ) → suc j ≤ length xs → drop (suc j - 1) xs ≡ get_or xs j d ∷ drop (suc j + 1 - 1) xs
  list-from d j l =
      let a : suc j - 1 ≡ j = omega arith in
      let b : suc j + 1 - 1 ≡ suc j = omega arith in
      rw (a, b) (drop-cons xs j d (omega arith))

  -- past the last there is none
  list-end : (i : ℕ) → length xs < i → drop (i - 1) xs ≡ []
  list-end i h = drop_of_length-le xs {i = i - 1} (omega arith)

module _ (job : Job) where
  -- the item types from i on
  pub items-from : (i : ℕ) → 1 ≤ i → i ≤ length job.items → drop (i - 1) job.items ≡ item_at job i ∷ drop (i + 1 - 1) job.items
  unfolding item_at
  items-from zero h l = absurd (omega arith)
  items-from (suc j) h l = list-from job.items no_item j l

  pub items-end : (i : ℕ) → length job.items < i → drop (i - 1) job.items ≡ []
  items-end i h = list-end job.items i h

  -- the positions from q on
  pub positions-from : (q : ℕ) → 1 ≤ q → q ≤ length (positions job) → drop (q - 1) (positions job) ≡ position_at job q ∷ drop (q + 1 - 1) (positions job)
  unfolding position_at
  positions-from zero h l = absurd (omega arith)
  positions-from (suc k) h l = list-from (positions job) no_position k l

  pub positions-end : (q : ℕ) → length (positions job) < q → drop (q - 1) (positions job) ≡ []
  positions-end q h = list-end (positions job) q h
