-- The counts of a part added up, on plain values: what is added up to a count and what is left to add are all of them.
use Prim.Native.Nat.{ℕ, ◌+◌, ◌≤◌, ◌<◌}
use native.Mathlib.Numerals.{add-one}
use native.Mathlib.Omega.{arith}
use mathlib.Core.Path.{◌≡◌, ◌∙◌}
use mathlib.Core.List.{List}
use lib.ListN.{length, get_or, drop, drop_of_length-le}
use lib.Seq.{drop-cons}
use Rattle.job.specs.Lists.{sum_of}
use Rattle.plan.specs.Plan.{total}

module _ (ns : List ℕ) (i sum : ℕ) {whole : ℕ} (w : whole ≡ sum + total (drop i ns)) where
  -- past the last count all are added
  pub sum-end : length ns ≤ i → whole ≡ sum
  unfolding total sum_of
  sum-end h = let e : whole ≡ sum + 0 = rw (drop_of_length-le ns {i = i} h, total) at w in omega arith

  -- else the next is added
  pub sum-next : i < length ns → {r : ℕ} → r ≡ get_or ns i 0 → whole ≡ sum + r + total (drop (i + 1) ns)
  unfolding total sum_of
  sum-next h e =
      let f : whole ≡ sum + (get_or ns i 0 + total (drop (i + 1) ns)) = w ∙ rw (drop-cons ns i 0 h, total, add-one) in
      omega arith
