-- Loops over the item types in rising number, on plain values: what is left to do from one of them on is the whole.
use mathlib.Core.Path.{◌≡◌, sym, ◌∙◌}
use Prim.Native.Nat.{ℕ, ◌+◌, ◌-◌, ◌≤◌, ◌<◌}
use mathlib.Core.Bool.{Bool, true, false}
use native.Mathlib.Numerals.{add-one}
use native.Mathlib.Omega.{arith}
use lib.ListN.{length, drop}
use Rattle.job.specs.declared.item.Item.{Item}
use Rattle.job.specs.Lists.{sum_of}
use Rattle.job.specs.Verdict.{Verdict, pass, refuse, lowest}
use Rattle.job.specs.Job.{Job, item_at}
use Rattle.job.proofs.CodeItems.{items-from, items-end}

-- a check over all item types: the loop ends with the lowest that fails
module _ (job : Job) (number : ℕ) (bad : ℕ → Item → Bool) (i : ℕ) {whole : Verdict} (w : whole ≡ lowest number bad i (drop (i - 1) job.items)) where
  pub lowest-end : length job.items < i → pass ≡ whole
  unfolding lowest
  lowest-end h = sym (w ∙ rw (items-end job i h))

  module _ (h : 1 ≤ i) (l : i ≤ length job.items) where
    pub lowest-found : bad i (item_at job i) ≡ true → refuse number i ≡ whole
    unfolding lowest
    lowest-found t = sym (w ∙ rw (items-from job i h l, t, lowest))

    pub lowest-next : bad i (item_at job i) ≡ false → whole ≡ lowest number bad (i + 1) (drop (i + 1 - 1) job.items)
    unfolding lowest
    lowest-next t = w ∙ rw (items-from job i h l, t, lowest, add-one)

-- a sum over all item types: what has been added up, and the rest
module _ (job : Job) (f : Item → ℕ) (i sum : ℕ) {whole : ℕ} (w : whole ≡ sum + sum_of f (drop (i - 1) job.items)) where
  pub sum-end : length job.items < i → sum ≡ whole
  unfolding sum_of
  sum-end h = let e : whole ≡ sum + 0 = w ∙ rw (items-end job i h) in omega arith

  pub sum-next : {x : Item} → x ≡ item_at job i → 1 ≤ i → i ≤ length job.items → whole ≡ sum + f x + sum_of f (drop (i + 1 - 1) job.items)
  unfolding sum_of
  sum-next e h l = w ∙ rw (items-from job i h l, e) (omega arith)
