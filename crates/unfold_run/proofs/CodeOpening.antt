-- The boards that are left to be opened, on plain values: what a step makes of them, and the size of the next board.
use Prim.Native.Nat.{ℕ, zero, suc, ◌+◌, ◌-◌, ◌≤◌, ◌<◌}
use native.Mathlib.Omega.{arith}
use mathlib.Core.Path.{◌≡◌, sym, ◌∙◌, ap}
use mathlib.Core.Logic.{◌⊎◌, inl, inr}
use mathlib.Core.List.{List}
use mathlib.Core.Option.{none, some}
use borrow.Author.Tests.{lt-ltb, le-ltb}
use Rattle.job.proofs.Tests.{at-most-or-above}
use Rattle.listing.specs.Listing.{Listing}
use Rattle.plan.specs.Plan.{boards_of}
use Rattle.layouts.specs.Unfold.{next_size}
use Rattle.layouts.proofs.machine.NextSize.{next-ended}
use Rattle.unfold_step.specs.Meaning.{spends}
use Rattle.unfold_run.specs.declared.remaining.Remaining.{Remaining}
use Rattle.unfold_run.specs.Opening.{OpensFrom}

-- before a board is opened, no size comes before size 0
pub opens-first : (l : Listing) (t : ℕ) (ns : List ℕ) (boards : ℕ) → 0 < t → boards ≡ boards_of l 0 ns → OpensFrom l t (record { size = record { 0 = 0 }; boards = boards }) ns
opens-first l t ns boards h b = record { listed = h; spent-before = λ i p. absurd (omega arith); left = b }

-- of n sizes from j on, the next is the first that has boards left
next-at : (l : Listing) (n j k : ℕ) (ns : List ℕ) → j ≤ k → k < n + j → ((i : ℕ) → i < k → boards_of l i ns ≡ 0) → 0 < boards_of l k ns → next_size n j l ns ≡ some k
unfolding next_size
next-at l zero j k ns a b h p = absurd (omega arith)
next-at l (suc n) j k ns a b h p = by (at-most-or-above k j) (λ q. next-at l n (suc j) k ns q (omega arith) h p)
  where
    by : (k ≤ j) ⊎ (j < k) → (suc j ≤ k → next_size n (suc j) l ns ≡ some k) → next_size (suc n) j l ns ≡ some k
    by (inl q) rec =
        let e : j ≡ k = omega arith in
        let left : 0 < boards_of l j ns = rw e p in
        rw (lt-ltb 0 (boards_of l j ns) left, next_size) (ap (λ (i : ℕ). some i) e)
    by (inr q) rec = rw (le-ltb 0 (boards_of l j ns) (omega (arith, h j q)), next_size) (rec (omega arith))

module _ (l : Listing) (t : ℕ) (r : Remaining) (ns : List ℕ) (o : OpensFrom l t r ns) where
  -- the next board is of this size where boards of it are left
  pub next_here : (r.boards ≡ 0 → ⊥) → next_size t 0 l ns ≡ some r.size.0
  next_here h =
      next-at l t 0 r.size.0 ns (omega arith) (omega (arith, o.listed)) o.spent-before (omega (arith, o.left, h))

  -- where it has none left, no size up to it has
  spent-to : r.boards ≡ 0 → (i : ℕ) → i ≤ r.size.0 → boards_of l i ns ≡ 0
  spent-to z i p = by (at-most-or-above r.size.0 i)
    where
      by : (r.size.0 ≤ i) ⊎ (i < r.size.0) → boards_of l i ns ≡ 0
      by (inl q) = let e : r.size.0 ≡ i = omega arith in rw (← e) (sym o.left ∙ z)
      by (inr q) = o.spent-before i q

  -- there is no next board where it is the last size, too
  pub next-none : r.boards ≡ 0 → t ≤ r.size.0 + 1 → next_size t 0 l ns ≡ none
  next-none z last = next-ended l t 0 ns (λ i p. spent-to z i (omega (arith, last)))

  -- counts that open as many boards of each size
  pub opens-same : (ns' : List ℕ) → ((i : ℕ) → boards_of l i ns ≡ boards_of l i ns') → OpensFrom l t r ns'
  opens-same ns' e =
      record { listed = o.listed; spent-before = λ i p. sym (e i) ∙ o.spent-before i p; left = o.left ∙ e r.size.0 }

  -- a cut on a plate spends one of its type
  module _ (ns' : List ℕ) (plate : ℕ) (falls : (i : ℕ) → boards_of l i ns ≡ spends i plate + boards_of l i ns') where
    pub opens-after : (boards : ℕ) → boards ≡ r.boards - spends r.size.0 plate → OpensFrom l t (record { size = r.size; boards = boards }) ns'
    opens-after boards b =
        record {
          listed = o.listed;
          spent-before = λ i p. omega (arith, falls i, o.spent-before i p);
          left = omega (arith, o.left, falls r.size.0, b);
        }
