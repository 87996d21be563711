-- Request Six: "boards are opened size by size in rising number". A size on which no counts are left stays so, and the next board is of the
-- lowest size on which counts are left.
use Prim.Native.Nat.{ℕ, ◌≤◌, ◌<◌}
use native.Mathlib.Omega.{arith}
use mathlib.Core.Path.{◌≡◌, refl, ap}
use mathlib.Core.Logic.{◌⊎◌, inl, inr}
use mathlib.Core.List.{List, [], ◌∷◌, map}
use Rattle.job.proofs.Tests.{at-most-or-above}
use Rattle.job.proofs.Sums.{bit-same}
use Rattle.listing.specs.Listing.{Listing, cut_at}
use Rattle.plan.specs.Plan.{on_plate}
use Rattle.plan.specs.Feasible.{NonePast}
use Rattle.layouts.specs.Layout.{sheet_size}
use Rattle.layouts.specs.Rules.{Every, NeverFalls}
use Rattle.layouts.proofs.trees.Tree.{Tree}
use Rattle.layouts.proofs.trees.WeightedSums.{weight}
use Rattle.layouts.proofs.trees.Balance.{root_size}
use Rattle.layouts.proofs.trees.TreeItems.{sheet_of}
use Rattle.layouts.proofs.machine.Search.{on_sum, spent-sum, spent-past, not_found}
use Rattle.layouts.proofs.machine.Greedy.{Grows, ended, boarded, grow-sum, grow-past}

module _ (l : Listing) where
  -- no later board is of a size on which no counts are left
  grows-above : (j : ℕ) {ns ns' : List ℕ} {ts : List Tree} → Grows l ns ts ns' → NonePast l ns → ((i : ℕ) → i < j → on_sum l i ns ≡ 0)
      → Every (λ k. j ≤ k) (map (root_size l) ts)
  unfolding on_plate
  grows-above j (ended e) past none = tt
  grows-above j (boarded {c} {ns} {ns₁} {ns₂} b u e g r s) past none = (
    go (at-most-or-above j (cut_at l c).plate),
    grows-above j s (grow-past l r (grow-past l g (spent-past l (cut_at l c).plate ns c e past)))
        (λ i p. let f = weight (on_plate i) l in omega (arith, none i p, spent-sum l (cut_at l c).plate ns c e f, grow-sum l g f, grow-sum l r f)),
  )
    where
      go : (j ≤ (cut_at l c).plate) ⊎ ((cut_at l c).plate < j) → j ≤ (cut_at l c).plate
      go (inl p) = p
      go (inr p) =
          absurd
          (omega (
            arith,
            none (cut_at l c).plate p,
            spent-sum l (cut_at l c).plate ns c e (weight (on_plate (cut_at l c).plate) l),
            bit-same {a = (cut_at l c).plate} {b = (cut_at l c).plate} refl,
          ))

  -- the sizes of the boards do not fall
  pub grows-rise : {ns ns' : List ℕ} {ts : List Tree} → Grows l ns ts ns' → NonePast l ns → NeverFalls (map (root_size l) ts)
  grows-rise (ended e) past = tt
  grows-rise (boarded {c} {ns} {ns₁} {ns₂} b u e g r s) past =
      let past₂ = grow-past l r (grow-past l g (spent-past l (cut_at l c).plate ns c e past)) in (
        grows-above (cut_at l c).plate s past₂
            (λ i p.
            let f = weight (on_plate i) l in
            omega (arith, not_found l i ns past (u i p), spent-sum l (cut_at l c).plate ns c e f, grow-sum l g f, grow-sum l r f)),
        grows-rise s past₂,
      )

  -- the sizes of the boards of some trees
  pub tree-sizes : (ts : List Tree) → map sheet_size (map (sheet_of l) ts) ≡ map (root_size l) ts
  tree-sizes [] = refl
  tree-sizes (t ∷ ts) = ap (λ (ks : List ℕ). root_size l t ∷ ks) (tree-sizes ts)
