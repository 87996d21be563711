-- Document 01, "Prices": the sum of price times demand is at most D times the cost of a set that meets the demands (request Six).
use Prim.Native.Nat.{ℕ, suc, ◌+◌, ◌*◌, ◌-◌, ◌≤◌, ◌<◌}
use native.Mathlib.Omega.{arith}
use native.Mathlib.Nat.{add-zero, add-suc, suc-add, mul-le-mul_left, lt_of_mul-lt-mul_right}
use mathlib.Core.Path.{◌≡◌, sym, ◌∙◌, ap}
use mathlib.Core.Bool.{true}
use mathlib.Core.List.{List, [], ◌∷◌, map}
use lib.Dec.{eqb}
use lib.ListN.{length, get_or}
use Rattle.job.specs.declared.item.Item.{Item}
use Rattle.job.specs.Lists.{sum_of, occurs, tally}
use Rattle.job.specs.Job.{Job, item_at, type_of, no_item}
use Rattle.job.specs.Admitted.{Sided}
use Rattle.job.proofs.Sums.{bit, tally-length, tally-at}
use Rattle.listing.specs.Listing.{Listing}
use Rattle.listing.specs.Model.{Model}
use Rattle.plan.specs.Plan.{cost_at}
use Rattle.plan.specs.Prices.{Prices, item_price, priced, price_sum, cheapest}
use Rattle.plan.specs.Feasible.{DualFeasible}
use Rattle.plan.proofs.PriceExact.{cheapest-exact}
use Rattle.layouts.specs.Layout.{Sheet}
use Rattle.layouts.specs.Placement.{items_of_set, types_of_set, set_cost}
use Rattle.layouts.proofs.trees.Tree.{Tree}
use Rattle.layouts.proofs.trees.WeightedSums.{wsum}
use Rattle.layouts.proofs.trees.Balance.{Roots, root_size, value_set}
use Rattle.layouts.proofs.trees.TreeItems.{sheet_of, roots-items, types-sum, types-occur}
use Rattle.layouts.proofs.trees.Tally.{tally-le}
use Rattle.layouts.proofs.fold.FoldCounts.{Trees, all_ordered, trees-cost}

priced-le : (g : ℕ → ℕ) (k : ℕ) (items : List Item) (qs ds : List ℕ) → length items ≡ length ds → ((i : ℕ) → i < length items → (get_or items i no_item).demand ≤ get_or ds i 0)
    → ((i : ℕ) → i < length items → get_or qs i 0 ≡ g (k + i)) → priced items qs ≤ wsum g k ds
unfolding priced wsum
priced-le g k [] qs ds e h p = omega arith
priced-le g k (item ∷ items) [] ds e h p = omega arith
priced-le g k (item ∷ items) (q ∷ qs) [] e h p = absurd (omega arith)
priced-le g k (item ∷ items) (q ∷ qs) (d ∷ ds) e h p =
    let s : q ≡ g k = p 0 (omega arith) ∙ ap g (add-zero k) in
    let r : q * item.demand ≤ q * d = mul-le-mul_left q (h 0 (omega arith)) in
    let t : q * d ≡ g k * d = ap (λ (z : ℕ). z * d) s in
    omega (
      arith,
      priced-le g (suc k) items qs ds (omega arith) (λ i u. h (suc i) (omega arith)) (λ i u. rw (suc-add, ← add-suc) (p (suc i) (omega arith))),
    )

-- the sum of price times demand is at most the prices of items that meet the demands
pub price-le : (job : Job) (ps : Prices) (is : List ℕ) → ((i : ℕ) → 1 ≤ i → i ≤ length job.items → (item_at job i).demand ≤ occurs i is) → price_sum job ps ≤ sum_of (item_price ps) is
unfolding price_sum item_at item_price
price-le job ps is meets =
    omega (
      arith,
      priced-le (item_price ps) 1 job.items ps.items (tally n 1 is) (sym (tally-length n 1 is)) met price,
      tally-le (item_price ps) n 1 is,
    )
  where
    n : ℕ
    n = length job.items

    met : (i : ℕ) → i < n → (get_or job.items i no_item).demand ≤ get_or (tally n 1 is) i 0
    met i p =
        let e : 1 + i ≡ suc i = omega arith in
        omega (arith, meets (suc i) (omega arith) (omega arith), tally-at n 1 is i 0 p, ap (λ (z : ℕ). occurs z is) e)

    price : (i : ℕ) → i < n → get_or ps.items i 0 ≡ item_price ps (1 + i)
    price i p = let e : 1 + i ≡ suc i = omega arith in rw e

module _ (job : Job) (l : Listing) (m : Model job l) (sided : Sided job) (ps : Prices) (accepted : DualFeasible job l ps) where
  -- of some boards' trees
  bound-trees : (ts : List Tree) → Roots l ts → ((i : ℕ) → 1 ≤ i → i ≤ length job.items → (item_at job i).demand ≤ occurs i (types_of_set (map (sheet_of l) ts)))
      → price_sum job ps ≤ sum_of (λ t. cost_at job (root_size l t)) ts * ps.denominator
  bound-trees ts h meets =
      omega (arith, price-le job ps (types_of_set (map (sheet_of l) ts)) meets, types-sum (item_price ps) (map (sheet_of l) ts), roots-items (λ q. item_price ps (type_of q)) job l m sided ts h, value_set job l m ps accepted ts h)

  -- of a set of layouts
  module _ (bs : List Sheet) (fold : Trees job l bs) (kept : (f : ℕ → ℕ) → sum_of f (items_of_set (all_ordered job bs)) ≡ sum_of f (items_of_set bs))
      (meets : (i : ℕ) → 1 ≤ i → i ≤ length job.items → (item_at job i).demand ≤ occurs i (types_of_set bs)) where
    -- it costs at least as much as the bound
    pub bound-set : price_sum job ps ≤ set_cost job bs * ps.denominator
    bound-set = rw (trees-cost job l m sided bs fold) at (bound-trees fold.trees fold.roots at_least)
      where
        same : (i : ℕ) → occurs i (types_of_set (map (sheet_of l) fold.trees)) ≡ occurs i (types_of_set bs)
        same i =
            ap (λ (us : List Sheet). occurs i (types_of_set us)) fold.layouts ∙ types-occur i (all_ordered job bs) ∙ kept (λ q. bit (eqb (type_of q) i)) ∙ sym (types-occur i bs)

        at_least : (i : ℕ) → 1 ≤ i → i ≤ length job.items → (item_at job i).demand ≤ occurs i (types_of_set (map (sheet_of l) fold.trees))
        at_least i p q = omega (arith, meets i p q, same i)

    -- "cheapest": no set that meets the demands costs less
    pub cheapest-set : (n : ℕ) → cheapest job ps n ≡ true → n ≤ set_cost job bs
    cheapest-set n h =
        let b : (n - 1) * ps.denominator < set_cost job bs * ps.denominator = omega (arith, bound-set, (cheapest-exact job ps n).0 h) in
        omega (arith, lt_of_mul-lt-mul_right ps.denominator b)
