-- Trees of cuts: what can be cut from a residual type or from a board; their balance, their boards, and what their items cost.
use Prim.Native.Nat.{ℕ, zero, suc, ◌+◌, ◌*◌, ◌≤◌, ◌<◌}
use native.Mathlib.Omega.{arith}
use native.Mathlib.Nat.{add-mul, mul_comm}
use mathlib.Core.Path.{◌≡◌, refl, ◌∙◌, ap}
use mathlib.Core.Bool.{Bool, true, false, cond}
use mathlib.Core.List.{List, [], ◌∷◌}
use lib.Dec.{ltb, eqb}
use lib.ListN.{length, get_or-eq_default}
use borrow.Author.Tests.{lt-ltb, le-ltb}
use Rattle.job.specs.Lists.{sum_of}
use Rattle.job.specs.declared.size.Size.{Size}
use Rattle.job.specs.Job.{Job, no_size, size_at, type_of}
use Rattle.job.proofs.Sums.{bit, bit-diff}
use Rattle.listing.specs.Listing.{Listing, plate_at, cut_at}
use Rattle.listing.specs.Model.{Model}
use Rattle.plan.specs.Plan.{on_plate, on_size, leaves_plate, cost_at}
use Rattle.plan.specs.Prices.{Prices, item_price, residual_price, worth}
use Rattle.plan.specs.Feasible.{DualFeasible}
use Rattle.layouts.proofs.trees.WeightedSums.{weight}
use Rattle.layouts.proofs.trees.Tree.{Tree, leaf, node, tsum, fsum}
use Rattle.layouts.proofs.trees.Pattern.{branch_of, rest_of}
use Rattle.layouts.proofs.trees.Cuts.{IsCut, leaves-once, branch-above, rest-above}

-- the tree is cut from residual type j; from 0, a residual that is not kept, nothing is
abbrev pub Ok : Listing → ℕ → Tree → Type 0
Ok l j leaf = Unit {0}
Ok l j (node c a b) = (0 < j) × IsCut l c × ((cut_at l c).plate ≡ j) × Ok l (branch_of l c) a × Ok l (rest_of l c) b

-- the tree is cut from a board, from which at least one item is
abbrev pub Root : Listing → Tree → Type 0
Root l leaf = ⊥
Root l (node c a b) = IsCut l c × ((cut_at l c).plate < l.sizes) × Ok l (branch_of l c) a × Ok l (rest_of l c) b

-- the size of the board that a tree is cut from
abbrev pub root_size : Listing → Tree → ℕ
root_size l leaf = 0
root_size l (node c a b) = (cut_at l c).plate

-- each of some trees is cut from a board
abbrev pub Roots : Listing → List Tree → Type 0
Roots l [] = Unit {0}
Roots l (t ∷ ts) = Root l t × Roots l ts

pub root_below : (l : Listing) (t : Tree) → Root l t → root_size l t < l.sizes
root_below l leaf h = absurd h
root_below l (node c a b) h = h.1

-- from a residual that is not kept nothing is cut
pub ok-none : (l : Listing) (j : ℕ) (t : Tree) → Ok l j t → j ≡ 0 → t ≡ leaf
ok-none l j leaf h e = refl
ok-none l j (node c a b) h e = absurd (omega (arith, h.0))

module _ (job : Job) (l : Listing) (m : Model job l) where
  -- on a residual type a tree has at most as many cuts as pieces: those that its cuts leave, and the piece itself
  balance : (k : ℕ) → 0 < k → (j : ℕ) (t : Tree) → Ok l j t → tsum (weight (on_plate k) l) t ≤ tsum (weight (leaves_plate k) l) t + bit (eqb j k)
  unfolding on_plate
  balance k p j leaf h = omega arith
  balance k p j (node c a b) h =
      let e : bit (eqb (cut_at l c).plate k) ≡ bit (eqb j k) = ap (λ (z : ℕ). bit (eqb z k)) h.2 in
      omega (arith, e, leaves-once job l m k p c h.1, balance k p (branch_of l c) a h.3, balance k p (rest_of l c) b h.4)

  -- What weighs only on sizes, g of a plate type's number: in a board's tree the first cut alone.
  module _ (g : ℕ → ℕ) (none : (j : ℕ) → l.sizes ≤ j → g j ≡ 0) where
    off-board : (j : ℕ) (t : Tree) → Ok l j t → (0 < j → l.sizes ≤ j) → tsum (λ c. g (cut_at l c).plate) t ≡ 0
    off-board j leaf h above = refl
    off-board j (node c a b) h above =
        omega (
          arith,
          ap g h.2,
          none j (above h.0),
          off-board (branch_of l c) a h.3 (branch-above job l m c h.1),
          off-board (rest_of l c) b h.4 (rest-above job l m c h.1),
        )

    root-sum : (t : Tree) → Root l t → tsum (λ c. g (cut_at l c).plate) t ≡ g (root_size l t)
    root-sum leaf h = absurd h
    root-sum (node c a b) h =
        omega (arith, off-board (branch_of l c) a h.2 (branch-above job l m c h.0), off-board (rest_of l c) b h.3 (rest-above job l m c h.0))

    -- of any boards the sum over their cuts is the sum over their sizes
    pub sizes-set : (ts : List Tree) → Roots l ts → fsum (λ c. g (cut_at l c).plate) ts ≡ sum_of (λ t. g (root_size l t)) ts
    unfolding sum_of
    sizes-set [] h = refl
    sizes-set (t ∷ ts) h = omega (arith, root-sum t h.0, sizes-set ts h.1)

  balance-root : (k : ℕ) → 0 < k → l.sizes ≤ k → (t : Tree) → Root l t → tsum (weight (on_plate k) l) t ≤ tsum (weight (leaves_plate k) l) t
  unfolding on_plate
  balance-root k p r leaf h = absurd h
  balance-root k p r (node c a b) h =
      let e : bit (eqb (cut_at l c).plate k) ≡ 0 = bit-diff (λ (q : (cut_at l c).plate ≡ k). omega (arith, h.1)) in
      omega (arith, e, leaves-once job l m k p c h.0, balance k p (branch_of l c) a h.2, balance k p (rest_of l c) b h.3)

  -- of any boards no residual type is cut more often than it arises
  pub balance-set : (k : ℕ) → l.sizes ≤ k → (ts : List Tree) → Roots l ts → fsum (weight (on_plate k) l) ts ≤ fsum (weight (leaves_plate k) l) ts
  unfolding sum_of
  balance-set k p [] h = omega arith
  balance-set k p (t ∷ ts) h =
      omega (arith, balance-root k (omega (arith, m.some_size, m.sized)) p t h.0, balance-set k p ts h.1)

  -- of any boards the cuts on sizes are as many as the boards, ..
  pub boards-set : (ts : List Tree) → Roots l ts → fsum (weight (on_size l.sizes) l) ts ≡ length ts
  unfolding on_size sum_of
  boards-set ts h = sizes-set (λ j. bit (ltb j l.sizes)) (λ j p. ap bit (le-ltb j l.sizes p)) ts h ∙ each ts h
    where
      each : (us : List Tree) → Roots l us → sum_of (λ t. bit (ltb (root_size l t) l.sizes)) us ≡ length us
      each [] q = refl
      each (leaf ∷ us) q = absurd q.0
      each (node c a b ∷ us) q = omega (arith, ap bit (lt-ltb (cut_at l c).plate l.sizes q.0.1), each us q.1)

  -- .. the cuts on one size as many as the boards of that size, ..
  pub size-set : (j : ℕ) → j < l.sizes → (ts : List Tree) → Roots l ts → fsum (weight (on_plate j) l) ts ≡ sum_of (λ t. bit (eqb (root_size l t) j)) ts
  unfolding on_plate
  size-set j p ts h = sizes-set (λ k. bit (eqb k j)) (λ k q. bit-diff (λ (e : k ≡ j). omega arith)) ts h

  -- .. and their cost is that of the boards
  pub cost-set : (ts : List Tree) → Roots l ts → fsum (λ c. cost_at job (cut_at l c).plate) ts ≡ sum_of (λ t. cost_at job (root_size l t)) ts
  unfolding cost_at size_at
  cost-set ts h = sizes-set (cost_at job) no-cost ts h
    where
      no-cost : (j : ℕ) → l.sizes ≤ j → cost_at job j ≡ 0
      no-cost j p = ap (λ (z : Size). z.cost) (get_or-eq_default job.sizes no_size (omega (arith, m.sized)))

-- the price of a cut's item, which is its type's
abbrev pub item_cost : Listing → Prices → ℕ → ℕ
item_cost l ps c = item_price ps (type_of (cut_at l c).item)

-- Weak duality: what the items of some boards cost, with accepted prices.
module _ (job : Job) (l : Listing) (m : Model job l) (ps : Prices) (priced : DualFeasible job l ps) where
  by-stage : (c : ℕ) → residual_price job ps (branch_of l c) + residual_price job ps (rest_of l c) ≡ residual_price job ps (cut_at l c).top + residual_price job ps (cut_at l c).right
  by-stage c = go (eqb (plate_at l (cut_at l c).plate).stage 2)
    where
      go : (t : Bool) → residual_price job ps (cond t (cut_at l c).top (cut_at l c).right) + residual_price job ps (cond t (cut_at l c).right (cut_at l c).top)
          ≡ residual_price job ps (cut_at l c).top + residual_price job ps (cut_at l c).right
      go true = refl
      go false = omega arith

  cost-residual : (c j : ℕ) → IsCut l c → (cut_at l c).plate ≡ j → l.sizes ≤ j → worth job ps (cut_at l c) ≤ residual_price job ps j
  cost-residual zero j p e h = absurd (omega arith)
  cost-residual (suc c) j p e h = rw (← e) (priced.on-residual c (omega arith) (omega (arith, m.sized)))

  cost-size : (c : ℕ) → IsCut l c → (cut_at l c).plate < l.sizes → worth job ps (cut_at l c) ≤ ps.denominator * cost_at job (cut_at l c).plate
  cost-size zero p e = absurd (omega arith)
  cost-size (suc c) p e = priced.on-size c (omega arith) (omega (arith, m.sized))

  -- the items of a residual's tree cost at most the price of the residual type
  value : (j : ℕ) (t : Tree) → Ok l j t → (0 < j → l.sizes ≤ j) → tsum (item_cost l ps) t ≤ residual_price job ps j
  unfolding worth
  value j leaf h above = omega arith
  value j (node c a b) h above =
      omega (
        arith,
        cost-residual c j h.1 h.2 (above h.0),
        by-stage c,
        value (branch_of l c) a h.3 (branch-above job l m c h.1),
        value (rest_of l c) b h.4 (rest-above job l m c h.1),
      )

  value-root : (t : Tree) → Root l t → tsum (item_cost l ps) t ≤ ps.denominator * cost_at job (root_size l t)
  unfolding worth
  value-root leaf h = absurd h
  value-root (node c a b) h =
      omega (
        arith,
        cost-size c h.0 h.1,
        by-stage c,
        value (branch_of l c) a h.2 (branch-above job l m c h.0),
        value (rest_of l c) b h.3 (rest-above job l m c h.0),
      )

  -- the items of some boards cost at most D times the cost of each board
  pub value_set : (ts : List Tree) → Roots l ts → fsum (item_cost l ps) ts ≤ sum_of (λ t. cost_at job (root_size l t)) ts * ps.denominator
  unfolding sum_of
  value_set [] h = omega arith
  value_set (t ∷ ts) h =
      let d : ℕ = ps.denominator in
      let k : ℕ = cost_at job (root_size l t) in
      let n : ℕ = sum_of (λ u. cost_at job (root_size l u)) ts in
      omega (arith, value-root t h.0, value_set ts h.1, add-mul k n d, mul_comm k d)
