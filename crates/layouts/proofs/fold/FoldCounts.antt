-- Document 01, "Layouts and folding": the counts of a set of layouts, from the trees of cuts of its boards in folding's order.
use Prim.Native.Nat.{ℕ, suc, ◌≤◌, ◌<◌}
use native.Mathlib.Omega.{arith}
use mathlib.Core.Path.{◌≡◌, refl, sym, ◌∙◌, ap, ap₂}
use mathlib.Core.Logic.{◌≢◌}
use mathlib.Core.Bool.{Bool}
use mathlib.Core.List.{List, [], ◌∷◌, ◌++◌, map}
use lib.Dec.{eqb}
use lib.ListN.{length, get_or-eq_default}
use Rattle.job.specs.Lists.{sum_of, occurs}
use Rattle.job.specs.declared.size.Size.{Size}
use Rattle.job.specs.Job.{Job, item_at, size_at, type_of, max_pieces}
use Rattle.job.specs.Admitted.{Sided}
use Rattle.job.proofs.Sums.{bit, length-sum, sum_of-map, occurs-sum, tally-length}
use Rattle.listing.specs.Plate.{board}
use Rattle.listing.specs.Listing.{Cut, Listing, cut_at}
use Rattle.listing.specs.Model.{Model}
use Rattle.plan.specs.Plan.{count_of, of_item, of_position, on_plate, on_size, leaves_plate, boards, boards_of, cost_at, plan_cost, total}
use Rattle.plan.specs.Feasible.{Feasible, NonePast}
use Rattle.layouts.specs.Layout.{Board, Sheet, sheet, sheet_size}
use Rattle.layouts.specs.Placement.{items_of_set, sheets_of, set_cost, types_of_set}
use Rattle.layouts.specs.Fold.{ordered, board_cuts, set_cuts, folded}
use Rattle.layouts.proofs.trees.Tree.{Tree, leaf, node, fsum, labels}
use Rattle.layouts.proofs.trees.Pattern.{Pattern, branch_of, rest_of, board_of, board_tree}
use Rattle.layouts.proofs.trees.WeightedSums.{wsum, weight, total-wsum, count_of-wsum, weighed-wsum}
use Rattle.layouts.proofs.trees.Balance.{Ok, Root, root_size, Roots, balance-set, boards-set, size-set, cost-set}
use Rattle.layouts.proofs.trees.CutTree.{root-tree}
use Rattle.layouts.proofs.trees.TreeItems.{types-occur, layout_of, sheet_of, roots-items}
use Rattle.layouts.proofs.trees.Tally.{tally-sum, Ranged, ranged-append, all_labels, all-labels-sum}
use Rattle.layouts.proofs.fold.FoldCuts.{root-cuts}

-- a board whose order for folding is the layout of a pattern of its size
pub record InOrder (job : Job) (z : Size) (b : Board) : Type 0 where
  pub pattern : Pattern job (board z) (board_tree (map (ordered job) b))
  pub some-cut : board_tree (map (ordered job) b) ≢ leaf
  pub same : board_of (board_tree (map (ordered job) b)) ≡ map (ordered job) b

-- every board of a set is so
abbrev pub AllInOrder : Job → List Sheet → Type 0
AllInOrder job [] = Unit {0}
AllInOrder job (sheet j b ∷ bs) = ((j < length job.sizes) × InOrder job (size_at job j) b) × AllInOrder job bs

-- the boards of a set in folding's order
abbrev pub ordered_sheet : Job → Sheet → Sheet
ordered_sheet job (sheet j b) = sheet j (map (ordered job) b)

abbrev pub all_ordered : Job → List Sheet → List Sheet
all_ordered job bs = map (ordered_sheet job) bs

-- a tree of cuts for each board of a set: their layouts are the boards in order, their sizes the boards' sizes, their labels the cuts of the set
pub record Trees (job : Job) (l : Listing) (bs : List Sheet) : Type 0 where
  pub trees : List Tree
  pub roots : Roots l trees
  pub layouts : map (sheet_of l) trees ≡ all_ordered job bs
  pub sizes : map (root_size l) trees ≡ map sheet_size bs
  pub number : length trees ≡ length bs
  pub cuts : set_cuts job l bs ≡ all_labels trees

-- the labels of trees of a listing are numbers of cuts
ok-ranged : (l : Listing) (j : ℕ) (t : Tree) → Ok l j t → Ranged (length l.cuts) 1 (labels t)
ok-ranged l j leaf h = tt
ok-ranged l j (node c a b) h = (
  h.1.0,
  omega (arith, h.1),
  ranged-append (length l.cuts) 1 (labels a) (labels b) (ok-ranged l (branch_of l c) a h.3) (ok-ranged l (rest_of l c) b h.4),
)

root-ranged : (l : Listing) (t : Tree) → Root l t → Ranged (length l.cuts) 1 (labels t)
root-ranged l leaf h = absurd h
root-ranged l (node c a b) h = (
  h.0.0,
  omega (arith, h.0),
  ranged-append (length l.cuts) 1 (labels a) (labels b) (ok-ranged l (branch_of l c) a h.2) (ok-ranged l (rest_of l c) b h.3),
)

-- so are the labels of some boards
pub roots-ranged : (l : Listing) (ts : List Tree) → Roots l ts → Ranged (length l.cuts) 1 (all_labels ts)
roots-ranged l [] h = tt
roots-ranged l (t ∷ ts) h =
    ranged-append (length l.cuts) 1 (labels t) (all_labels ts) (root-ranged l t h.0) (roots-ranged l ts h.1)

module _ (job : Job) (l : Listing) (m : Model job l) (sided : Sided job) where
  -- boards in order have trees of cuts
  pub fold-trees : (bs : List Sheet) → AllInOrder job bs → Trees job l bs
  unfolding set_cuts
  fold-trees [] h = record { trees = []; roots = tt; layouts = refl; sizes = refl; number = refl; cuts = refl }
  fold-trees (sheet j b ∷ bs) h =
      let o = h.0.1 in
      let (t, ok, e, k) = root-tree job l m j h.0.0 (board_tree (map (ordered job) b)) o.some-cut o.pattern in
      let rest = fold-trees bs h.1 in
      let f : layout_of l t ≡ map (ordered job) b = ap board_of e ∙ o.same in
      record {
        trees = t ∷ rest.trees;
        roots = (ok, rest.roots);
        layouts = ap₂ (λ (u : Sheet) (us : List Sheet). u ∷ us) (ap₂ sheet k f) rest.layouts;
        sizes = ap₂ (λ (u : ℕ) (us : List ℕ). u ∷ us) k rest.sizes;
        number = ap suc rest.number;
        cuts = ap₂ (λ (ks ms : List ℕ). ks ++ ms) (ap₂ (board_cuts l) (sym k) (sym f) ∙ root-cuts job l m sided t ok) rest.cuts;
      }

  module _ (bs : List Sheet) (fold : Trees job l bs) where
    abbrev ns : List ℕ
    ns = folded job l bs

    abbrev ts : List Tree
    ts = fold.trees

    -- sums over the counts are sums over the trees' cuts
    pub folded-sum : (f : ℕ → ℕ) → wsum f 1 ns ≡ fsum f ts
    unfolding folded
    folded-sum f =
        rw fold.cuts (tally-sum f (length l.cuts) 1 (all_labels ts) (roots-ranged l ts fold.roots) ∙ all-labels-sum f ts)

    -- a count for each cut
    pub folded-length : length ns ≡ length l.cuts
    unfolding folded
    folded-length = tally-length (length l.cuts) 1 (set_cuts job l bs)

    -- no word stands past the last cut
    pub folded-past : NonePast l ns
    folded-past c h = get_or-eq_default ns 0 (omega (arith, folded-length))

    folded-count : (test : Cut → Bool) → count_of test l.cuts ns ≡ fsum (weight test l) ts
    folded-count test = count_of-wsum test l ns folded-past ∙ folded-sum (weight test l)

    -- the boards that the counts open are the set's boards
    pub folded-boards : boards l ns ≡ length bs
    unfolding boards
    folded-boards = folded-count (on_size l.sizes) ∙ boards-set job l m ts fold.roots ∙ fold.number

    -- those of each size are the set's of that size
    pub folded-each : (j : ℕ) → j < length job.sizes → boards_of l j ns ≡ sheets_of j bs
    unfolding boards_of sheets_of
    folded-each j p =
        folded-count (on_plate j)
        ∙ size-set job l m j (omega (arith, m.sized)) ts fold.roots
        ∙ sym (sum_of-map (λ k. bit (eqb k j)) (root_size l) ts)
        ∙ ap (sum_of (λ k. bit (eqb k j))) fold.sizes
        ∙ sym (occurs-sum j (map sheet_size bs))

    -- the trees' sizes cost what the set's boards cost, ..
    pub trees-cost : sum_of (λ t. cost_at job (root_size l t)) ts ≡ set_cost job bs
    unfolding set_cost
    trees-cost =
        sym (sum_of-map (cost_at job) (root_size l) ts) ∙ ap (sum_of (cost_at job)) fold.sizes ∙ sum_of-map (cost_at job) sheet_size bs

    -- .. and so do the boards that the counts open
    pub folded-cost : plan_cost job l ns ≡ set_cost job bs
    unfolding plan_cost
    folded-cost =
        weighed-wsum (λ c. cost_at job c.plate) l ns folded-past
        ∙ folded-sum (λ c. cost_at job (cut_at l c).plate)
        ∙ cost-set job l m ts fold.roots
        ∙ trees-cost

    -- no residual type is cut more often than it arises
    pub folded-balance : (j : ℕ) → l.sizes ≤ j → count_of (on_plate j) l.cuts ns ≤ count_of (leaves_plate j) l.cuts ns
    folded-balance j h =
        omega (arith, folded-count (on_plate j), folded-count (leaves_plate j), balance-set job l m j h ts fold.roots)

    -- sums over the items that the counts cut are sums over the items of the set in order
    pub folded-items : (f : ℕ → ℕ) → wsum (λ c. f (cut_at l c).item) 1 ns ≡ sum_of f (items_of_set (all_ordered job bs))
    folded-items f =
        folded-sum (λ c. f (cut_at l c).item) ∙ sym (roots-items f job l m sided ts fold.roots) ∙ ap (λ (us : List Sheet). sum_of f (items_of_set us)) fold.layouts

    -- Where ordering keeps the items: each type is cut as often as it lies in the set, and the counts come to the number of items.
    module _ (kept : (f : ℕ → ℕ) → sum_of f (items_of_set (all_ordered job bs)) ≡ sum_of f (items_of_set bs)) where
      pub folded-types : (i : ℕ) → count_of (of_item i) l.cuts ns ≡ occurs i (types_of_set bs)
      unfolding of_item
      folded-types i =
          count_of-wsum (of_item i) l ns folded-past ∙ folded-items (λ q. bit (eqb (type_of q) i)) ∙ kept (λ q. bit (eqb (type_of q) i)) ∙ sym (types-occur i bs)

      -- and so for each type in each turn
      pub folded_turns : (q : ℕ) → count_of (of_position q) l.cuts ns ≡ occurs q (items_of_set bs)
      unfolding of_position
      folded_turns q =
          count_of-wsum (of_position q) l ns folded-past ∙ folded-items (λ k. bit (eqb k q)) ∙ kept (λ k. bit (eqb k q)) ∙ sym (occurs-sum q (items_of_set bs))

      pub folded-total : total ns ≡ length (items_of_set bs)
      folded-total = total-wsum 1 ns ∙ folded-items (λ _. 1) ∙ kept (λ _. 1) ∙ length-sum (items_of_set bs)

      -- the counts of a set that meets the demands within 4,000 pieces are an accepted plan
      pub folded-accepted : ((i : ℕ) → 1 ≤ i → i ≤ length job.items → (item_at job i).demand ≤ occurs i (types_of_set bs)) → length (items_of_set bs) ≤ max_pieces → Feasible job l ns
      folded-accepted meets few =
          record {
            few = omega (arith, folded-total);
            met = λ i p q. omega (arith, meets i p q, folded-types i);
            covered = λ j p q. folded-balance j p;
          }
