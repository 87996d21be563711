-- The items of the layouts of trees of cuts: of each type as many as the trees have cuts of it.
use Prim.Native.Nat.{ℕ, ◌+◌, ◌<◌}
use native.Mathlib.Omega.{arith}
use mathlib.Core.Path.{◌≡◌, refl, ap, ◌∙◌}
use mathlib.Core.List.{List, [], ◌∷◌, map, flat_map}
use lib.Dec.{eqb}
use Rattle.job.specs.Lists.{sum_of, occurs}
use Rattle.job.specs.Job.{Job, type_of}
use Rattle.job.specs.Admitted.{Sided}
use Rattle.job.proofs.Sums.{sum_of-append, sum_of-map, bit, occurs-sum}
use Rattle.listing.specs.Listing.{Listing, plate_at, cut_at}
use Rattle.listing.specs.Model.{Model}
use Rattle.layouts.specs.Layout.{Stack, Strip, Board, Sheet, sheet}
use Rattle.layouts.specs.Placement.{items_of_strip, items_of_board, items_of_set, types_of_set}
use Rattle.layouts.proofs.trees.Tree.{Tree, leaf, node, tsum, fsum}
use Rattle.layouts.proofs.trees.Pattern.{branch_of, rest_of, stack_of, strip_of, board_of}
use Rattle.layouts.proofs.trees.Cuts.{IsCut, plate_of}
use Rattle.layouts.proofs.trees.Stages.{cut-stage, board-stage, branch-stage-1, rest-stage-1, branch-stage-2, rest-stage-2, branch-stage-3, rest-stage-3}
use Rattle.layouts.proofs.trees.Balance.{Ok, Root, root_size, Roots, ok-none}
use Rattle.layouts.proofs.trees.CutTree.{item_tree}

-- the layout of a tree of cuts
abbrev pub layout_of : Listing → Tree → Board
layout_of l t = board_of (item_tree l t)

-- .. with the size of its board
abbrev pub sheet_of : Listing → Tree → Sheet
sheet_of l t = sheet (root_size l t) (layout_of l t)

-- sums over the types of a set, in whichever turn they lie
pub types-sum : (f : ℕ → ℕ) (bs : List Sheet) → sum_of f (types_of_set bs) ≡ sum_of (λ q. f (type_of q)) (items_of_set bs)
unfolding types_of_set
types-sum f bs = sum_of-map f type_of (items_of_set bs)

pub types-occur : (i : ℕ) (bs : List Sheet) → occurs i (types_of_set bs) ≡ sum_of (λ q. bit (eqb (type_of q) i)) (items_of_set bs)
types-occur i bs = occurs-sum i (types_of_set bs) ∙ types-sum (λ k. bit (eqb k i)) bs

module _ (f : ℕ → ℕ) where
  -- sums over the items of a strip, of a board, of a set, part by part
  pub strip-sum : (s : Stack) (ss : Strip) → sum_of f (items_of_strip (s ∷ ss)) ≡ sum_of f s + sum_of f (items_of_strip ss)
  unfolding items_of_strip flat_map
  strip-sum s ss = sum_of-append f s (items_of_strip ss)

  pub board-sum : (s : Strip) (ss : Board) → sum_of f (items_of_board (s ∷ ss)) ≡ sum_of f (items_of_strip s) + sum_of f (items_of_board ss)
  unfolding items_of_board flat_map
  board-sum s ss = sum_of-append f (items_of_strip s) (items_of_board ss)

  pub set_sum : (z : ℕ) (b : Board) (bs : List Sheet) → sum_of f (items_of_set (sheet z b ∷ bs)) ≡ sum_of f (items_of_board b) + sum_of f (items_of_set bs)
  unfolding items_of_set flat_map
  set_sum z b bs = sum_of-append f (items_of_board b) (items_of_set bs)

  module _ (job : Job) (l : Listing) (m : Model job l) (sided : Sided job) where
    -- f of a cut's item
    abbrev of_cut : ℕ → ℕ
    of_cut c = f (cut_at l c).item

    items-3 : (j : ℕ) (t : Tree) → Ok l j t → (0 < j → (plate_at l j).stage ≡ 3) → sum_of f (stack_of (item_tree l t)) ≡ tsum of_cut t
    unfolding sum_of
    items-3 j leaf h s = refl
    items-3 j (node c a b) h s =
        let e : (plate_of l c).stage ≡ 3 = cut-stage l c j 3 h.2 (s h.0) in
        omega (
          arith,
          ap (tsum of_cut) (ok-none l (branch_of l c) a h.3 (branch-stage-3 job l m sided c h.1 e)),
          items-3 (rest_of l c) b h.4 (rest-stage-3 job l m sided c h.1 e),
        )

    items-2 : (j : ℕ) (t : Tree) → Ok l j t → (0 < j → (plate_at l j).stage ≡ 2) → sum_of f (items_of_strip (strip_of (item_tree l t))) ≡ tsum of_cut t
    unfolding sum_of items_of_strip flat_map
    items-2 j leaf h s = refl
    items-2 j (node c a b) h s =
        let e : (plate_of l c).stage ≡ 2 = cut-stage l c j 2 h.2 (s h.0) in
        omega (
          arith,
          strip-sum ((cut_at l c).item ∷ stack_of (item_tree l a)) (strip_of (item_tree l b)),
          items-3 (branch_of l c) a h.3 (branch-stage-2 job l m sided c h.1 e),
          items-2 (rest_of l c) b h.4 (rest-stage-2 job l m sided c h.1 e),
        )

    -- the items of a stage 1 cut, and of what it leaves
    items-node : (c : ℕ) (a b : Tree) → IsCut l c → (plate_of l c).stage ≡ 1 → Ok l (branch_of l c) a → sum_of f (items_of_board (layout_of l b)) ≡ tsum of_cut b
        → sum_of f (items_of_board (layout_of l (node c a b))) ≡ tsum of_cut (node c a b)
    unfolding sum_of
    items-node c a b i e h rec =
        omega (
          arith,
          board-sum (((cut_at l c).item ∷ []) ∷ strip_of (item_tree l a)) (layout_of l b),
          strip-sum ((cut_at l c).item ∷ []) (strip_of (item_tree l a)),
          items-2 (branch_of l c) a h (branch-stage-1 job l m sided c i e),
          rec,
        )

    items-1 : (j : ℕ) (t : Tree) → Ok l j t → (0 < j → (plate_at l j).stage ≡ 1) → sum_of f (items_of_board (layout_of l t)) ≡ tsum of_cut t
    unfolding sum_of items_of_board flat_map
    items-1 j leaf h s = refl
    items-1 j (node c a b) h s =
        let e : (plate_of l c).stage ≡ 1 = cut-stage l c j 1 h.2 (s h.0) in
        items-node c a b h.1 e h.3 (items-1 (rest_of l c) b h.4 (rest-stage-1 job l m sided c h.1 e))

    -- the items of a board's layout are those of its cuts
    pub root-items : (t : Tree) → Root l t → sum_of f (items_of_board (layout_of l t)) ≡ tsum of_cut t
    root-items leaf h = absurd h
    root-items (node c a b) h =
        let e : (plate_of l c).stage ≡ 1 = board-stage job l m c h.1 in
        items-node c a b h.0 e h.2 (items-1 (rest_of l c) b h.3 (rest-stage-1 job l m sided c h.0 e))

    -- the items of the layouts of some boards are those of their cuts
    pub roots-items : (ts : List Tree) → Roots l ts → sum_of f (items_of_set (map (sheet_of l) ts)) ≡ fsum of_cut ts
    unfolding sum_of items_of_set flat_map
    roots-items [] h = refl
    roots-items (t ∷ ts) h = omega (arith, set_sum (root_size l t) (layout_of l t) (map (sheet_of l) ts), root-items t h.0, roots-items ts h.1)
