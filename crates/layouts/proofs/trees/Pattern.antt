-- Cut patterns: trees of positions, each permitted on the plate that it is cut from; the layout of a pattern, and the pattern of a layout.
use Prim.Native.Nat.{ℕ}
use mathlib.Core.Bool.{cond}
use mathlib.Core.List.{[], ◌∷◌}
use lib.Dec.{eqb}
use Rattle.job.specs.Job.{Job, position_at}
use Rattle.listing.specs.declared.plate.Plate.{Plate}
use Rattle.listing.specs.Plate.{leaves}
use Rattle.listing.specs.Listing.{Listing, plate_at, cut_at}
use Rattle.listing.proofs.Kept.{CutFrom}
use Rattle.layouts.specs.Layout.{Stack, Strip, Board}
use Rattle.layouts.proofs.trees.Tree.{Tree, leaf, node}

-- the residual of the next stage, and that of the plate's own stage
abbrev pub branch : Job → Plate → ℕ → Plate
branch job p i =
    let r = leaves job.mode job.blade (position_at job i) p in cond (eqb p.stage 2) r.top r.right

abbrev pub rest : Job → Plate → ℕ → Plate
rest job p i =
    let r = leaves job.mode job.blade (position_at job i) p in cond (eqb p.stage 2) r.right r.top

-- a tree of positions that can be cut from the plate
abbrev pub Pattern : Job → Plate → Tree → Type 0
Pattern job p leaf = Unit {0}
Pattern job p (node i a b) = CutFrom job p i × Pattern job (branch job p i) a × Pattern job (rest job p i) b

-- the numbers of these residuals in a listing; cut c, from 1
abbrev pub branch_of : Listing → ℕ → ℕ
branch_of l c =
    cond (eqb (plate_at l (cut_at l c).plate).stage 2) (cut_at l c).top (cut_at l c).right

abbrev pub rest_of : Listing → ℕ → ℕ
rest_of l c =
    cond (eqb (plate_at l (cut_at l c).plate).stage 2) (cut_at l c).right (cut_at l c).top

-- the layout of a pattern: of a stage 3 plate the items above, of a stage 2 plate the stacks beside, of a stage 1 plate the strips
abbrev pub stack_of : Tree → Stack
stack_of leaf = []
stack_of (node i a b) = i ∷ stack_of b

abbrev pub strip_of : Tree → Strip
strip_of leaf = []
strip_of (node i a b) = (i ∷ stack_of a) ∷ strip_of b

abbrev pub board_of : Tree → Board
board_of leaf = []
board_of (node i a b) = ((i ∷ []) ∷ strip_of a) ∷ board_of b

-- the pattern of a layout that is in folding's order; where the layout has not that form the tree is cut short
abbrev pub stack_tree : Stack → Tree
stack_tree [] = leaf
stack_tree (i ∷ is) = node i leaf (stack_tree is)

abbrev pub strip_tree : Strip → Tree
strip_tree [] = leaf
strip_tree ([] ∷ ss) = leaf
strip_tree ((i ∷ is) ∷ ss) = node i (stack_tree is) (strip_tree ss)

abbrev pub board_tree : Board → Tree
board_tree [] = leaf
board_tree ([] ∷ ss) = leaf
board_tree (([] ∷ ks) ∷ ss) = leaf
board_tree (((i ∷ is) ∷ ks) ∷ ss) = node i (strip_tree ks) (board_tree ss)
