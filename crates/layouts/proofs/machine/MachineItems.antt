-- The items that the machine places are those of the layouts of its trees.
use Prim.Native.Nat.{ℕ, suc, ◌+◌}
use native.Mathlib.Omega.{arith}
use mathlib.Core.Path.{◌≡◌, refl}
use mathlib.Core.List.{List, [], ◌∷◌, map, flat_map}
use Rattle.job.specs.Lists.{sum_of}
use Rattle.job.specs.Job.{Job}
use Rattle.job.proofs.Sums.{sum_of-append}
use Rattle.listing.specs.Listing.{Listing}
use Rattle.layouts.specs.Layout.{Stack, width_of, height_of}
use Rattle.layouts.specs.Placement.{Opened, opened, Placement, stack_lines, items_of_strip, items_of_board, items_of_set}
use Rattle.layouts.proofs.trees.Tree.{Tree, leaf, node}
use Rattle.layouts.proofs.trees.Pattern.{stack_of, strip_of, board_of}
use Rattle.layouts.proofs.trees.Balance.{root_size}
use Rattle.layouts.proofs.trees.CutTree.{item_tree}
use Rattle.layouts.proofs.trees.TreeItems.{layout_of, sheet_of, strip-sum, board-sum, set_sum}
use Rattle.layouts.proofs.machine.Machine.{emit_strip, emit_board, emit_set}

module _ (f : ℕ → ℕ) where
  -- the sum of f over the items of some placements
  abbrev pub placed_sum : List Placement → ℕ
  placed_sum ps = sum_of (λ p. f p.item) ps

  module _ (job : Job) where
    stack-items : (bd : Opened) (s k p x y : ℕ) (is : Stack) → placed_sum (stack_lines job bd s k p x y is) ≡ sum_of f is
    unfolding sum_of stack_lines
    stack-items bd s k p x y [] = refl
    stack-items bd s k p x y (i ∷ is) = omega (arith, stack-items bd s k (suc p) x (y + height_of job i + job.blade) is)

    strip-items : (bd : Opened) (s k x y : ℕ) (t : Tree) → placed_sum (emit_strip job bd s k x y t) ≡ sum_of f (items_of_strip (strip_of t))
    unfolding sum_of items_of_strip flat_map
    strip-items bd s k x y leaf = refl
    strip-items bd s k x y (node i a b) =
        omega (
          arith,
          sum_of-append (λ p. f p.item) (stack_lines job bd s k 1 x y (i ∷ stack_of a)) (emit_strip job bd s (suc k) (x + width_of job i + job.blade) y b),
          stack-items bd s k 1 x y (i ∷ stack_of a),
          strip-sum f (i ∷ stack_of a) (strip_of b),
          strip-items bd s (suc k) (x + width_of job i + job.blade) y b,
        )

    board-items : (bd : Opened) (s y : ℕ) (t : Tree) → placed_sum (emit_board job bd s y t) ≡ sum_of f (items_of_board (board_of t))
    unfolding sum_of items_of_board flat_map
    board-items bd s y leaf = refl
    board-items bd s y (node i a b) =
        omega (
          arith,
          sum_of-append (λ p. f p.item) (emit_strip job bd s 2 (0 + width_of job i + job.blade) y a) (emit_board job bd (suc s) (y + height_of job i + job.blade) b),
          board-sum f ((i ∷ []) ∷ strip_of a) (board_of b),
          strip-sum f (i ∷ []) (strip_of a),
          strip-items bd s 2 (0 + width_of job i + job.blade) y a,
          board-items bd (suc s) (y + height_of job i + job.blade) b,
        )

    -- the items of the placements are those of the layouts
    pub placed-items : (l : Listing) (bd : ℕ) (ts : List Tree) → placed_sum (emit_set job l bd ts) ≡ sum_of f (items_of_set (map (sheet_of l) ts))
    unfolding sum_of items_of_set flat_map
    placed-items l bd [] = refl
    placed-items l bd (t ∷ ts) =
        omega (
          arith,
          sum_of-append (λ p. f p.item) (emit_board job (opened bd (root_size l t)) 1 0 (item_tree l t)) (emit_set job l (suc bd) ts),
          set_sum f (root_size l t) (layout_of l t) (map (sheet_of l) ts),
          board-items (opened bd (root_size l t)) 1 0 (item_tree l t),
          placed-items l (suc bd) ts,
        )
