-- The items that the machine places are the lines of the boards' layouts, given that a pattern's stack is as wide and its strip as high as its
-- first item.
use Prim.Native.Nat.{ℕ, suc, ◌+◌}
use mathlib.Core.Path.{◌≡◌, refl, sym, ◌∙◌, ap, ap₂}
use mathlib.Core.List.{List, [], ◌∷◌, ◌++◌, map}
use lib.Dec.{eqb}
use Rattle.job.specs.Job.{Job, size_at, position_at}
use Rattle.listing.specs.declared.plate.Plate.{Plate}
use Rattle.listing.specs.Plate.{board}
use Rattle.listing.specs.Listing.{Listing}
use Rattle.listing.specs.Model.{Model}
use Rattle.listing.proofs.Residuals.{stages-1, stages-2}
use Rattle.layouts.specs.Layout.{width_of, height_of, stack_width, strip_height}
use Rattle.layouts.specs.Placement.{Opened, opened, turn, Placement, stack_lines, strip_lines, board_lines, set_lines, lines_of}
use Rattle.layouts.proofs.trees.Tree.{Tree, leaf, node}
use Rattle.layouts.proofs.trees.Pattern.{branch, rest, Pattern, stack_of, strip_of, board_of}
use Rattle.layouts.proofs.trees.Balance.{Roots, root_size}
use Rattle.layouts.proofs.trees.CutTree.{item_tree, root-pattern}
use Rattle.layouts.proofs.trees.TreeItems.{sheet_of}
use Rattle.layouts.proofs.patterns.PatternRules.{single-wide}
use Rattle.layouts.proofs.machine.MachineSteps.{placement}
use Rattle.layouts.proofs.machine.Machine.{emit_strip, emit_board, emit_set}

-- the first item of a pattern's stack is its widest, the first item of a pattern's strip its highest stack
pub record FirstLargest (job : Job) : Type 0 where
  pub wide : (p : Plate) → p.stage ≡ 2 → (i : ℕ) (a b : Tree) → Pattern job p (node i a b) → stack_width job (i ∷ stack_of a) ≡ width_of job i
  pub high : (p : Plate) → p.stage ≡ 1 → (i : ℕ) (a b : Tree) → Pattern job p (node i a b) → strip_height job ((i ∷ []) ∷ strip_of a) ≡ height_of job i

-- the stages of what is cut beside the first item of a strip, of the strips above it, and of the stacks beside the first of a stack
beside-stage : (job : Job) (p : Plate) (i : ℕ) → p.stage ≡ 1 → (branch job p i).stage ≡ 2
beside-stage job p i e = rw (ap (λ (z : ℕ). eqb z 2) e) (stages-1 job.mode job.blade (position_at job i) p e).1

above-stage : (job : Job) (p : Plate) (i : ℕ) → p.stage ≡ 1 → (rest job p i).stage ≡ 1
above-stage job p i e = rw (ap (λ (z : ℕ). eqb z 2) e) (stages-1 job.mode job.blade (position_at job i) p e).0

along-stage : (job : Job) (p : Plate) (i : ℕ) → p.stage ≡ 2 → (rest job p i).stage ≡ 2
along-stage job p i e = rw (ap (λ (z : ℕ). eqb z 2) e) (stages-2 job.mode job.blade (position_at job i) p e).1

module _ (job : Job) (first : FirstLargest job) where
  strip-lines : (p : Plate) → p.stage ≡ 2 → (t : Tree) → Pattern job p t → (bd : Opened) (s k x y : ℕ) → emit_strip job bd s k x y t ≡ strip_lines job bd s k x y (strip_of t)
  unfolding strip_lines
  strip-lines p e leaf h bd s k x y = refl
  strip-lines p e (node i a b) h bd s k x y =
      ap (λ (ps : List Placement). stack_lines job bd s k 1 x y (i ∷ stack_of a) ++ ps)
      (strip-lines (rest job p i) (along-stage job p i e) b h.2 bd s (suc k) (x + width_of job i + job.blade) y
      ∙ ap (λ (w : ℕ). strip_lines job bd s (suc k) (x + w + job.blade) y (strip_of b)) (sym (first.wide p e i a b h)))

  board-lines : (p : Plate) → p.stage ≡ 1 → (t : Tree) → Pattern job p t → (bd : Opened) (s y : ℕ) → emit_board job bd s y t ≡ board_lines job bd s y (board_of t)
  unfolding board_lines strip_lines stack_lines
  board-lines p e leaf h bd s y = refl
  board-lines p e (node i a b) h bd s y =
      ap₂ (λ (ps qs : List Placement). placement (turn bd s 1 1) i 0 y ∷ (ps ++ qs))
      (strip-lines (branch job p i) (beside-stage job p i e) a h.1 bd s 2 (0 + width_of job i + job.blade) y
      ∙ ap (λ (w : ℕ). strip_lines job bd s 2 (0 + w + job.blade) y (strip_of a)) (sym (single-wide job i)))
      (board-lines (rest job p i) (above-stage job p i e) b h.2 bd (suc s) (y + height_of job i + job.blade)
      ∙ ap (λ (z : ℕ). board_lines job bd (suc s) (y + z + job.blade) (board_of b)) (sym (first.high p e i a b h)))

  module _ (l : Listing) (m : Model job l) where
    set_lines_lem : (ts : List Tree) → Roots l ts → (bd : ℕ) → emit_set job l bd ts ≡ set_lines job bd (map (sheet_of l) ts)
    unfolding set_lines
    set_lines_lem [] h bd = refl
    set_lines_lem (t ∷ ts) h bd =
        ap₂ (λ (ps qs : List Placement). ps ++ qs)
        (board-lines (board (size_at job (root_size l t))) refl (item_tree l t) (root-pattern job l m t h.0).0 (opened bd (root_size l t)) 1 0) (set_lines_lem ts h.1 (suc bd))

    -- the items of the boards' trees are the lines of their layouts
    pub emitted-lines : (ts : List Tree) → Roots l ts → emit_set job l 1 ts ≡ lines_of job (map (sheet_of l) ts)
    unfolding lines_of
    emitted-lines ts h = set_lines_lem ts h 1
