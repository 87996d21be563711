-- The first stack, the first strip and what lies behind them in a set of layouts, empty where there is none.
use Rattle.std.specs.Prelude.{ℕ, ◌+◌, cond, List, [], ◌∷◌, ◌++◌, length}
use Rattle.std.proofs.Math.Option.{Option, none, some}
use Rattle.job.specs.Job.{Job}
use Rattle.layouts.specs.Layout.{Stack, Strip, Sheet, sheet}
use Rattle.layouts.specs.Placement.{Placement, items_of_board}
use Rattle.layouts.specs.Lines.{Level, stack, strip, board, begun, grouped}
use Rattle.layouts.specs.LayoutsRow.{Laid, laid_board, laid_set}
use Rattle.layouts_strips.specs.Begun.{begins_strip}

abbrev pub first_strip : List Sheet → Strip
first_strip [] = []
first_strip (sheet z [] ∷ bs) = []
first_strip (sheet z (s ∷ ss) ∷ bs) = s

abbrev pub first_stack : List Sheet → Stack
first_stack [] = []
first_stack (sheet z [] ∷ bs) = []
first_stack (sheet z ([] ∷ ss) ∷ bs) = []
first_stack (sheet z ((k ∷ ks) ∷ ss) ∷ bs) = k

-- request Six: the size of the first board, and the size that the first of some lines names; 0 where there is none
abbrev pub first_size : List Sheet → ℕ
first_size [] = 0
first_size (sheet z b ∷ bs) = z

abbrev pub size_named : List Placement → ℕ
size_named [] = 0
size_named (r ∷ rs) = r.turn.board.size

-- the stack and the strip that the first of some lines is in, from that line on
abbrev pub stack_of : List Placement → Stack
stack_of rs = first_stack (grouped rs)

abbrev pub strip_of : List Placement → Strip
strip_of rs = first_strip (grouped rs)

-- the strips of a set whose first board is of size z and has strips of height y below it
abbrev pub laid_from : Job → ℕ → ℕ → ℕ → List Sheet → List Laid
laid_from job z line y [] = []
laid_from job z line y (sheet j b ∷ bs) = laid_board job z line y b ++ laid_set job (line + length (items_of_board b)) bs

-- the height below the next strip: that of the strips so far, a gap after each (request Four), where it is on the same board, else 0
abbrev pub below_next : Option Level → ℕ → ℕ
below_next none y = 0
below_next (some stack) y = 0
below_next (some strip) y = y
below_next (some board) y = 0

-- a plate type for the first strip of some lines: j where it is a further strip of a board, else the size of its board (request Six)
abbrev pub strip_plate : List Placement → ℕ → ℕ
strip_plate rs j = cond (begins_strip (begun rs)) j (size_named rs)
