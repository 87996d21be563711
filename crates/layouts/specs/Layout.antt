-- Document 01, "Layouts and folding", first paragraph: boards, strips and stacks, their sides, and the layout rules of each mode.
use Rattle.std.specs.Prelude.{ℕ, Bool, true, false, cond, not, ◌&&◌, ◌||◌, List, [], ◌∷◌, ltb, leb, eqb, length}
use Rattle.job.specs.declared.size.Size.{Size}
use Rattle.job.specs.Lists.{any, all, gap_sum, max_of, non_empty}
use Rattle.job.specs.Mode.{three, exact}
use Rattle.job.specs.Job.{Job, size_at, position_at, permitted}

-- "a board is a list of strips from the bottom, a strip a list of stacks from the left, a stack a list of items from the bottom";
-- an item is the number of its position here, "twice the type plus the turn" (request One)
abbrev pub Stack : Type 0
Stack = List ℕ

abbrev pub Strip : Type 0
Strip = List Stack

abbrev pub Board : Type 0
Board = List Strip

-- request Six: a board with the number of its size
pub data Sheet : Type 0 where
  sheet : ℕ → Board → Sheet

abbrev pub sheet_size : Sheet → ℕ
sheet_size (sheet j b) = j

abbrev pub strips_of : Sheet → Board
strips_of (sheet j b) = b

-- the sides of an item as it lies: "layouts are judged with turned sides" (request One)
unfoldable pub width_of : Job → ℕ → ℕ
width_of job i = (position_at job i).width

unfoldable pub height_of : Job → ℕ → ℕ
height_of job i = (position_at job i).height

-- "a stack's width is its widest item, its height the sum; a strip's height is its highest stack". Request Four, "Layouts need b between neighbours in
-- strips, stacks and strip order": the gaps between the items of a stack "count in a stack's height", and so in the strip's; a stack's width has none
unfoldable pub stack_width : Job → Stack → ℕ
stack_width job s = max_of (width_of job) s

unfoldable pub stack_height : Job → Stack → ℕ
stack_height job s = gap_sum job.blade (height_of job) s

unfoldable pub strip_height : Job → Strip → ℕ
strip_height job s = max_of (stack_height job) s

-- stack widths of a strip, strip heights of a board, added up with the gaps between them: these count too "in the sums against W and H" (request Four)
unfoldable pub strip_width : Job → Strip → ℕ
strip_width job s = gap_sum job.blade (stack_width job) s

unfoldable pub board_height : Job → Board → ℕ
board_height job b = gap_sum job.blade (strip_height job) b

-- a stack that is one item
unfoldable pub single : Stack → Bool
single [] = false
single (i ∷ []) = true
single (i ∷ i' ∷ is) = false

-- "a single item of the strip's height", which is h
unfoldable pub full_stack : Job → ℕ → Stack → Bool
full_stack job h s = single s && eqb (stack_height job s) h

-- "in 2E all items of a strip are equally high"
unfoldable pub same_heights : Job → Strip → Bool
same_heights job s = all (λ k. eqb (stack_height job k) (strip_height job s)) s

-- "in 3E all items of a stack are equally wide"
unfoldable pub same_widths : Job → Stack → Bool
same_widths job s = all (λ i. eqb (width_of job i) (stack_width job s)) s

-- the stage rule of a strip, by the mode
unfoldable pub stage_rule : Job → Strip → Bool
stage_rule job s =
    cond (three job.mode)
    (any (full_stack job (strip_height job s)) s && (not (exact job.mode) || all (same_widths job) s))
    (all single s && (not (exact job.mode) || same_heights job s))

-- the rules of one board: nothing is empty; each item lies in a permitted position, since a piece turned without leave "breaks the layout rules" (request One);
-- the stage rule holds of each strip; and the sums are at most the W and H of its size (request Six)
unfoldable pub board_rules : Job → Size → Board → Bool
board_rules job z b =
    non_empty b
    && all non_empty b
    && all (all non_empty) b
    && all (all (all (permitted job))) b
    && all (stage_rule job) b
    && all (λ s. leb (strip_width job s) z.width) b
    && leb (board_height job b) z.height

-- .. of a board of one of the job's sizes (request Six)
unfoldable pub sheet_rules : Job → Sheet → Bool
sheet_rules job b = ltb (sheet_size b) (length job.sizes) && board_rules job (size_at job (sheet_size b)) (strips_of b)

-- "the layout rules" of a set of layouts, which is a list of boards, each of a size
unfoldable pub layout_rules : Job → List Sheet → Bool
layout_rules job bs = all (sheet_rules job) bs
