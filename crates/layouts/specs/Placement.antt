-- Document 01, "Layouts and folding" and "The words of demand 3": item positions, the lines of a set of layouts, its pieces and demands.
use Rattle.std.specs.Prelude.{ℕ, suc, ◌+◌, Bool, true, ◌&&◌, leb}
use mathlib.Core.List.{List, [], ◌∷◌, ◌++◌, flat_map, map}
use Rattle.job.specs.declared.item.Item.{Item}
use Rattle.job.specs.Lists.{occurs, sum_of}
use Rattle.job.specs.Job.{Job, type_of, turn_of}
use Rattle.plan.specs.Plan.{cost_at}
use Rattle.layouts.specs.Layout.{Stack, Strip, Board, Sheet, sheet, sheet_size, strips_of, height_of, stack_width, strip_height}

-- request Six: a board that is opened, its number, from 1, and that of its size
pub record Opened : Type 0 where
  pub number : ℕ
  pub size : ℕ

abbrev pub opened : ℕ → ℕ → Opened
opened b j = record { number = b; size = j }

-- board, strip, stack and place of an item, each from 1
pub record Turn : Type 0 where
  pub board : Opened
  pub strip : ℕ
  pub stack : ℕ
  pub place : ℕ

abbrev pub turn : Opened → ℕ → ℕ → ℕ → Turn
turn b s k p = record { board = b; strip = s; stack = k; place = p }

-- an item of a set: where it comes in turn; `item`, "twice the type plus the turn" (request One); and where it lies
pub record Placement : Type 0 where
  pub turn : Turn
  pub item : ℕ
  pub x : ℕ
  pub y : ℕ

-- a placement, by its board and its numbers
abbrev pub placement_of : Opened → ℕ → ℕ → ℕ → ℕ → ℕ → ℕ → Placement
placement_of b s k p i x y = record { turn = turn b s k p; item = i; x = x; y = y }

-- what stands for a placement that a list or some words have not
abbrev pub no_placement : Placement
no_placement = placement_of (opened 0 0) 0 0 0 0 0 0

-- a placement as words, the nine numbers after the kind of line 7: "lines 3 and 7 end with the turn" (request One), and each placement "names its size after
-- the board" (request Six)
unfoldable pub placement_words : List Placement → List ℕ
placement_words ps =
    flat_map
    (λ p. p.turn.board.number ∷ p.turn.board.size ∷ p.turn.strip ∷ p.turn.stack ∷ p.turn.place ∷ type_of p.item ∷ p.x ∷ p.y ∷ turn_of p.item ∷ [])
    ps

-- "y the strips below plus the items below it in its stack", with b after each of them, for "positions move accordingly" (request Four): the items of a
-- stack from place p on, at x, from y upwards
unfoldable pub stack_lines : Job → Opened → ℕ → ℕ → ℕ → ℕ → ℕ → Stack → List Placement
stack_lines job b s k p x y [] = []
stack_lines job b s k p x y (i ∷ is) =
    placement_of b s k p i x y ∷ stack_lines job b s k (suc p) x (y + height_of job i + job.blade) is

-- "x the widths of the stacks before it", with b after each of them: the items of a strip from stack k on, at the strip's y, from x rightwards
unfoldable pub strip_lines : Job → Opened → ℕ → ℕ → ℕ → ℕ → Strip → List Placement
strip_lines job b s k x y [] = []
strip_lines job b s k x y (stack ∷ stacks) =
    stack_lines job b s k 1 x y stack ++ strip_lines job b s (suc k) (x + stack_width job stack + job.blade) y stacks

-- the items of a board from strip s on, from y upwards
unfoldable pub board_lines : Job → Opened → ℕ → ℕ → Board → List Placement
board_lines job b s y [] = []
board_lines job b s y (strip ∷ strips) =
    strip_lines job b s 1 0 y strip ++ board_lines job b (suc s) (y + strip_height job strip + job.blade) strips

-- the items of a set from board b on, each board of its size
unfoldable pub set_lines : Job → ℕ → List Sheet → List Placement
set_lines job b [] = []
set_lines job b (sheet j board ∷ boards) = board_lines job (opened b j) 1 0 board ++ set_lines job (suc b) boards

-- the lines of a set: "board, strip, stack and place run in turn from 1, x and y are the item positions"
unfoldable pub lines_of : Job → List Sheet → List Placement
lines_of job bs = set_lines job 1 bs

-- the items of a strip, of a board, of a set; "its pieces are its items"
unfoldable pub items_of_strip : Strip → List ℕ
items_of_strip ss = flat_map (λ s. s) ss

unfoldable pub items_of_board : Board → List ℕ
items_of_board ss = flat_map items_of_strip ss

unfoldable pub items_of_set : List Sheet → List ℕ
items_of_set bs = flat_map (λ b. items_of_board (strips_of b)) bs

-- request Six: how many boards of size j there are in a set, and what its boards cost
unfoldable pub sheets_of : ℕ → List Sheet → ℕ
sheets_of j bs = occurs j (map sheet_size bs)

unfoldable pub set_cost : Job → List Sheet → ℕ
set_cost job bs = sum_of (λ b. cost_at job (sheet_size b)) bs

-- the types of its pieces, in whichever turn they lie (request One)
unfoldable pub types_of_set : List Sheet → List ℕ
types_of_set bs = map type_of (items_of_set bs)

-- each item type from i on is among the pieces at least as often as demanded
unfoldable pub meets_from : ℕ → List Item → List ℕ → Bool
meets_from i [] is = true
meets_from i (item ∷ items) is = leb item.demand (occurs i is) && meets_from (suc i) items is

-- "it meets the demands if each type lies in it at least as often as demanded"
unfoldable pub meets_demands : Job → List Sheet → Bool
meets_demands job bs = meets_from 1 job.items (types_of_set bs)
