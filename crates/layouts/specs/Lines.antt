-- Document 01, "Texts" and "Layouts and folding": layouts as words, refusals 1, 2, 19 and 15 of their lines, and the set that lines in turn make.
use Rattle.std.specs.Prelude.{ℕ, suc, ◌+◌, ◌*◌, ◌/◌, ◌%◌, Bool, true, false, not, ◌&&◌, ◌||◌, List, [], ◌∷◌, map, ltb, eqb, length}
use Rattle.std.proofs.Math.Option.{Option, none, some}
use Rattle.job.specs.Sizes.{words_of_placement}
use Rattle.job.specs.Verdict.{Verdict, pass, refuse, ◌then◌, refuse_if, within, lowest}
use Rattle.job.specs.Job.{Job, permitted, max_side, max_pieces}
use Rattle.layouts.specs.Layout.{Stack, Strip, Board, Sheet, sheet}
use Rattle.layouts.specs.Placement.{opened, Turn, turn, Placement, placement_of}

-- a line of layout words (request One): its type and its turn as they stand there, which have limits of their own, and the placement that they make
pub record Line : Type 0 where
  pub type : ℕ
  pub turned : ℕ
  pub placement : Placement

-- the whole lines of layout words, nine words each: the size z after the board b (request Six), the turn t at the end
unfoldable pub lines_in : List ℕ → List Line
lines_in [] = []
lines_in (b ∷ []) = []
lines_in (b ∷ z ∷ []) = []
lines_in (b ∷ z ∷ s ∷ []) = []
lines_in (b ∷ z ∷ s ∷ k ∷ []) = []
lines_in (b ∷ z ∷ s ∷ k ∷ p ∷ []) = []
lines_in (b ∷ z ∷ s ∷ k ∷ p ∷ i ∷ []) = []
lines_in (b ∷ z ∷ s ∷ k ∷ p ∷ i ∷ x ∷ []) = []
lines_in (b ∷ z ∷ s ∷ k ∷ p ∷ i ∷ x ∷ y ∷ []) = []
lines_in (b ∷ z ∷ s ∷ k ∷ p ∷ i ∷ x ∷ y ∷ t ∷ ws) =
    record { type = i; turned = t; placement = placement_of (opened b z) s k p (2 * i + t) x y } ∷ lines_in ws

-- the placements of layout words
unfoldable pub rows_of : List ℕ → List Placement
rows_of ws = map (λ r. r.placement) (lines_in ws)

-- "board, strip, stack, place 1 to 4,000"
abbrev pub counted : ℕ → Bool
counted k = within 1 max_pieces k

-- the numbers of a line are within their limits: "type 1 to n", "x, y 0 to 10,000", the turn 0 or 1, a size of the job, 0 to t−1 (request Six)
unfoldable pub row_right : Job → Line → Bool
row_right job r =
    counted r.placement.turn.board.number
    && counted r.placement.turn.strip
    && counted r.placement.turn.stack
    && counted r.placement.turn.place
    && within 1 (length job.items) r.type
    && within 0 max_side r.placement.x
    && within 0 max_side r.placement.y
    && within 0 1 r.turned
    && ltb r.placement.turn.board.size (length job.sizes)

-- the line row of layout words: 1 "a line cut short"; 2 a value outside its limits; then request One's 19, "after 2, for a turn of 1 .. for a square
-- type or one without leave"; all name the line
unfoldable pub layout_words : Job → List ℕ → Verdict
layout_words job ws =
    refuse_if (not (eqb (length ws % words_of_placement) 0)) 1 (suc (length ws / words_of_placement))
    then lowest 2 (λ _ r. not (row_right job r)) 1 (lines_in ws)
    then lowest 19 (λ _ r. not (permitted job r.item)) 1 (rows_of ws)

-- the same board, of the same size, and the same strip, stack and place
unfoldable pub same_turn : Turn → Turn → Bool
same_turn t u =
    eqb t.board.number u.board.number
    && eqb t.board.size u.board.size
    && eqb t.strip u.strip
    && eqb t.stack u.stack
    && eqb t.place u.place

-- u is the next in turn after t: the next place, stack or strip, of the same board and so of its size, or the next board, of any size; what lies below
-- it from 1 again
unfoldable pub follows : Turn → Turn → Bool
follows t u =
    same_turn u (turn t.board t.strip t.stack (suc t.place))
    || same_turn u (turn t.board t.strip (suc t.stack) 1)
    || same_turn u (turn t.board (suc t.strip) 1 1)
    || same_turn u (turn (opened (suc t.board.number) u.board.size) 1 1 1)

-- 15 at the lowest line, from line k on, that is not the next in turn after t
unfoldable pub in_turn : ℕ → Turn → List Placement → Verdict
in_turn k t [] = pass
in_turn k t (r ∷ rs) =
    elim (follows t r.turn) [
      | false ↦ refuse 15 k
      | true ↦ in_turn (suc k) r.turn rs
    ]

-- 15: "board, strip, stack, place not the next in turn from 1", or "a line whose size differs from that of its board's first line" (request Six); the first
-- line is 1, 1, 1, 1, of any size
unfoldable pub turns : ℕ → List Placement → Verdict
turns k [] = pass
turns k (r ∷ rs) =
    elim (same_turn r.turn (turn (opened 1 r.turn.board.size) 1 1 1)) [
      | false ↦ refuse 15 k
      | true ↦ in_turn (suc k) r.turn rs
    ]

-- what a line begins where it does not go on with a stack
pub data Level : Type 0 where
  stack strip board : Level

unfoldable pub level_of : Turn → Option Level
level_of t =
    elim (eqb t.place 1) [
      | false ↦ none
      | true ↦
          elim (eqb t.stack 1) [
            | false ↦ some stack
            | true ↦ elim (eqb t.strip 1) [ false ↦ some strip | true ↦ some board ]
          ]
    ]

-- what the first of some lines begins; past the last line only another board could begin
unfoldable pub begun : List Placement → Option Level
begun [] = some board
begun (r ∷ rs) = level_of r.turn

-- an item below the first stack of a strip, of a board, of a set; a board has the size that its first line names, here z
unfoldable pub in_strip : ℕ → Strip → Strip
in_strip i [] = (i ∷ []) ∷ []
in_strip i (k ∷ ks) = (i ∷ k) ∷ ks

unfoldable pub in_board : ℕ → Board → Board
in_board i [] = ((i ∷ []) ∷ []) ∷ []
in_board i (s ∷ ss) = in_strip i s ∷ ss

unfoldable pub in_set : ℕ → ℕ → List Sheet → List Sheet
in_set z i [] = sheet z (((i ∷ []) ∷ []) ∷ []) ∷ []
in_set z i (sheet j b ∷ bs) = sheet z (in_board i b) ∷ bs

-- a stack before the first strip of a board
unfoldable pub beside : Stack → Board → Board
beside k [] = (k ∷ []) ∷ []
beside k (s ∷ ss) = (k ∷ s) ∷ ss

-- a stack before a set whose first line begins a stack, a strip or a board
unfoldable pub before : ℕ → Level → Stack → List Sheet → List Sheet
before z v k [] = sheet z ((k ∷ []) ∷ []) ∷ []
before z stack k (sheet j b ∷ bs) = sheet z (beside k b) ∷ bs
before z strip k (sheet j b ∷ bs) = sheet z ((k ∷ []) ∷ b) ∷ bs
before z board k (b ∷ bs) = sheet z ((k ∷ []) ∷ []) ∷ b ∷ bs

-- the set of layouts of lines that run in turn, read from the last line back: what the next line begins says what this line shares with it. Where it begins
-- nothing, both are of one stack, and this item lies below; else this line's item is a stack of its own, put before the lines that are grouped already
unfoldable pub grouped : List Placement → List Sheet
grouped [] = []
grouped (r ∷ rs) =
    elim (begun rs) [
      | none ↦ in_set r.turn.board.size r.item (grouped rs)
      | some v ↦ before r.turn.board.size v (r.item ∷ []) (grouped rs)
    ]

-- the set of layouts of layout words
unfoldable pub set_of : List ℕ → List Sheet
set_of ws = grouped (rows_of ws)
