-- What the structs and enums of this crate mean, in the terms of document 01, "Unfolding".
use Rattle.std.specs.Prelude.{ℕ, cond, Option as CodeOption, Some, None}
use Rattle.std.proofs.Math.Option.{Option, none, some}
use Rattle.layouts.specs.Placement.{opened, Turn, turn}
use Rattle.layouts.specs.Unfold.{Piece, Waiting, waiting}
use Rattle.unfold_pick.specs.declared.Piece.{Piece as CodePiece}
use Rattle.job.specs.declared.counters.CutNumber.{CutNumber}
use Rattle.unfold_waiting.specs.declared.turn.Turn.{Turn as CodeTurn}
use Rattle.unfold_waiting.specs.declared.waiting.Waiting.{Waiting as CodeWaiting}

-- a piece, and the place in which one waits or not
abbrev pub piece_of : CodePiece → Piece
piece_of p = record { plate = p.plate.0; x = p.x; y = p.y }

abbrev pub slot_of : CodePiece → Option Piece
slot_of p = cond p.here (some (piece_of p)) none

-- the pieces that wait
abbrev pub waiting_of : CodeWaiting → Waiting
waiting_of w = waiting (slot_of w.first) (slot_of w.second) (slot_of w.third)

-- where the last item was placed, on a board of size z (request Six)
abbrev pub turn_of : ℕ → CodeTurn → Turn
turn_of z t = turn (opened t.board z) t.strip t.stack t.place

-- the answer of the search in a part (request Seven): the place of the count there, from 0
abbrev pub left_means : CodeOption ℕ → Option ℕ
left_means (Some i) = some i
left_means None = none

-- the answer of the search
abbrev pub found_means : CodeOption CutNumber → Option ℕ
found_means (Some k) = some k.0
found_means None = none
