-- The limits of a line's turn, apart from those of its other numbers.
use Rattle.std.specs.Prelude.{Bool, ◌&&◌}
use Rattle.layouts.specs.Placement.{Turn}
use Rattle.layouts.specs.Lines.{counted}

-- "board, strip, stack, place 1 to 4,000"
abbrev pub turn_right : Turn → Bool
turn_right t = counted t.board.number && counted t.strip && counted t.stack && counted t.place
