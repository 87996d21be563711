-- Document 01, "Unfolding": "always the piece of the highest stage is taken", of three places in which a piece waits or not.
use Rattle.std.specs.Prelude.{ℕ, Bool, true, false, List, get_or, Option, Some, None}
use Rattle.unfold_pick.specs.declared.Piece.{Piece}

-- a piece with its stage, or none
abbrev pub Next : Type 0
Next = Option (ℕ × Piece)

-- the piece of this stage if it is here, else another answer
abbrev pub first_of : Bool → Next → Next → Next
first_of true a b = a
first_of false a b = b

-- the piece of the highest stage that is here, with its stage
abbrev pub next_of : Piece → Piece → Piece → Next
next_of one two three =
    first_of three.here (Some (3, three)) (first_of two.here (Some (2, two)) (first_of one.here (Some (1, one)) None))

-- a place in which no piece waits
abbrev pub absent : Piece
absent = record { here = false; plate = record { 0 = 0 }; x = 0; y = 0 }

-- the same of a list with the piece of stage s at s - 1
abbrev pub next_in : List Piece → Next
next_in ps = next_of (get_or ps 0 absent) (get_or ps 1 absent) (get_or ps 2 absent)
