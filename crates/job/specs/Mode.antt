-- Document 01, "The job": the stage mode, 2E, 2N, 3E or 3N.
use Rattle.std.specs.Prelude.{ℕ, Bool, cond, ◌||◌, leb, eqb}
use Rattle.job.specs.declared.mode.Mode.{Mode}

abbrev pub 2E : Mode
2E = record { 0 = 0 }

abbrev pub 2N : Mode
2N = record { 0 = 1 }

abbrev pub 3E : Mode
3E = record { 0 = 2 }

abbrev pub 3N : Mode
3N = record { 0 = 3 }

-- three stages, or else two
unfoldable pub three : Mode → Bool
three m = leb 2 m.0

-- exact, or else non-exact
unfoldable pub exact : Mode → Bool
exact m = eqb m.0 0 || eqb m.0 2

-- the mode of the two numbers of line 1: stages, 2 or 3, and exact, 1 or 0
unfoldable pub mode_of : ℕ → ℕ → Mode
mode_of stages exactly =
    cond (eqb stages 3)
    (cond (eqb exactly 1) 3E 3N)
    (cond (eqb exactly 1) 2E 2N)
