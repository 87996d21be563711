-- Document 01, "Where each number is given", the line row: what the number of a refusal says, and the shape of a line by its parts.
use Rattle.std.specs.Prelude.{ℕ, zero, suc, List, [], ◌∷◌, Result, Ok, Err}
use Rattle.job.specs.declared.refused.Refusal.{Refusal}
use Rattle.job.specs.Verdict.{Verdict, pass, refuse}
use Rattle.job.specs.Refused.{number_of}
use Rattle.texts.specs.Shape.{Limit, Shape, shape, ◌to◌}

-- the number of a refusal of a line, 0 where there is none
abbrev pub line_verdict : ℕ → ℕ → Verdict
line_verdict zero line = pass
line_verdict (suc number) line = refuse (suc number) line

-- what a check of a line's numbers says: the number of its refusal, 0 where there is none
abbrev pub number_said : Result (Unit {0}) Refusal → ℕ
number_said (Ok _) = 0
number_said (Err r) = number_of r

-- limits from the lowest and the highest values
abbrev pub limits_of : List ℕ → List ℕ → List Limit
limits_of [] highs = []
limits_of (low ∷ lows) [] = []
limits_of (low ∷ lows) (high ∷ highs) = low to high ∷ limits_of lows highs

-- the shape of a kind, its running number where it has one, and limits
abbrev pub shape_of : List ℕ → List Limit → Shape
shape_of [] limits = shape 0 [] limits
shape_of (kind ∷ running) limits = shape kind running limits
