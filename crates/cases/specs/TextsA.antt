-- The texts of job A as quoted lines, each number in nine columns.
use Rattle.std.specs.Prelude.{ℕ, List, [], ◌∷◌, ◌++◌}
use Rattle.columns.specs.Line.{line_of}
use Rattle.cases.specs.Bytes.{bytes}

-- line 1 of a job with one size, and the line 10 of that size, of W and H at a cost of 1 (request Six)
abbrev pub head_lines : ℕ → ℕ → ℕ → ℕ → ℕ → ℕ → List ℕ
head_lines stages exact w h n b = line_of (1 ∷ stages ∷ exact ∷ 1 ∷ n ∷ b ∷ []) ++ line_of (10 ∷ 0 ∷ w ∷ h ∷ 1 ∷ [])

-- job A, as lines of kinds 1, 10 and 2
unfoldable pub job_lines_a : List ℕ
job_lines_a =
    bytes "        1        2        0        1        2        0\n"
    ++ bytes "       10        0        9        7        1\n"
    ++ bytes "        2        1        5        4        2        0\n"
    ++ bytes "        2        2        3        3        3        0\n"

-- its plan, as lines of kind 3
unfoldable pub plan_lines_a : List ℕ
plan_lines_a =
    bytes "        3        0        1        2        9        7        1        0\n"
    ++ bytes "        3        1        2        1        9        3        1        0\n"
    ++ bytes "        3        2        2        1        4        4        2        0\n"
    ++ bytes "        3        4        2        1        6        3        2        0\n"

-- its prices, as lines of kinds 4, 5 and 6
unfoldable pub price_lines_a : List ℕ
price_lines_a =
    bytes "        4        1        2        5\n"
    ++ bytes "        5        1        1\n"
    ++ bytes "        5        2        0\n"
    ++ bytes "        6        1        0\n"
    ++ bytes "        6        2        0\n"
    ++ bytes "        6        3        1\n"
    ++ bytes "        6        4        0\n"
    ++ bytes "        6        5        0\n"

-- the lines of kind 7 that document 01 prints
unfoldable pub printed_a : List ℕ
printed_a =
    bytes "        7        1        0        1        1        1        1        0        0        0\n"
    ++ bytes "        7        1        0        1        2        1        2        5        0        0\n"
    ++ bytes "        7        1        0        2        1        1        2        0        4        0\n"
    ++ bytes "        7        1        0        2        2        1        2        3        4        0\n"
    ++ bytes "        7        2        0        1        1        1        1        0        0        0\n"

-- the line of kind 8 that document 01 prints
unfoldable pub result_a : List ℕ
result_a =
    bytes "        8        2        2        1        1\n"

-- the line of kind 8 without prices
unfoldable pub result_plain : List ℕ
result_plain =
    bytes "        8        2        0        1        0\n"
