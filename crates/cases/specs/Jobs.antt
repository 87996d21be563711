-- The jobs, plans, prices and layouts of document 01's cases, as words: no type but job T's has leave to be turned, the blade is 0, and the board is
-- one size at a cost of 1 (request Six).
use Rattle.std.specs.Prelude.{ℕ, List, [], ◌∷◌, ◌++◌, map}
use Rattle.layouts.specs.Layout.{Board, Sheet, sheet}

-- the words of a job: stages, exact, the numbers t of sizes and n of types, the blade's b, the words of the sizes, the words of the types
abbrev pub job_from : ℕ → ℕ → ℕ → ℕ → ℕ → List ℕ → List ℕ → List ℕ
job_from stages exact t n b sizes types = stages ∷ exact ∷ t ∷ n ∷ b ∷ (sizes ++ types)

-- the words of a job with one size, of W and H at a cost of 1
abbrev pub on_board : ℕ → ℕ → ℕ → ℕ → ℕ → ℕ → List ℕ → List ℕ
on_board stages exact w h n b types = job_from stages exact 1 n b (w ∷ h ∷ 1 ∷ []) types

-- boards of size 0
abbrev pub sheets : List Board → List Sheet
sheets bs = map (sheet 0) bs

-- "Job A: mode 2N, 9 by 7, item 1 of 5 by 4 (demand 2), item 2 of 3 by 3 (demand 3)", and the words of its item types
abbrev pub items_a : List ℕ
items_a = 5 ∷ 4 ∷ 2 ∷ 0 ∷ 3 ∷ 3 ∷ 3 ∷ 0 ∷ []

unfoldable pub job_a : List ℕ
job_a = on_board 2 0 9 7 2 0 items_a

-- its plate types and its cuts
unfoldable pub plates_a : List ℕ
plates_a =
    (9 ∷ 7 ∷ 1 ∷ 1 ∷ [])
    ++ (9 ∷ 3 ∷ 1 ∷ 0 ∷ [])
    ++ (4 ∷ 4 ∷ 2 ∷ 0 ∷ [])
    ++ (9 ∷ 4 ∷ 1 ∷ 0 ∷ [])
    ++ (6 ∷ 3 ∷ 2 ∷ 0 ∷ [])
    ++ (3 ∷ 3 ∷ 2 ∷ 0 ∷ [])

unfoldable pub cuts_a : List ℕ
cuts_a =
    (0 ∷ 2 ∷ 1 ∷ 2 ∷ [])
    ++ (0 ∷ 4 ∷ 3 ∷ 4 ∷ [])
    ++ (1 ∷ 4 ∷ 0 ∷ 4 ∷ [])
    ++ (2 ∷ 4 ∷ 0 ∷ 0 ∷ [])
    ++ (3 ∷ 2 ∷ 0 ∷ 2 ∷ [])
    ++ (3 ∷ 4 ∷ 0 ∷ 4 ∷ [])
    ++ (4 ∷ 4 ∷ 0 ∷ 5 ∷ [])
    ++ (5 ∷ 4 ∷ 0 ∷ 0 ∷ [])

-- "Plan: cuts 1 to 8 counted 2 0 1 1 0 0 1 0"
unfoldable pub plan_a : List ℕ
plan_a = 2 ∷ 0 ∷ 1 ∷ 1 ∷ 0 ∷ 0 ∷ 1 ∷ 0 ∷ []

-- "Prices: D 1, item 1 and plate type 3 at 1, the rest 0"
unfoldable pub prices_a : List ℕ
prices_a = 1 ∷ 1 ∷ 0 ∷ 0 ∷ 0 ∷ 1 ∷ 0 ∷ 0 ∷ []

-- job T: job A, both types with leave to be turned (request One); the second is square
abbrev pub items_t : List ℕ
items_t = 5 ∷ 4 ∷ 2 ∷ 1 ∷ 3 ∷ 3 ∷ 3 ∷ 1 ∷ []

unfoldable pub job_t : List ℕ
job_t = on_board 2 0 9 7 2 0 items_t

-- job A in 2E, its plate types and its cuts
unfoldable pub job_a2e : List ℕ
job_a2e = on_board 2 1 9 7 2 0 items_a

unfoldable pub plates_a2e : List ℕ
plates_a2e =
    (9 ∷ 7 ∷ 1 ∷ 1 ∷ [])
    ++ (9 ∷ 3 ∷ 1 ∷ 0 ∷ [])
    ++ (9 ∷ 4 ∷ 1 ∷ 0 ∷ [])
    ++ (6 ∷ 3 ∷ 2 ∷ 0 ∷ [])
    ++ (3 ∷ 3 ∷ 2 ∷ 0 ∷ [])

unfoldable pub cuts_a2e : List ℕ
cuts_a2e =
    (0 ∷ 2 ∷ 1 ∷ 0 ∷ [])
    ++ (0 ∷ 4 ∷ 2 ∷ 3 ∷ [])
    ++ (1 ∷ 4 ∷ 0 ∷ 3 ∷ [])
    ++ (2 ∷ 2 ∷ 0 ∷ 0 ∷ [])
    ++ (2 ∷ 4 ∷ 0 ∷ 3 ∷ [])
    ++ (3 ∷ 4 ∷ 0 ∷ 4 ∷ [])
    ++ (4 ∷ 4 ∷ 0 ∷ 0 ∷ [])

-- "job B, 3N, 5 by 5, items 3 by 5 (1) and 2 by 2 (2)", its plate types, its cuts, and its plan
unfoldable pub job_b : List ℕ
job_b = on_board 3 0 5 5 2 0 (3 ∷ 5 ∷ 1 ∷ 0 ∷ 2 ∷ 2 ∷ 2 ∷ 0 ∷ [])

unfoldable pub plates_b : List ℕ
plates_b =
    (5 ∷ 5 ∷ 1 ∷ 1 ∷ [])
    ++ (2 ∷ 5 ∷ 2 ∷ 0 ∷ [])
    ++ (5 ∷ 3 ∷ 1 ∷ 0 ∷ [])
    ++ (3 ∷ 2 ∷ 2 ∷ 0 ∷ [])
    ++ (2 ∷ 3 ∷ 3 ∷ 0 ∷ [])

unfoldable pub cuts_b : List ℕ
cuts_b =
    (0 ∷ 2 ∷ 0 ∷ 1 ∷ [])
    ++ (0 ∷ 4 ∷ 2 ∷ 3 ∷ [])
    ++ (1 ∷ 4 ∷ 4 ∷ 0 ∷ [])
    ++ (2 ∷ 4 ∷ 0 ∷ 3 ∷ [])
    ++ (3 ∷ 4 ∷ 0 ∷ 0 ∷ [])
    ++ (4 ∷ 4 ∷ 0 ∷ 0 ∷ [])

unfoldable pub plan_b : List ℕ
plan_b = 1 ∷ 0 ∷ 1 ∷ 0 ∷ 0 ∷ 1 ∷ []

-- its placements, at (0,0), (3,0) and (3,2)
unfoldable pub lines_b : List ℕ
lines_b =
    (1 ∷ 0 ∷ 1 ∷ 1 ∷ 1 ∷ 1 ∷ 0 ∷ 0 ∷ 0 ∷ [])
    ++ (1 ∷ 0 ∷ 1 ∷ 2 ∷ 1 ∷ 2 ∷ 3 ∷ 0 ∷ 0 ∷ [])
    ++ (1 ∷ 0 ∷ 1 ∷ 2 ∷ 2 ∷ 2 ∷ 3 ∷ 2 ∷ 0 ∷ [])

-- one item type of w by h, demanded once, on job A's board
unfoldable pub alone : ℕ → ℕ → List ℕ
alone w h = on_board 2 0 9 7 1 0 (w ∷ h ∷ 1 ∷ 0 ∷ [])

-- "the 6 by 6 example of 001": 4 by 3 and 2 by 2, five of each; its optimal plan in cut numbers
unfoldable pub job6 : List ℕ
job6 = on_board 2 0 6 6 2 0 (4 ∷ 3 ∷ 5 ∷ 0 ∷ 2 ∷ 2 ∷ 5 ∷ 0 ∷ [])

unfoldable pub plan6 : List ℕ
plan6 = 3 ∷ 0 ∷ 2 ∷ 1 ∷ 2 ∷ 0 ∷ 0 ∷ 1 ∷ 0 ∷ 1 ∷ []

-- the lines of kind 7 that are printed for job A, without their kind
unfoldable pub lines_a : List ℕ
lines_a =
    (1 ∷ 0 ∷ 1 ∷ 1 ∷ 1 ∷ 1 ∷ 0 ∷ 0 ∷ 0 ∷ [])
    ++ (1 ∷ 0 ∷ 1 ∷ 2 ∷ 1 ∷ 2 ∷ 5 ∷ 0 ∷ 0 ∷ [])
    ++ (1 ∷ 0 ∷ 2 ∷ 1 ∷ 1 ∷ 2 ∷ 0 ∷ 4 ∷ 0 ∷ [])
    ++ (1 ∷ 0 ∷ 2 ∷ 2 ∷ 1 ∷ 2 ∷ 3 ∷ 4 ∷ 0 ∷ [])
    ++ (2 ∷ 0 ∷ 1 ∷ 1 ∷ 1 ∷ 1 ∷ 0 ∷ 0 ∷ 0 ∷ [])
