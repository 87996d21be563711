-- Document 02, request One: turned items, at the level of the calls; each field says what it shows or shuts out.
use Rattle.std.specs.Prelude.{ℕ, ◌≡◌, true, false, replicate}
use mathlib.Core.List.{List, [], ◌∷◌, ◌++◌}
use Rattle.job.specs.Buffers.{given, filled, counts_size, placements_size}
use Rattle.job.specs.Job.{job_of}
use Rattle.layouts.specs.Layout.{layout_rules}
use Rattle.layouts.specs.Placement.{opened, placement_of}
use Rattle.layouts.specs.Rectangle.{inside}
use Rattle.cases.specs.Calls.{listing, plan, prices, unfolding', folding, succeeds, refuses}
use Rattle.cases.specs.Jobs.{on_board, sheets, job_a, job_t}

-- 2N, 5 by 3, one item of 3 by 5, with leave or without
unfoldable pub tall : ℕ → List ℕ
tall v = on_board 2 0 5 3 1 0 (3 ∷ 5 ∷ 1 ∷ v ∷ [])

-- 2N, 3 by 3, one item as large as the board, with leave
unfoldable pub square_job : List ℕ
square_job = on_board 2 0 3 3 1 0 (3 ∷ 3 ∷ 1 ∷ 1 ∷ [])

-- 2N, 9 by 9, one item of 3 by 2 without leave
unfoldable pub small : List ℕ
small = on_board 2 0 9 9 1 0 (3 ∷ 2 ∷ 1 ∷ 0 ∷ [])

-- a first line, of type 1 with a turn
unfoldable pub line_one : ℕ → List ℕ
line_one t = 1 ∷ 0 ∷ 1 ∷ 1 ∷ 1 ∷ 1 ∷ 0 ∷ 0 ∷ t ∷ []

-- the plate types of job T
unfoldable pub plates_t : List ℕ
plates_t =
    (9 ∷ 7 ∷ 1 ∷ 1 ∷ [])
    ++ (9 ∷ 3 ∷ 1 ∷ 0 ∷ [])
    ++ (4 ∷ 4 ∷ 2 ∷ 0 ∷ [])
    ++ (5 ∷ 5 ∷ 2 ∷ 0 ∷ [])
    ++ (9 ∷ 4 ∷ 1 ∷ 0 ∷ [])
    ++ (6 ∷ 3 ∷ 2 ∷ 0 ∷ [])
    ++ (3 ∷ 3 ∷ 2 ∷ 0 ∷ [])

-- its cuts: "twice the type plus the turn", the unturned first
unfoldable pub cuts_t : List ℕ
cuts_t =
    (0 ∷ 2 ∷ 1 ∷ 2 ∷ [])
    ++ (0 ∷ 3 ∷ 0 ∷ 3 ∷ [])
    ++ (0 ∷ 4 ∷ 4 ∷ 5 ∷ [])
    ++ (1 ∷ 4 ∷ 0 ∷ 5 ∷ [])
    ++ (2 ∷ 4 ∷ 0 ∷ 0 ∷ [])
    ++ (3 ∷ 2 ∷ 0 ∷ 0 ∷ [])
    ++ (3 ∷ 3 ∷ 0 ∷ 0 ∷ [])
    ++ (3 ∷ 4 ∷ 0 ∷ 0 ∷ [])
    ++ (4 ∷ 2 ∷ 0 ∷ 2 ∷ [])
    ++ (4 ∷ 4 ∷ 0 ∷ 5 ∷ [])
    ++ (5 ∷ 4 ∷ 0 ∷ 6 ∷ [])
    ++ (6 ∷ 4 ∷ 0 ∷ 0 ∷ [])

-- one board with type 1 turned and beside it unturned, one with type 2 three times
unfoldable pub plan_t : List ℕ
plan_t = 0 ∷ 1 ∷ 1 ∷ 0 ∷ 0 ∷ 1 ∷ 0 ∷ 0 ∷ 0 ∷ 0 ∷ 1 ∷ 1 ∷ []

-- the second board's lines
unfoldable pub three_squares : List ℕ
three_squares =
    (2 ∷ 0 ∷ 1 ∷ 1 ∷ 1 ∷ 2 ∷ 0 ∷ 0 ∷ 0 ∷ [])
    ++ (2 ∷ 0 ∷ 1 ∷ 2 ∷ 1 ∷ 2 ∷ 3 ∷ 0 ∷ 0 ∷ [])
    ++ (2 ∷ 0 ∷ 1 ∷ 3 ∷ 1 ∷ 2 ∷ 6 ∷ 0 ∷ 0 ∷ [])

-- both boards' lines: the turned item is the higher one, and lies first; and with the lower one first
unfoldable pub lines_t : List ℕ
lines_t = (1 ∷ 0 ∷ 1 ∷ 1 ∷ 1 ∷ 1 ∷ 0 ∷ 0 ∷ 1 ∷ []) ++ (1 ∷ 0 ∷ 1 ∷ 2 ∷ 1 ∷ 1 ∷ 4 ∷ 0 ∷ 0 ∷ []) ++ three_squares

unfoldable pub lines_t-low-first : List ℕ
lines_t-low-first = (1 ∷ 0 ∷ 1 ∷ 1 ∷ 1 ∷ 1 ∷ 0 ∷ 0 ∷ 0 ∷ []) ++ (1 ∷ 0 ∷ 1 ∷ 2 ∷ 1 ∷ 1 ∷ 5 ∷ 0 ∷ 1 ∷ []) ++ three_squares

-- 2E, 9 by 5, one item of 5 by 4 with leave: turned it is as high as the plate that it leaves
unfoldable pub exact_height : List ℕ
exact_height = on_board 2 1 9 5 1 0 (5 ∷ 4 ∷ 1 ∷ 1 ∷ [])

-- 3E, 5 by 10, an item of 5 by 4 with leave, and one of 1 by 10: turned the first is as wide as the plate above it
unfoldable pub exact_width : List ℕ
exact_width = on_board 3 1 5 10 2 0 (5 ∷ 4 ∷ 1 ∷ 1 ∷ 1 ∷ 10 ∷ 1 ∷ 0 ∷ [])

-- 3N, 6 by 8, an item of 5 by 3 with leave, twice, and one of 1 by 8
unfoldable pub both_turns : List ℕ
both_turns = on_board 3 0 6 8 2 0 (5 ∷ 3 ∷ 2 ∷ 1 ∷ 1 ∷ 8 ∷ 1 ∷ 0 ∷ [])

-- 2N, 5 by 3, an item of 3 by 2 with leave, and one of 2 by 3: turned the first has the sides of the second
unfoldable pub same_sides : List ℕ
same_sides = on_board 2 0 5 3 2 0 (3 ∷ 2 ∷ 1 ∷ 1 ∷ 2 ∷ 3 ∷ 1 ∷ 0 ∷ [])

-- "A cut becomes plate, type and turn, the unturned first; a square item has no turned cut"
pub record TurnedCuts : Type 0 where
  -- a type that fits only turned refused with 3: it has a turned cut alone
  pub only-turned : listing (tall 1) ≡ succeeds (0 ∷ 1 ∷ []) (5 ∷ 3 ∷ 1 ∷ 1 ∷ []) (0 ∷ 3 ∷ 0 ∷ 0 ∷ []) []
  -- "no permitted position": without leave it is 3
  pub no-leave : listing (tall 0) ≡ refuses 3 1 []
  -- a leave of 2
  pub leave-limit : listing (tall 2) ≡ refuses 2 1 []
  -- a turned cut of a square item with leave, a turned cut before the unturned, or residuals by the unturned sides
  pub with_leave : listing job_t ≡ succeeds (6 ∷ 12 ∷ []) plates_t cuts_t []
  -- 2E or 3E by the unturned height or width
  pub height-turned :
      listing exact_height
      ≡ succeeds (1 ∷ 3 ∷ []) ((9 ∷ 5 ∷ 1 ∷ 1 ∷ []) ++ (5 ∷ 5 ∷ 2 ∷ 0 ∷ [])) ((0 ∷ 2 ∷ 0 ∷ 0 ∷ []) ++ (0 ∷ 3 ∷ 0 ∷ 1 ∷ []) ++ (1 ∷ 3 ∷ 0 ∷ 0 ∷ [])) []
  pub width-turned : (listing exact_width).answer ≡ given (7 ∷ 13 ∷ [])
  -- one cut for two types that lie with the same sides: each has its own, and both leave the same residual
  pub two-types :
      listing same_sides
      ≡ succeeds (1 ∷ 6 ∷ []) ((5 ∷ 3 ∷ 1 ∷ 1 ∷ []) ++ (3 ∷ 3 ∷ 2 ∷ 0 ∷ []))
      ((0 ∷ 2 ∷ 0 ∷ 0 ∷ [])
      ++ (0 ∷ 3 ∷ 0 ∷ 1 ∷ [])
      ++ (0 ∷ 4 ∷ 0 ∷ 1 ∷ [])
      ++ (1 ∷ 2 ∷ 0 ∷ 0 ∷ [])
      ++ (1 ∷ 3 ∷ 0 ∷ 0 ∷ [])
      ++ (1 ∷ 4 ∷ 0 ∷ 0 ∷ []))
      []

-- "both turns count towards a type's demand", and a type has one price
pub record TurnedPlans : Type 0 where
  -- demands counted for each turn alone: type 1 is demanded twice
  pub both-turns : plan job_t plan_t ≡ succeeds (2 ∷ 2 ∷ []) plates_t cuts_t []
  -- a turned piece that lies unturned
  pub lies-turned : unfolding' job_t plan_t ≡ succeeds (2 ∷ 5 ∷ 1 ∷ []) plates_t cuts_t (filled placements_size lines_t)
  -- a price rule for unturned cuts alone, or a price for each turn
  pub turned-price : prices (tall 1) (1 ∷ 2 ∷ []) ≡ refuses 14 1 []
  pub one-price : prices job_t (1 ∷ 2 ∷ 0 ∷ 0 ∷ 0 ∷ 2 ∷ 0 ∷ 0 ∷ 0 ∷ []) ≡ refuses 14 1 []

-- "layouts are judged with turned sides", and 19
pub record TurnedLayouts : Type 0 where
  -- folding gives back the counts of the turned and the unturned cut
  pub folded_back : folding job_t lines_t ≡ succeeds (2 ∷ 2 ∷ []) plates_t cuts_t (filled counts_size plan_t)
  -- folding by falling unturned height: the lower item first
  pub by-turned-height : folding job_t lines_t-low-first ≡ succeeds (2 ∷ 2 ∷ []) plates_t cuts_t (filled counts_size plan_t)
  -- one stack that holds a type in both turns, 5 by 3 and above it 3 by 5
  pub both-in-stack :
      (folding both_turns ((1 ∷ 0 ∷ 1 ∷ 1 ∷ 1 ∷ 2 ∷ 0 ∷ 0 ∷ 0 ∷ []) ++ (1 ∷ 0 ∷ 1 ∷ 2 ∷ 1 ∷ 1 ∷ 1 ∷ 0 ∷ 0 ∷ []) ++ (1 ∷ 0 ∷ 1 ∷ 2 ∷ 2 ∷ 1 ∷ 1 ∷ 3 ∷ 1 ∷ []))).answer
      ≡ given (1 ∷ 1 ∷ [])
  -- a turn of 1 for a square item that has leave, or for one without: 19
  pub square : folding square_job (line_one 1) ≡ refuses 19 1 (replicate counts_size 0)
  pub without-leave : folding small (line_one 1) ≡ refuses 19 1 (replicate counts_size 0)
  -- 19 before 2: line 1 is turned without leave, line 2 of a type that the job has not
  pub limits-first : folding small (line_one 1 ++ (1 ∷ 0 ∷ 1 ∷ 2 ∷ 1 ∷ 2 ∷ 2 ∷ 0 ∷ 0 ∷ [])) ≡ refuses 2 2 (replicate counts_size 0)
  -- a turn of 2 as 19, or as type 2 unturned
  pub turn-limit : folding job_t (line_one 2) ≡ refuses 2 1 (replicate counts_size 0)
  -- the item that fits only turned, laid unturned: 17; laid turned: one board, cut 1 once
  pub laid-unturned : folding (tall 1) (line_one 0) ≡ refuses 17 1 (replicate counts_size 0)
  pub laid-turned : folding (tall 1) (line_one 1) ≡ succeeds (1 ∷ 1 ∷ []) (5 ∷ 3 ∷ 1 ∷ 1 ∷ []) (0 ∷ 3 ∷ 0 ∷ 0 ∷ []) (filled counts_size (1 ∷ []))

-- "for demand 3 a piece so turned breaks the layout rules"; items by their numbers: 3 is type 1 turned, 5 type 2 turned
pub record TurnedRules : Type 0 where
  pub with_leave : layout_rules (job_of job_t) (sheets ((((3 ∷ []) ∷ []) ∷ []) ∷ [])) ≡ true
  pub without-leave : layout_rules (job_of job_a) (sheets ((((3 ∷ []) ∷ []) ∷ []) ∷ [])) ≡ false
  pub square : layout_rules (job_of job_t) (sheets ((((5 ∷ []) ∷ []) ∷ []) ∷ [])) ≡ false
  -- rectangles by the unturned sides: 4 by 5 in the upper right corner, and where 5 by 4 would lie
  pub turned-inside : inside (job_of job_t) (placement_of (opened 1 0) 1 1 1 3 5 2) ≡ true
  pub turned-past : inside (job_of job_t) (placement_of (opened 1 0) 1 1 1 3 4 3) ≡ false
