-- Document 01, "Errors to shut out", and further wrong readings of the model, the plan, the prices and the layouts that cases (a) to (m) let pass: each field says what it shuts out.
use Rattle.std.specs.Prelude.{ℕ, ◌≡◌}
use Rattle.std.proofs.Math.Bool.{true, false}
use mathlib.Core.List.{List, [], ◌∷◌, ◌++◌}
use Rattle.std.proofs.Math.ListN.{replicate}
use Rattle.job.specs.Buffers.{filled, placements_size, counts_size}
use Rattle.job.specs.Job.{job_of}
use Rattle.plan.specs.Prices.{prices_of, cheapest}
use Rattle.layouts.specs.UnfoldCall.{unfolding_of}
use Rattle.cases.specs.Calls.{listing, plan, prices, unfolding', folding, succeeds, refuses}
use Rattle.cases.specs.Jobs.{on_board, job_a, plan_a, plates_a, cuts_a, alone}

-- 2N, 9 by 4: 3 by 4 once, 3 by 3 twice; cut 4, item 2 from (6, 4, 2), leaves (3, 3, 2), type 4
unfoldable pub job_c : List ℕ
job_c = on_board 2 0 9 4 2 0 (3 ∷ 4 ∷ 1 ∷ 0 ∷ 3 ∷ 3 ∷ 2 ∷ 0 ∷ [])

-- the plate types of job C
unfoldable pub plates_c : List ℕ
plates_c =
    (9 ∷ 4 ∷ 1 ∷ 1 ∷ [])
    ++ (6 ∷ 4 ∷ 2 ∷ 0 ∷ [])
    ++ (6 ∷ 3 ∷ 2 ∷ 0 ∷ [])
    ++ (3 ∷ 4 ∷ 2 ∷ 0 ∷ [])
    ++ (3 ∷ 3 ∷ 2 ∷ 0 ∷ [])

-- the cuts of job C
unfoldable pub cuts_c : List ℕ
cuts_c = ((0 ∷ 2 ∷ 0 ∷ 1 ∷ []) ++ (0 ∷ 4 ∷ 0 ∷ 2 ∷ []) ++ (1 ∷ 2 ∷ 0 ∷ 3 ∷ []) ++ (1 ∷ 4 ∷ 0 ∷ 4 ∷ []) ++ (2 ∷ 4 ∷ 0 ∷ 4 ∷ []) ++ (3 ∷ 2 ∷ 0 ∷ 0 ∷ []) ++ (3 ∷ 4 ∷ 0 ∷ 0 ∷ []) ++ (4 ∷ 4 ∷ 0 ∷ 0 ∷ []))

-- 2N, 9 by 7: 4 by 7 three times, two to a board
unfoldable pub job_d : List ℕ
job_d = on_board 2 0 9 7 1 0 (4 ∷ 7 ∷ 3 ∷ 0 ∷ [])

-- 3N, 10 by 12: 4 by 3, 3 by 12 and 6 by 6, two of each; its plate types and its cuts
unfoldable pub job_n : List ℕ
job_n = on_board 3 0 10 12 3 0 (4 ∷ 3 ∷ 2 ∷ 0 ∷ 3 ∷ 12 ∷ 2 ∷ 0 ∷ 6 ∷ 6 ∷ 2 ∷ 0 ∷ [])

-- the plate types of job N
unfoldable pub plates_n : List ℕ
plates_n =
    (10 ∷ 12 ∷ 1 ∷ 1 ∷ [])
    ++ (10 ∷ 9 ∷ 1 ∷ 0 ∷ [])
    ++ (6 ∷ 3 ∷ 2 ∷ 0 ∷ [])
    ++ (7 ∷ 12 ∷ 2 ∷ 0 ∷ [])
    ++ (10 ∷ 6 ∷ 1 ∷ 0 ∷ [])
    ++ (4 ∷ 6 ∷ 2 ∷ 0 ∷ [])
    ++ (10 ∷ 3 ∷ 1 ∷ 0 ∷ [])
    ++ (4 ∷ 9 ∷ 3 ∷ 0 ∷ [])
    ++ (3 ∷ 12 ∷ 2 ∷ 0 ∷ [])
    ++ (4 ∷ 12 ∷ 2 ∷ 0 ∷ [])
    ++ (6 ∷ 6 ∷ 3 ∷ 0 ∷ [])
    ++ (4 ∷ 3 ∷ 3 ∷ 0 ∷ [])
    ++ (4 ∷ 6 ∷ 3 ∷ 0 ∷ [])

-- the cuts of job N
unfoldable pub cuts_n : List ℕ
cuts_n = ((0 ∷ 2 ∷ 1 ∷ 2 ∷ []) ++ (0 ∷ 4 ∷ 0 ∷ 3 ∷ []) ++ (0 ∷ 6 ∷ 4 ∷ 5 ∷ []) ++ (1 ∷ 2 ∷ 4 ∷ 2 ∷ []) ++ (1 ∷ 6 ∷ 6 ∷ 5 ∷ []) ++ (2 ∷ 2 ∷ 0 ∷ 0 ∷ []) ++ (3 ∷ 2 ∷ 7 ∷ 8 ∷ []) ++ (3 ∷ 4 ∷ 0 ∷ 9 ∷ []) ++ (3 ∷ 6 ∷ 10 ∷ 0 ∷ []) ++ (4 ∷ 2 ∷ 6 ∷ 2 ∷ []) ++ (4 ∷ 6 ∷ 0 ∷ 5 ∷ []) ++ (5 ∷ 2 ∷ 11 ∷ 0 ∷ []) ++ (6 ∷ 2 ∷ 0 ∷ 2 ∷ []) ++ (7 ∷ 2 ∷ 12 ∷ 0 ∷ []) ++ (8 ∷ 4 ∷ 0 ∷ 0 ∷ []) ++ (9 ∷ 2 ∷ 7 ∷ 0 ∷ []) ++ (9 ∷ 4 ∷ 0 ∷ 0 ∷ []) ++ (10 ∷ 2 ∷ 11 ∷ 0 ∷ []) ++ (10 ∷ 6 ∷ 0 ∷ 0 ∷ []) ++ (11 ∷ 2 ∷ 0 ∷ 0 ∷ []) ++ (12 ∷ 2 ∷ 11 ∷ 0 ∷ []))

-- 3E, 9 by 5: 2 by 5, 7 by 2 and 5 by 2, one of each; its plate types and its cuts
unfoldable pub job_e : List ℕ
job_e = on_board 3 1 9 5 3 0 (2 ∷ 5 ∷ 1 ∷ 0 ∷ 7 ∷ 2 ∷ 1 ∷ 0 ∷ 5 ∷ 2 ∷ 1 ∷ 0 ∷ [])

-- the plate types of job E
unfoldable pub plates_e : List ℕ
plates_e =
    (9 ∷ 5 ∷ 1 ∷ 1 ∷ [])
    ++ (7 ∷ 5 ∷ 2 ∷ 0 ∷ [])
    ++ (9 ∷ 3 ∷ 1 ∷ 0 ∷ [])
    ++ (5 ∷ 5 ∷ 2 ∷ 0 ∷ [])
    ++ (7 ∷ 3 ∷ 3 ∷ 0 ∷ [])
    ++ (5 ∷ 3 ∷ 3 ∷ 0 ∷ [])
    ++ (2 ∷ 5 ∷ 2 ∷ 0 ∷ [])
    ++ (3 ∷ 5 ∷ 2 ∷ 0 ∷ [])

-- the cuts of job E
unfoldable pub cuts_e : List ℕ
cuts_e = ((0 ∷ 2 ∷ 0 ∷ 1 ∷ []) ++ (0 ∷ 4 ∷ 2 ∷ 0 ∷ []) ++ (0 ∷ 6 ∷ 2 ∷ 0 ∷ []) ++ (1 ∷ 2 ∷ 0 ∷ 3 ∷ []) ++ (1 ∷ 4 ∷ 4 ∷ 0 ∷ []) ++ (1 ∷ 6 ∷ 5 ∷ 6 ∷ []) ++ (2 ∷ 4 ∷ 0 ∷ 0 ∷ []) ++ (2 ∷ 6 ∷ 0 ∷ 0 ∷ []) ++ (3 ∷ 2 ∷ 0 ∷ 7 ∷ []) ++ (3 ∷ 6 ∷ 5 ∷ 0 ∷ []) ++ (4 ∷ 4 ∷ 0 ∷ 0 ∷ []) ++ (5 ∷ 6 ∷ 0 ∷ 0 ∷ []) ++ (6 ∷ 2 ∷ 0 ∷ 0 ∷ []) ++ (7 ∷ 2 ∷ 0 ∷ 0 ∷ []))

-- 3N, 7 by 5: 3 by 5, 2 by 2 and 1 by 2, one of each
unfoldable pub job_f : List ℕ
job_f = on_board 3 0 7 5 3 0 (3 ∷ 5 ∷ 1 ∷ 0 ∷ 2 ∷ 2 ∷ 1 ∷ 0 ∷ 1 ∷ 2 ∷ 1 ∷ 0 ∷ [])

-- on job F a stack of 1 by 2 and above it 2 by 2, and beside it 3 by 5
unfoldable pub lines_f : List ℕ
lines_f = ((1 ∷ 0 ∷ 1 ∷ 1 ∷ 1 ∷ 3 ∷ 0 ∷ 0 ∷ 0 ∷ []) ++ (1 ∷ 0 ∷ 1 ∷ 1 ∷ 2 ∷ 2 ∷ 0 ∷ 2 ∷ 0 ∷ []) ++ (1 ∷ 0 ∷ 1 ∷ 2 ∷ 1 ∷ 1 ∷ 2 ∷ 0 ∷ 0 ∷ []))

-- 2N, 9 by 4: types 1 and 2 both 3 by 3, type 3 of 3 by 4
unfoldable pub job_g : List ℕ
job_g = on_board 2 0 9 4 3 0 (3 ∷ 3 ∷ 1 ∷ 0 ∷ 3 ∷ 3 ∷ 1 ∷ 0 ∷ 3 ∷ 4 ∷ 1 ∷ 0 ∷ [])

-- job A's printed boards with the low item of the first strip first
unfoldable pub lines_a-low-first : List ℕ
lines_a-low-first = ((1 ∷ 0 ∷ 1 ∷ 1 ∷ 1 ∷ 2 ∷ 0 ∷ 0 ∷ 0 ∷ []) ++ (1 ∷ 0 ∷ 1 ∷ 2 ∷ 1 ∷ 1 ∷ 3 ∷ 0 ∷ 0 ∷ []) ++ (1 ∷ 0 ∷ 2 ∷ 1 ∷ 1 ∷ 2 ∷ 0 ∷ 4 ∷ 0 ∷ []) ++ (1 ∷ 0 ∷ 2 ∷ 2 ∷ 1 ∷ 2 ∷ 3 ∷ 4 ∷ 0 ∷ []) ++ (2 ∷ 0 ∷ 1 ∷ 1 ∷ 1 ∷ 1 ∷ 0 ∷ 0 ∷ 0 ∷ []))

pub record Readings : Type 0 where
  -- a two-stage right plate that takes the strip's height
  pub strip-height : listing job_c ≡ succeeds (4 ∷ 8 ∷ []) plates_c cuts_c []
  pub strip-height-plan : plan job_c (1 ∷ 0 ∷ 0 ∷ 1 ∷ 0 ∷ 0 ∷ 0 ∷ 1 ∷ []) ≡ succeeds (1 ∷ 1 ∷ []) plates_c cuts_c []
  -- counts spent plate type by plate type in rising number, before all pieces of a type exist: cut 4 is done on the type 2 that cut 1 leaves and on the one that cut 5 leaves
  pub type-by-type : unfolding' job_a (1 ∷ 1 ∷ 0 ∷ 2 ∷ 1 ∷ 0 ∷ 0 ∷ 0 ∷ []) ≡ succeeds (2 ∷ 5 ∷ 2 ∷ []) plates_a cuts_a (filled placements_size ((1 ∷ 0 ∷ 1 ∷ 1 ∷ 1 ∷ 1 ∷ 0 ∷ 0 ∷ 0 ∷ []) ++ (1 ∷ 0 ∷ 1 ∷ 2 ∷ 1 ∷ 2 ∷ 5 ∷ 0 ∷ 0 ∷ []) ++ (2 ∷ 0 ∷ 1 ∷ 1 ∷ 1 ∷ 2 ∷ 0 ∷ 0 ∷ 0 ∷ []) ++ (2 ∷ 0 ∷ 2 ∷ 1 ∷ 1 ∷ 1 ∷ 0 ∷ 3 ∷ 0 ∷ []) ++ (2 ∷ 0 ∷ 2 ∷ 2 ∷ 1 ∷ 2 ∷ 5 ∷ 3 ∷ 0 ∷ [])))
  pub type-by-type-spent : (unfolding_of job_a (1 ∷ 1 ∷ 0 ∷ 2 ∷ 1 ∷ 0 ∷ 0 ∷ 0 ∷ [])).last.counts ≡ replicate 8 0
  -- in three stages: a right plate of the item's height at stage 2, a top of the plate's width at stage 2 or 3
  pub three-stages : listing job_n ≡ succeeds (12 ∷ 21 ∷ []) plates_n cuts_n []
  -- 3E without its rule, or with one at stage 2
  pub three-exact : listing job_e ≡ succeeds (7 ∷ 14 ∷ []) plates_e cuts_e []
  -- another cut done than the lowest-numbered
  pub lowest-cut : unfolding' job_a (1 ∷ 1 ∷ 0 ∷ 0 ∷ 1 ∷ 0 ∷ 1 ∷ 1 ∷ []) ≡ succeeds (2 ∷ 5 ∷ 3 ∷ []) plates_a cuts_a (filled placements_size ((1 ∷ 0 ∷ 1 ∷ 1 ∷ 1 ∷ 1 ∷ 0 ∷ 0 ∷ 0 ∷ []) ++ (2 ∷ 0 ∷ 1 ∷ 1 ∷ 1 ∷ 2 ∷ 0 ∷ 0 ∷ 0 ∷ []) ++ (2 ∷ 0 ∷ 1 ∷ 2 ∷ 1 ∷ 2 ∷ 3 ∷ 0 ∷ 0 ∷ []) ++ (2 ∷ 0 ∷ 1 ∷ 3 ∷ 1 ∷ 2 ∷ 6 ∷ 0 ∷ 0 ∷ []) ++ (2 ∷ 0 ∷ 2 ∷ 1 ∷ 1 ∷ 1 ∷ 0 ∷ 3 ∷ 0 ∷ [])))
  -- a price rule on a residual as "at most D": cut 3, item 2 on type 1, comes to 1, which is D, and the price of type 1 is 0
  pub residual-limit : prices job_a (1 ∷ 0 ∷ 1 ∷ 0 ∷ 0 ∷ 0 ∷ 0 ∷ 0 ∷ []) ≡ refuses 14 3 []
  -- the price of a residual left out, or of one of the two
  pub both-residuals : prices job_a (2 ∷ 1 ∷ 0 ∷ 1 ∷ 1 ∷ 1 ∷ 0 ∷ 0 ∷ []) ≡ refuses 14 1 []
  -- a bound rounded down before it is compared: 3 over 2 needs two boards
  pub half-board : prices job_d (2 ∷ 1 ∷ 1 ∷ []) ≡ succeeds (3 ∷ 2 ∷ []) (9 ∷ 7 ∷ 1 ∷ 1 ∷ 5 ∷ 7 ∷ 2 ∷ 0 ∷ []) (0 ∷ 2 ∷ 0 ∷ 1 ∷ 1 ∷ 2 ∷ 0 ∷ 0 ∷ []) []
  pub not-rounded : cheapest (job_of job_d) (prices_of (job_of job_d) (2 ∷ 1 ∷ 1 ∷ [])) 2 ≡ true
  -- one board more than the bound asks is not "cheapest"
  pub bound-met : cheapest (job_of job_d) (prices_of (job_of job_d) (2 ∷ 1 ∷ 1 ∷ [])) 3 ≡ false
  -- an item without leave turned to fit the board
  pub not-turned : listing (alone 7 9) ≡ refuses 3 1 []
  -- folding that keeps a low item first
  pub by_height : folding job_a lines_a-low-first ≡ succeeds (2 ∷ 2 ∷ []) plates_a cuts_a (filled counts_size plan_a)
  -- folding that keeps a narrow item lowest, or the single item of the strip's height last
  pub by_width : (folding job_f lines_f).third ≡ filled counts_size (1 ∷ 0 ∷ 0 ∷ 0 ∷ 1 ∷ 0 ∷ 0 ∷ 0 ∷ 0 ∷ 0 ∷ 0 ∷ 0 ∷ 0 ∷ 0 ∷ 1 ∷ [])
  -- folding that does not keep the order of equally high items: type 2 before type 1
  pub equal-keep-order : (folding job_g ((1 ∷ 0 ∷ 1 ∷ 1 ∷ 1 ∷ 3 ∷ 0 ∷ 0 ∷ 0 ∷ []) ++ (1 ∷ 0 ∷ 1 ∷ 2 ∷ 1 ∷ 2 ∷ 3 ∷ 0 ∷ 0 ∷ []) ++ (1 ∷ 0 ∷ 1 ∷ 3 ∷ 1 ∷ 1 ∷ 6 ∷ 0 ∷ 0 ∷ []))).third ≡ filled counts_size (0 ∷ 0 ∷ 1 ∷ 0 ∷ 0 ∷ 0 ∷ 1 ∷ 0 ∷ 1 ∷ [])
  -- more than demanded is accepted
  pub more-than-demanded : plan (alone 3 7) (1 ∷ 1 ∷ 1 ∷ []) ≡ succeeds (1 ∷ 1 ∷ []) (9 ∷ 7 ∷ 1 ∷ 1 ∷ 6 ∷ 7 ∷ 2 ∷ 0 ∷ 3 ∷ 7 ∷ 2 ∷ 0 ∷ []) (0 ∷ 2 ∷ 0 ∷ 1 ∷ 1 ∷ 2 ∷ 0 ∷ 2 ∷ 2 ∷ 2 ∷ 0 ∷ 0 ∷ []) []
