-- Document 02, request Two: offcuts, the two set lengths and the area balance, at the level of the call; each field says what it shows or shuts out.
use Rattle.std.specs.Prelude.{ℕ, ◌+◌, ◌-◌, ◌≡◌, replicate}
use mathlib.Core.List.{List, [], ◌∷◌, ◌++◌}
use Rattle.std.proofs.Math.ListN.{length}
use Rattle.job.specs.Sizes.{max_pieces, max_offcuts, offcuts_size, counts_size}
use Rattle.job.specs.Buffers.{Answer, given, refused, filled}
use Rattle.job.specs.Job.{job_of}
use Rattle.listing.specs.Listing.{listing_of}
use Rattle.layouts.specs.Unfold.{unfolded}
use Rattle.layouts.specs.Offcuts.{events_of, cuts_on, offcuts_of}
use Rattle.layouts.specs.Balance.{items_on, offcuts_on, waste_by, swath_by}
use Rattle.layouts.specs.UnfoldCall.{unfold_verdict, unfold_answer, offcuts_end}
use Rattle.cases.specs.Calls.{plates, cuts, placements, offcuts}
use Rattle.cases.specs.Jobs.{on_board, job_a, plan_a, job_b, plan_b, job_t, alone}
use Rattle.cases.specs.Readings.{job_c}
use Rattle.cases.specs.Turned.{plan_t}

-- what the unfolding call answers for two lengths, and its fifth buffer when it ends
pub record LeftOver : Type 0 where
  pub answer : Answer
  pub offcuts : List ℕ

unfoldable pub left_over : ℕ → ℕ → List ℕ → List ℕ → LeftOver
left_over first second ws ns =
    let ms = filled counts_size ns in
    let v = unfold_verdict ws first second ms plates cuts placements offcuts in
    record {
      answer = unfold_answer ws first second ms plates cuts placements offcuts;
      offcuts = offcuts_end v ws first second ms offcuts;
    }

-- a call that succeeds with these offcuts, one that is refused and leaves zeros
unfoldable pub shelves : List ℕ → List ℕ → LeftOver
shelves results os = record { answer = given results; offcuts = filled offcuts_size os }

unfoldable pub shelves_none : ℕ → ℕ → LeftOver
shelves_none number place = record { answer = refused number place; offcuts = replicate offcuts_size 0 }

-- one word less than the offcuts' full size
unfoldable pub short_offcuts : List ℕ
short_offcuts = replicate (offcuts_size - 1) 7

-- job A's three offcuts, each with its sixth word
unfoldable pub offcuts_a : ℕ → ℕ → ℕ → List ℕ
offcuts_a a b c = (1 ∷ 6 ∷ 4 ∷ 3 ∷ 3 ∷ a ∷ []) ++ (2 ∷ 5 ∷ 0 ∷ 4 ∷ 4 ∷ b ∷ []) ++ (2 ∷ 0 ∷ 4 ∷ 9 ∷ 3 ∷ c ∷ [])

-- job A with no demand of type 1, and with item 1 of width 10
unfoldable pub no_demand : List ℕ
no_demand = on_board 2 0 9 7 2 0 (5 ∷ 4 ∷ 0 ∷ 0 ∷ 3 ∷ 3 ∷ 3 ∷ 0 ∷ [])

unfoldable pub wide_item : List ℕ
wide_item = on_board 2 0 9 7 2 0 (10 ∷ 4 ∷ 2 ∷ 0 ∷ 3 ∷ 3 ∷ 3 ∷ 0 ∷ [])

-- 3N, 6 by 6: 2 by 4 and 2 by 2, once each; a plan that leaves a piece of each stage over
unfoldable pub each_stage : List ℕ
each_stage = on_board 3 0 6 6 2 0 (2 ∷ 4 ∷ 1 ∷ 0 ∷ 2 ∷ 2 ∷ 1 ∷ 0 ∷ [])

-- 3N, 6 by 6: 3 by 6, 3 by 2 and 2 by 2, once each; a plan of one strip, its second stack of 3 by 2 and above it 2 by 2
unfoldable pub narrow_above : List ℕ
narrow_above = on_board 3 0 6 6 3 0 (3 ∷ 6 ∷ 1 ∷ 0 ∷ 3 ∷ 2 ∷ 1 ∷ 0 ∷ 2 ∷ 2 ∷ 1 ∷ 0 ∷ [])

unfoldable pub narrow_plan : List ℕ
narrow_plan = (1 ∷ 0 ∷ 0 ∷ 0 ∷ 1 ∷ []) ++ replicate 8 0 ++ (1 ∷ []) ++ replicate 7 0

-- 2N, 2 by 2, 1 by 1 some times, and the plan that opens a board for each
unfoldable pub ones : ℕ → List ℕ
ones n = on_board 2 0 2 2 1 0 (1 ∷ 1 ∷ n ∷ 0 ∷ [])

unfoldable pub apart : ℕ → List ℕ
apart n = n ∷ 0 ∷ 0 ∷ []

-- the areas of a board of a plan: items, offcuts, waste, and the blade's swath (request Four)
unfoldable pub areas : ℕ → List ℕ → List ℕ → List ℕ
areas b ws ns =
    let job = job_of ws in
    let l = listing_of job in
    let ks = cuts_on b (events_of job l ns) in
    items_on job b (unfolded job l ns).placements ∷ offcuts_on b (offcuts_of job l ns) ∷ waste_by job l ks ∷ swath_by job l ks ∷ []

-- "A piece left over in unfolding is listed as board, x, y, width, height and a 1 if usable"
pub record Shelved : Type 0 where
  -- job A's plan with lengths 4 and 3: "unfolding also gives their number"; the order in which pieces wait, or the top of a board before the right of its strip
  pub listed : left_over 4 3 job_a plan_a ≡ shelves (2 ∷ 5 ∷ 3 ∷ []) (offcuts_a 0 1 1)
  -- the order of stages reversed: of stage 3, then 2, then 1
  pub highest-first :
      left_over 1 1 each_stage (1 ∷ 0 ∷ 0 ∷ 0 ∷ 1 ∷ [])
      ≡ shelves (1 ∷ 2 ∷ 3 ∷ []) ((1 ∷ 2 ∷ 2 ∷ 2 ∷ 2 ∷ 1 ∷ []) ++ (1 ∷ 4 ∷ 0 ∷ 2 ∷ 4 ∷ 1 ∷ []) ++ (1 ∷ 0 ∷ 4 ∷ 6 ∷ 2 ∷ 1 ∷ []))
  -- a piece as high as its strip, 4, for its plate type's 3
  pub plate-height :
      left_over 1 1 job_c (2 ∷ 0 ∷ 0 ∷ 2 ∷ [])
      ≡ shelves (2 ∷ 4 ∷ 2 ∷ []) ((1 ∷ 6 ∷ 0 ∷ 3 ∷ 3 ∷ 1 ∷ []) ++ (2 ∷ 6 ∷ 0 ∷ 3 ∷ 3 ∷ 1 ∷ []))
  -- a piece as wide as its stack, 3, for its plate type's 2
  pub plate-width : left_over 1 1 narrow_above narrow_plan ≡ shelves (1 ∷ 3 ∷ 1 ∷ []) (1 ∷ 3 ∷ 4 ∷ 2 ∷ 2 ∷ 1 ∷ [])
  -- "reaches" as above: a width and a height of just these lengths, and of one less
  pub reaches : left_over 4 4 job_a plan_a ≡ shelves (2 ∷ 5 ∷ 3 ∷ []) (offcuts_a 0 1 0)
  pub width-short : left_over 5 3 job_a plan_a ≡ shelves (2 ∷ 5 ∷ 3 ∷ []) (offcuts_a 0 0 1)
  pub height-short : left_over 3 5 job_a plan_a ≡ shelves (2 ∷ 5 ∷ 3 ∷ []) (offcuts_a 0 0 0)
  -- the lengths swapped, or the longer side against the longer length
  pub first-is-width : left_over 9 3 job_a plan_a ≡ shelves (2 ∷ 5 ∷ 3 ∷ []) (offcuts_a 0 0 1)
  pub not-swapped : left_over 3 9 job_a plan_a ≡ shelves (2 ∷ 5 ∷ 3 ∷ []) (offcuts_a 0 0 0)
  -- an offcut turned, since types have leave to be turned
  pub not-turned : left_over 4 9 job_t plan_t ≡ shelves (2 ∷ 5 ∷ 1 ∷ []) (2 ∷ 0 ∷ 3 ∷ 9 ∷ 4 ∷ 0 ∷ [])
  -- nothing left over
  pub none : left_over 1 1 job_b plan_b ≡ shelves (1 ∷ 3 ∷ 0 ∷ []) []
  -- as many offcuts as boards and cuts together; a fifth buffer that is shorter: 4,000 boards leave as many as it has room for
  pub most : length (offcuts_of (job_of (ones 3)) (listing_of (job_of (ones 3))) (apart 3)) ≡ 3 + 3
  pub reached : length (offcuts_of (job_of (ones max_pieces)) (listing_of (job_of (ones max_pieces))) (apart max_pieces)) ≡ max_offcuts

-- "two set lengths (1 to 10,000; else 2, place 0 ..)", and refusal 5
pub record Lengths : Type 0 where
  -- limits of 0, 2, 9,999 or 10,001
  pub least : left_over 1 1 job_a plan_a ≡ shelves (2 ∷ 5 ∷ 3 ∷ []) (offcuts_a 1 1 1)
  pub greatest : left_over 10000 10000 job_a plan_a ≡ shelves (2 ∷ 5 ∷ 3 ∷ []) (offcuts_a 0 0 0)
  pub first-none : left_over 0 3 job_a plan_a ≡ shelves_none 2 0
  pub second_none : left_over 4 0 job_a plan_a ≡ shelves_none 2 0
  pub first_past : left_over 10001 3 job_a plan_a ≡ shelves_none 2 0
  pub second_past : left_over 4 10001 job_a plan_a ≡ shelves_none 2 0
  -- place 0 of the lengths before the type of the job's words
  pub job-first : left_over 0 3 no_demand plan_a ≡ shelves_none 2 1
  pub job-length-first : left_over 0 3 [] plan_a ≡ shelves_none 1 0
  -- the lengths after the job row, or after the buffers
  pub before-job-row : left_over 0 3 wide_item plan_a ≡ shelves_none 2 0
  pub before-buffers : unfold_answer job_a 0 3 [] [] [] [] [] ≡ refused 2 0
  -- after 5 the offcuts are as they were, after another refusal they are 0
  pub unchanged : offcuts_end (unfold_verdict job_a 4 3 (filled counts_size plan_a) plates cuts placements short_offcuts) job_a 4 3 (filled counts_size plan_a) short_offcuts ≡ short_offcuts
  pub cleared : left_over 4 3 (alone 10 7) (1 ∷ []) ≡ shelves_none 3 1

-- "for every accepted plan and every board, item areas, offcuts and waste make W×H"; with a blade of 0 the swath is 0
pub record Balances : Type 0 where
  -- job A: 63 each. A trim of wi×(h−hi), the strips' height for an offcut, a residual that is kept as waste, or one that is not as none
  pub first-board : areas 1 job_a plan_a ≡ (47 ∷ 9 ∷ 7 ∷ 0 ∷ [])
  pub second-board : areas 2 job_a plan_a ≡ (20 ∷ 43 ∷ 0 ∷ 0 ∷ [])
  -- job C: 36 each, the trim above the low item w×(h−hi), 6 by 1
  pub above_low : areas 1 job_c (2 ∷ 0 ∷ 0 ∷ 2 ∷ []) ≡ (21 ∷ 9 ∷ 6 ∷ 0 ∷ [])
  -- at stage 3 (w−wi)×h, 1 by 4
  pub beside-narrow : areas 1 narrow_above narrow_plan ≡ (28 ∷ 4 ∷ 4 ∷ 0 ∷ [])
  -- turned sides: 4 by 5 and 5 by 4
  pub turned : areas 1 job_t plan_t ≡ (40 ∷ 0 ∷ 23 ∷ 0 ∷ [])
