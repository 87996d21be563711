-- Document 01, "Where each number is given": words with several faults, and which one a call names: "rows apply from the top, within a row lower numbers first,
-- each over all its places, lowest place first". `RowOrder` states the order of the rows for every input; here are inputs; each field says what it shuts out.
use Rattle.std.specs.Prelude.{◌≡◌, ℕ}
use mathlib.Core.List.{List, [], ◌∷◌, ◌++◌}
use Rattle.job.specs.Buffers.{refused}
use Rattle.plan.specs.PlanCall.{plan_answer}
use Rattle.plan.specs.PriceCall.{price_answer}
use Rattle.layouts.specs.UnfoldCall.{unfold_answer}
use Rattle.layouts.specs.FoldCall.{fold_answer}
use Rattle.cases.specs.Calls.{plates, cuts, counts, listing, plan, prices, unfolding', folding}
use Rattle.cases.specs.Jobs.{on_board, job_a, job_b, lines_a, alone}
use Rattle.cases.specs.Readings.{job_e}
use Rattle.cases.specs.Refusals.{short_plates, short_cuts, short_counts, short_placements}

-- job words with stages 4
unfoldable pub four_stages : List ℕ
four_stages = on_board 4 0 9 7 1 0 (3 ∷ 3 ∷ 1 ∷ 0 ∷ [])

-- three item types, of which 2 and 3 are larger than the board
unfoldable pub two_large : List ℕ
two_large = on_board 2 0 9 7 3 0 (3 ∷ 3 ∷ 1 ∷ 0 ∷ 3 ∷ 8 ∷ 1 ∷ 0 ∷ 10 ∷ 3 ∷ 1 ∷ 0 ∷ [])

-- the rows line, job and buffers
pub record WordFaults : Type 0 where
  -- the job's words after the price words or the layout words
  pub job-before-price-words : price_answer four_stages (0 ∷ []) plates cuts ≡ refused 2 0
  pub job-before-layout-words : fold_answer four_stages (1 ∷ []) plates cuts counts ≡ refused 2 0
  -- a price word's 2 that names the last, or counts from 0
  pub lowest-price-word : (prices job_a (1 ∷ 1 ∷ 10000 ∷ 0 ∷ 10000 ∷ 1 ∷ 0 ∷ 0 ∷ [])).answer ≡ refused 2 3
  -- 3 that names the last type, or another
  pub lowest-large : (listing two_large).answer ≡ refused 3 2
  -- buffers before the job
  pub job-before-buffers-plan : plan_answer (alone 10 7) short_counts [] [] ≡ refused 3 1
  pub job-before-buffers-unfolding : unfold_answer (alone 10 7) 1 1 [] [] [] [] [] ≡ refused 3 1
  pub job-before-buffers-folding : fold_answer (alone 10 7) [] [] [] [] ≡ refused 3 1
  -- buffer 2 before 1, 3 before 2, 4 before 3, or 5 before 4
  pub plates-first-plan : plan_answer job_a short_counts short_plates short_cuts ≡ refused 5 1
  pub cuts-second-plan : plan_answer job_a short_counts plates short_cuts ≡ refused 5 2
  pub plates-first-prices : price_answer job_a [] short_plates short_cuts ≡ refused 5 1
  pub plates-first-unfolding : unfold_answer job_a 1 1 short_counts short_plates short_cuts short_placements [] ≡ refused 5 1
  pub cuts-second-unfolding : unfold_answer job_a 1 1 short_counts plates short_cuts short_placements [] ≡ refused 5 2
  pub counts-third-unfolding : unfold_answer job_a 1 1 short_counts plates cuts short_placements [] ≡ refused 5 3
  pub placements-fourth-unfolding : unfold_answer job_a 1 1 counts plates cuts short_placements [] ≡ refused 5 4
  pub plates-first-folding : fold_answer job_a lines_a short_plates short_cuts short_counts ≡ refused 5 1
  pub cuts-second-folding : fold_answer job_a lines_a plates short_cuts short_counts ≡ refused 5 2

-- the rows plan and prices
pub record PlanFaults : Type 0 where
  -- 10 before 8, of the unfolding; the plan test's is in `Refusals`
  pub past-last-unfolding : (unfolding' job_a (4001 ∷ 0 ∷ 0 ∷ 0 ∷ 0 ∷ 0 ∷ 0 ∷ 0 ∷ 0 ∷ 1 ∷ [])).answer ≡ refused 8 10
  -- 12 that names the last plate type: types 2 and 4 are overdrawn
  pub lowest-overdrawn : (plan job_a (2 ∷ 0 ∷ 0 ∷ 3 ∷ 0 ∷ 0 ∷ 1 ∷ 0 ∷ [])).answer ≡ refused 12 2
  -- 14 before 13: of two words D is 1 and the price of item 1 is 2
  pub size-before-cut-over : price_answer job_a (1 ∷ 2 ∷ []) plates cuts ≡ refused 13 0

-- on job A two items of 3 by 3 in one stack, which two stages do not allow, and a line past them that leaves strip 2 out
unfoldable pub stack_then_turn : List ℕ
stack_then_turn = (1 ∷ 0 ∷ 1 ∷ 1 ∷ 1 ∷ 2 ∷ 0 ∷ 0 ∷ 0 ∷ []) ++ (1 ∷ 0 ∷ 1 ∷ 1 ∷ 2 ∷ 2 ∷ 0 ∷ 3 ∷ 0 ∷ []) ++ (1 ∷ 0 ∷ 3 ∷ 1 ∷ 1 ∷ 2 ∷ 0 ∷ 6 ∷ 0 ∷ [])

-- on job B a full board, its second stack of two items, and a strip above it
unfoldable pub strip_too_high : List ℕ
strip_too_high =
    (1 ∷ 0 ∷ 1 ∷ 1 ∷ 1 ∷ 1 ∷ 0 ∷ 0 ∷ 0 ∷ [])
    ++ (1 ∷ 0 ∷ 1 ∷ 2 ∷ 1 ∷ 2 ∷ 3 ∷ 0 ∷ 0 ∷ [])
    ++ (1 ∷ 0 ∷ 1 ∷ 2 ∷ 2 ∷ 2 ∷ 3 ∷ 2 ∷ 0 ∷ [])
    ++ (1 ∷ 0 ∷ 2 ∷ 1 ∷ 1 ∷ 2 ∷ 0 ∷ 5 ∷ 0 ∷ [])

-- on job A a first board too high by its second strip, and a second board too wide
unfoldable pub high_then_wide : List ℕ
high_then_wide =
    (1 ∷ 0 ∷ 1 ∷ 1 ∷ 1 ∷ 1 ∷ 0 ∷ 0 ∷ 0 ∷ [])
    ++ (1 ∷ 0 ∷ 2 ∷ 1 ∷ 1 ∷ 1 ∷ 0 ∷ 4 ∷ 0 ∷ [])
    ++ (2 ∷ 0 ∷ 1 ∷ 1 ∷ 1 ∷ 1 ∷ 0 ∷ 0 ∷ 0 ∷ [])
    ++ (2 ∷ 0 ∷ 1 ∷ 2 ∷ 1 ∷ 1 ∷ 5 ∷ 0 ∷ 0 ∷ [])

-- on job A two boards, each a stack of two items
unfoldable pub two_stacks : List ℕ
two_stacks =
    (1 ∷ 0 ∷ 1 ∷ 1 ∷ 1 ∷ 2 ∷ 0 ∷ 0 ∷ 0 ∷ [])
    ++ (1 ∷ 0 ∷ 2 ∷ 1 ∷ 1 ∷ 2 ∷ 0 ∷ 3 ∷ 0 ∷ [])
    ++ (1 ∷ 0 ∷ 2 ∷ 1 ∷ 2 ∷ 2 ∷ 0 ∷ 6 ∷ 0 ∷ [])
    ++ (2 ∷ 0 ∷ 1 ∷ 1 ∷ 1 ∷ 2 ∷ 0 ∷ 0 ∷ 0 ∷ [])
    ++ (2 ∷ 0 ∷ 1 ∷ 1 ∷ 2 ∷ 2 ∷ 0 ∷ 3 ∷ 0 ∷ [])

-- the first line of job A's boards, and one line more, of item type 2
unfoldable pub second_line : ℕ → ℕ → ℕ → ℕ → List ℕ
second_line b s k p = (1 ∷ 0 ∷ 1 ∷ 1 ∷ 1 ∷ 1 ∷ 0 ∷ 0 ∷ 0 ∷ []) ++ (b ∷ 0 ∷ s ∷ k ∷ p ∷ 2 ∷ 0 ∷ 0 ∷ 0 ∷ [])

-- the row layouts
pub record LayoutFaults : Type 0 where
  -- 16 before 15
  pub turn-before-stage : (folding job_a stack_then_turn).answer ≡ refused 15 3
  -- a first line that is the second place, stack, strip or board
  pub first-place : (folding job_a (1 ∷ 0 ∷ 1 ∷ 1 ∷ 2 ∷ 1 ∷ 0 ∷ 0 ∷ 0 ∷ [])).answer ≡ refused 15 1
  pub first-strip : (folding job_a (1 ∷ 0 ∷ 2 ∷ 1 ∷ 1 ∷ 1 ∷ 0 ∷ 0 ∷ 0 ∷ [])).answer ≡ refused 15 1
  pub first-board : (folding job_a (2 ∷ 0 ∷ 1 ∷ 1 ∷ 1 ∷ 1 ∷ 0 ∷ 0 ∷ 0 ∷ [])).answer ≡ refused 15 1
  -- a line that is the same again, or leaves one out
  pub same_turn : (folding job_a (second_line 1 1 1 1)).answer ≡ refused 15 2
  pub place-left-out : (folding job_a (second_line 1 1 1 3)).answer ≡ refused 15 2
  pub stack-left-out : (folding job_a (second_line 1 1 3 1)).answer ≡ refused 15 2
  pub strip-left-out : (folding job_a (second_line 1 3 1 1)).answer ≡ refused 15 2
  pub board-left-out : (folding job_a (second_line 3 1 1 1)).answer ≡ refused 15 2
  -- a stack that does not begin with place 1
  pub stack-from-two : (folding job_a (second_line 1 1 2 2)).answer ≡ refused 15 2
  -- a strip that does not begin with stack 1 and place 1
  pub strip-stack-two : (folding job_a (second_line 1 2 2 1)).answer ≡ refused 15 2
  pub strip-place-two : (folding job_a (second_line 1 2 1 2)).answer ≡ refused 15 2
  -- a board that does not begin with strip 1, stack 1 and place 1
  pub board-strip-two : (folding job_a (second_line 2 2 1 1)).answer ≡ refused 15 2
  pub board-stack-two : (folding job_a (second_line 2 1 2 1)).answer ≡ refused 15 2
  pub board-place-two : (folding job_a (second_line 2 1 1 2)).answer ≡ refused 15 2
  -- 16 that names a line within its strip, or the last such strip
  pub lowest-stage : (folding job_a two_stacks).answer ≡ refused 16 2
  -- 17 that names a line within its strip, or counts strips for lines
  pub past-after-stacks : (folding job_b strip_too_high).answer ≡ refused 17 4
  -- 17 of a strip too wide before 17 of one too high, where the other is lower
  pub lowest-past : (folding job_a high_then_wide).answer ≡ refused 17 2
  -- 18 that names the last line
  pub lowest-position :
      (folding job_a ((1 ∷ 0 ∷ 1 ∷ 1 ∷ 1 ∷ 1 ∷ 0 ∷ 0 ∷ 0 ∷ []) ++ (1 ∷ 0 ∷ 1 ∷ 2 ∷ 1 ∷ 2 ∷ 4 ∷ 0 ∷ 0 ∷ []) ++ (2 ∷ 0 ∷ 1 ∷ 1 ∷ 1 ∷ 1 ∷ 0 ∷ 1 ∷ 0 ∷ []))).answer
      ≡ refused 18 2
  -- 3E without its rule: a stack of 7 by 2 and above it 5 by 2
  pub widths-in-stack :
      (folding job_e ((1 ∷ 0 ∷ 1 ∷ 1 ∷ 1 ∷ 1 ∷ 0 ∷ 0 ∷ 0 ∷ []) ++ (1 ∷ 0 ∷ 1 ∷ 2 ∷ 1 ∷ 2 ∷ 2 ∷ 0 ∷ 0 ∷ []) ++ (1 ∷ 0 ∷ 1 ∷ 2 ∷ 2 ∷ 3 ∷ 2 ∷ 2 ∷ 0 ∷ []))).answer
      ≡ refused 16 1
