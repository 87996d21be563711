-- Document 02, request Four: the blade, at the level of the calls; each field says what it shows or shuts out.
use Rattle.std.specs.Prelude.{ℕ, ◌+◌, ◌≡◌, true, false, List, [], ◌∷◌, ◌++◌, replicate}
use Rattle.job.specs.Lists.{all, sum_of, gap_sum}
use Rattle.job.specs.Buffers.{given, refused, filled, counts_size, placements_size}
use Rattle.job.specs.Job.{job_of}
use Rattle.layouts.specs.Layout.{layout_rules}
use Rattle.layouts.specs.Placement.{opened, placement_of, placement_words, lines_of}
use Rattle.layouts.specs.Rectangle.{inside, all_apart}
use Rattle.layouts.specs.Lines.{rows_of, set_of}
use Rattle.cases.specs.Calls.{listing, unfolding', folding, succeeds, refuses}
use Rattle.cases.specs.Jobs.{on_board, sheets, items_a, plates_a, cuts_a, items_t}

-- job A with a blade of b, and job T
unfoldable pub blade_a : ℕ → List ℕ
blade_a b = on_board 2 0 9 7 2 b items_a

unfoldable pub blade_t : ℕ → List ℕ
blade_t b = on_board 2 0 9 7 2 b items_t

-- 2N, a board of w by h, a blade of b, and one item of wi by hi, demanded once
unfoldable pub one_item : ℕ → ℕ → ℕ → ℕ → ℕ → List ℕ
one_item w h b wi hi = on_board 2 0 w h 1 b (wi ∷ hi ∷ 1 ∷ 0 ∷ [])

-- 3N, 10 by 10, a blade of 2: an item of 4 by h once, one of 4 by 4 twice
unfoldable pub stacks : ℕ → List ℕ
stacks h = on_board 3 0 10 10 2 2 (4 ∷ h ∷ 1 ∷ 0 ∷ 4 ∷ 4 ∷ 2 ∷ 0 ∷ [])

-- its plate types and cuts where h is 10
unfoldable pub plates_s : List ℕ
plates_s =
    (10 ∷ 10 ∷ 1 ∷ 1 ∷ [])
    ++ (4 ∷ 10 ∷ 2 ∷ 0 ∷ [])
    ++ (10 ∷ 4 ∷ 1 ∷ 0 ∷ [])
    ++ (4 ∷ 4 ∷ 2 ∷ 0 ∷ [])
    ++ (4 ∷ 4 ∷ 3 ∷ 0 ∷ [])

unfoldable pub cuts_s : List ℕ
cuts_s =
    (0 ∷ 2 ∷ 0 ∷ 1 ∷ [])
    ++ (0 ∷ 4 ∷ 2 ∷ 3 ∷ [])
    ++ (1 ∷ 2 ∷ 0 ∷ 0 ∷ [])
    ++ (1 ∷ 4 ∷ 4 ∷ 0 ∷ [])
    ++ (2 ∷ 4 ∷ 0 ∷ 3 ∷ [])
    ++ (3 ∷ 4 ∷ 0 ∷ 0 ∷ [])
    ++ (4 ∷ 4 ∷ 0 ∷ 0 ∷ [])

-- a board of it: the first item, beside it the second twice in a stack, the upper one at y; and the stack first
unfoldable pub lines_s : ℕ → List ℕ
lines_s y = (1 ∷ 0 ∷ 1 ∷ 1 ∷ 1 ∷ 1 ∷ 0 ∷ 0 ∷ 0 ∷ []) ++ (1 ∷ 0 ∷ 1 ∷ 2 ∷ 1 ∷ 2 ∷ 6 ∷ 0 ∷ 0 ∷ []) ++ (1 ∷ 0 ∷ 1 ∷ 2 ∷ 2 ∷ 2 ∷ 6 ∷ y ∷ 0 ∷ [])

unfoldable pub lines_s-stack-first : List ℕ
lines_s-stack-first = (1 ∷ 0 ∷ 1 ∷ 1 ∷ 1 ∷ 2 ∷ 0 ∷ 0 ∷ 0 ∷ []) ++ (1 ∷ 0 ∷ 1 ∷ 1 ∷ 2 ∷ 2 ∷ 0 ∷ 6 ∷ 0 ∷ []) ++ (1 ∷ 0 ∷ 1 ∷ 2 ∷ 1 ∷ 1 ∷ 6 ∷ 0 ∷ 0 ∷ [])

unfoldable pub plan_s : List ℕ
plan_s = 1 ∷ 0 ∷ 0 ∷ 1 ∷ 0 ∷ 0 ∷ 1 ∷ []

-- 3N, 5 by 9, a blade of 1: 2 by 9 once, 2 by 1 three times; at stage 3 five heights, each less by 2
unfoldable pub deep_stack : List ℕ
deep_stack = on_board 3 0 5 9 2 1 (2 ∷ 9 ∷ 1 ∷ 0 ∷ 2 ∷ 1 ∷ 3 ∷ 0 ∷ [])

-- 2N, 20 by 10, a blade of 2: 8 by 9 and 8 by h, once each, side by side
unfoldable pub low_beside : ℕ → List ℕ
low_beside h = on_board 2 0 20 10 2 2 (8 ∷ 9 ∷ 1 ∷ 0 ∷ 8 ∷ h ∷ 1 ∷ 0 ∷ [])

-- 3N, 10 by 10, a blade of 2: 4 by 10, 4 by 4 and 3 by 4, once each, the last above the second
unfoldable pub narrow_over : List ℕ
narrow_over = on_board 3 0 10 10 3 2 (4 ∷ 10 ∷ 1 ∷ 0 ∷ 4 ∷ 4 ∷ 1 ∷ 0 ∷ 3 ∷ 4 ∷ 1 ∷ 0 ∷ [])

-- 3N, 7 by 8, a blade of 1: 3 by 8, 3 by 2 and 2 by 2, once each; a plan of one strip, its second stack of 3 by 2 and above it 2 by 2
unfoldable pub trim_beside : List ℕ
trim_beside = on_board 3 0 7 8 3 1 (3 ∷ 8 ∷ 1 ∷ 0 ∷ 3 ∷ 2 ∷ 1 ∷ 0 ∷ 2 ∷ 2 ∷ 1 ∷ 0 ∷ [])

unfoldable pub trim_plan : List ℕ
trim_plan = (1 ∷ 0 ∷ 0 ∷ 0 ∷ 1 ∷ []) ++ replicate 8 0 ++ (1 ∷ []) ++ replicate 6 0

-- the blade is set "in the job, b from 0 to 20 mm"
pub record BladeLimits : Type 0 where
  -- a greatest blade of 19, or of 21; its place is 0, and comes before that of a type
  pub greatest : listing (one_item 10 10 20 9 9) ≡ succeeds (0 ∷ 1 ∷ []) (10 ∷ 10 ∷ 1 ∷ 1 ∷ []) (0 ∷ 2 ∷ 0 ∷ 0 ∷ []) []
  pub past : listing (one_item 10 10 21 9 9) ≡ refuses 2 0 []
  pub past-before-type : (listing (one_item 10 10 21 0 9)).answer ≡ refused 2 0
  pub type-after : (listing (one_item 10 10 20 0 9)).answer ≡ refused 2 1
  -- words without a blade
  pub no-blade : (listing (2 ∷ 0 ∷ 1 ∷ 1 ∷ 10 ∷ 10 ∷ 1 ∷ 9 ∷ 9 ∷ 1 ∷ 0 ∷ [])).answer ≡ refused 1 0
  -- a blade that stands last: W is taken for it, and 0 for the item's demand
  pub before-types : (listing (2 ∷ 0 ∷ 1 ∷ 1 ∷ 10 ∷ 10 ∷ 1 ∷ 9 ∷ 9 ∷ 1 ∷ 0 ∷ 3 ∷ [])).answer ≡ refused 2 1
  -- a length by the fifth word, which is the blade, for the fourth, which is n
  pub length-by-types : (listing (on_board 2 0 10 10 2 1 (9 ∷ 9 ∷ 1 ∷ 0 ∷ []))).answer ≡ refused 1 0

-- "A residual side is what remains minus b, and there is no residual where b or less remains. Admission is as before"
pub record BladeCuts : Type 0 where
  -- a blade off both sides of a residual, off neither, or off one of the two alone: job A with blades of 0 to 4
  pub wide-0 : listing (blade_a 0) ≡ succeeds (5 ∷ 8 ∷ []) plates_a cuts_a []
  pub wide-1 :
      listing (blade_a 1)
      ≡ succeeds (3 ∷ 5 ∷ []) ((9 ∷ 7 ∷ 1 ∷ 1 ∷ []) ++ (3 ∷ 4 ∷ 2 ∷ 0 ∷ []) ++ (9 ∷ 3 ∷ 1 ∷ 0 ∷ []) ++ (5 ∷ 3 ∷ 2 ∷ 0 ∷ []))
      ((0 ∷ 2 ∷ 0 ∷ 1 ∷ []) ++ (0 ∷ 4 ∷ 2 ∷ 3 ∷ []) ++ (1 ∷ 4 ∷ 0 ∷ 0 ∷ []) ++ (2 ∷ 4 ∷ 0 ∷ 3 ∷ []) ++ (3 ∷ 4 ∷ 0 ∷ 0 ∷ []))
      []
  pub wide-2 :
      listing (blade_a 2)
      ≡ succeeds (1 ∷ 3 ∷ []) ((9 ∷ 7 ∷ 1 ∷ 1 ∷ []) ++ (4 ∷ 3 ∷ 2 ∷ 0 ∷ [])) ((0 ∷ 2 ∷ 0 ∷ 0 ∷ []) ++ (0 ∷ 4 ∷ 0 ∷ 1 ∷ []) ++ (1 ∷ 4 ∷ 0 ∷ 0 ∷ [])) []
  pub wide-3 :
      listing (blade_a 3)
      ≡ succeeds (1 ∷ 3 ∷ []) ((9 ∷ 7 ∷ 1 ∷ 1 ∷ []) ++ (3 ∷ 3 ∷ 2 ∷ 0 ∷ [])) ((0 ∷ 2 ∷ 0 ∷ 0 ∷ []) ++ (0 ∷ 4 ∷ 0 ∷ 1 ∷ []) ++ (1 ∷ 4 ∷ 0 ∷ 0 ∷ [])) []
  pub wide-4 : listing (blade_a 4) ≡ succeeds (0 ∷ 2 ∷ []) (9 ∷ 7 ∷ 1 ∷ 1 ∷ []) ((0 ∷ 2 ∷ 0 ∷ 0 ∷ []) ++ (0 ∷ 4 ∷ 0 ∷ 0 ∷ [])) []
  -- above every side of the board: each item is cut from it, and nothing is left
  pub above-every-side : listing (blade_a 20) ≡ succeeds (0 ∷ 2 ∷ []) (9 ∷ 7 ∷ 1 ∷ 1 ∷ []) ((0 ∷ 2 ∷ 0 ∷ 0 ∷ []) ++ (0 ∷ 4 ∷ 0 ∷ 0 ∷ [])) []
  -- in three stages: at stage 2 the top has the item's width and the right the plate's height; at stage 3 the top is less by the blade
  pub three-stages : listing (stacks 10) ≡ succeeds (4 ∷ 7 ∷ []) plates_s cuts_s []
  pub stage-three : (listing deep_stack).answer ≡ given (10 ∷ 13 ∷ [])
  -- turned: what remains beside the turned sides, 4 by 5
  pub turned : (listing (blade_t 1)).answer ≡ given (4 ∷ 8 ∷ [])
  -- just the blade remains, across or upwards, or one less, which is no wrapped word: none; one more: 1
  pub equal-across : (listing (one_item 5 1 4 1 1)).answer ≡ given (0 ∷ 1 ∷ [])
  pub equal-upwards : (listing (one_item 1 5 4 1 1)).answer ≡ given (0 ∷ 1 ∷ [])
  pub less-across : (listing (one_item 4 1 4 1 1)).answer ≡ given (0 ∷ 1 ∷ [])
  pub less-upwards : (listing (one_item 1 4 4 1 1)).answer ≡ given (0 ∷ 1 ∷ [])
  pub more-across : (listing (one_item 6 1 4 1 1)).answer ≡ given (1 ∷ 2 ∷ [])
  pub more-upwards : (listing (one_item 1 6 4 1 1)).answer ≡ given (1 ∷ 2 ∷ [])
  -- an item that leaves less than the blade, or nothing, that is not admitted or not cut
  pub less-than-blade : listing (one_item 10 10 3 8 9) ≡ succeeds (0 ∷ 1 ∷ []) (10 ∷ 10 ∷ 1 ∷ 1 ∷ []) (0 ∷ 2 ∷ 0 ∷ 0 ∷ []) []
  pub whole-board : listing (one_item 10 10 3 10 10) ≡ succeeds (0 ∷ 1 ∷ []) (10 ∷ 10 ∷ 1 ∷ 1 ∷ []) (0 ∷ 2 ∷ 0 ∷ 0 ∷ []) []
  -- 5 + 1 + 5 is 11: two on 11, one on 10
  pub two-beside : (listing (one_item 11 5 1 5 4)).answer ≡ given (1 ∷ 2 ∷ [])
  pub one-alone : listing (one_item 10 5 1 5 4) ≡ succeeds (0 ∷ 1 ∷ []) (10 ∷ 5 ∷ 1 ∷ 1 ∷ []) (0 ∷ 2 ∷ 0 ∷ 0 ∷ []) []

-- what a sum with gaps between neighbours is, of any values
pub record Gaps : Type 0 where
  -- a gap where there are no neighbours, or after the last
  pub none : (gap : ℕ) (f : ℕ → ℕ) → gap_sum gap f [] ≡ 0
  pub one : (gap : ℕ) (f : ℕ → ℕ) (a : ℕ) → gap_sum gap f (a ∷ []) ≡ f a
  pub more : (gap : ℕ) (f : ℕ → ℕ) (a b : ℕ) (l : List ℕ) → gap_sum gap f (a ∷ b ∷ l) ≡ f a + gap + gap_sum gap f (b ∷ l)
  -- "With b = 0 document 01's cases hold": without a gap it is document 01's sum
  pub without : (f : ℕ → ℕ) (l : List ℕ) → gap_sum 0 f l ≡ sum_of f l

-- "Layouts need b between neighbours in strips, stacks and strip order; these gaps count in a stack's height and in the sums against W and H, and positions
-- move accordingly"
pub record BladeLayouts : Type 0 where
  -- the second item past the blade, at x 6, and nothing left over
  pub beside :
      unfolding' (one_item 11 5 1 5 4) (1 ∷ 1 ∷ [])
      ≡ succeeds (1 ∷ 2 ∷ 0 ∷ []) (11 ∷ 5 ∷ 1 ∷ 1 ∷ 5 ∷ 4 ∷ 2 ∷ 0 ∷ []) (0 ∷ 2 ∷ 0 ∷ 1 ∷ 1 ∷ 2 ∷ 0 ∷ 0 ∷ [])
      (filled placements_size ((1 ∷ 0 ∷ 1 ∷ 1 ∷ 1 ∷ 1 ∷ 0 ∷ 0 ∷ 0 ∷ []) ++ (1 ∷ 0 ∷ 1 ∷ 2 ∷ 1 ∷ 1 ∷ 6 ∷ 0 ∷ 0 ∷ [])))
  -- a stack as high as its items and the gap, 4 + 2 + 4: folded, and laid out again
  pub stacked : folding (stacks 10) (lines_s 6) ≡ succeeds (1 ∷ 1 ∷ []) plates_s cuts_s (filled counts_size plan_s)
  pub stacked-back : unfolding' (stacks 10) plan_s ≡ succeeds (1 ∷ 3 ∷ 0 ∷ []) plates_s cuts_s (filled placements_size (lines_s 6))
  -- a stack that is wider by its gaps: the next one begins at 4 + 2
  pub stack-width : folding (stacks 10) lines_s-stack-first ≡ succeeds (1 ∷ 1 ∷ []) plates_s cuts_s (filled counts_size plan_s)
  -- 18: a wider gap than the blade that is let pass, a narrower one, or none
  pub wider-gap : folding (stacks 10) (lines_s 7) ≡ refuses 18 3 (replicate counts_size 0)
  pub narrower-gap : (folding (stacks 10) (lines_s 5)).answer ≡ refused 18 3
  pub no_gap : (folding (stacks 10) (lines_s 4)).answer ≡ refused 18 3
  pub strips-too-close : (folding (one_item 5 9 1 5 4) ((1 ∷ 0 ∷ 1 ∷ 1 ∷ 1 ∷ 1 ∷ 0 ∷ 0 ∷ 0 ∷ []) ++ (1 ∷ 0 ∷ 2 ∷ 1 ∷ 1 ∷ 1 ∷ 0 ∷ 4 ∷ 0 ∷ []))).answer ≡ refused 18 2
  -- 16 by a stack's height without its gap: two of 4 are 10 high, and no single item is
  pub gap-in-height : folding (stacks 8) (lines_s 6) ≡ refuses 16 1 (replicate counts_size 0)
  -- 17 by sums without the gaps: 5 + 1 + 5 past 10, 4 + 1 + 4 past 8, and the third strip, whose edge is 1 + 1 + 1 + 1 + 1
  pub past-right : (folding (one_item 10 5 1 5 4) ((1 ∷ 0 ∷ 1 ∷ 1 ∷ 1 ∷ 1 ∷ 0 ∷ 0 ∷ 0 ∷ []) ++ (1 ∷ 0 ∷ 1 ∷ 2 ∷ 1 ∷ 1 ∷ 6 ∷ 0 ∷ 0 ∷ []))).answer ≡ refused 17 1
  pub past_top : (folding (one_item 5 8 1 5 4) ((1 ∷ 0 ∷ 1 ∷ 1 ∷ 1 ∷ 1 ∷ 0 ∷ 0 ∷ 0 ∷ []) ++ (1 ∷ 0 ∷ 2 ∷ 1 ∷ 1 ∷ 1 ∷ 0 ∷ 5 ∷ 0 ∷ []))).answer ≡ refused 17 2
  pub third-strip :
      (folding (one_item 1 4 1 1 1) ((1 ∷ 0 ∷ 1 ∷ 1 ∷ 1 ∷ 1 ∷ 0 ∷ 0 ∷ 0 ∷ []) ++ (1 ∷ 0 ∷ 2 ∷ 1 ∷ 1 ∷ 1 ∷ 0 ∷ 2 ∷ 0 ∷ []) ++ (1 ∷ 0 ∷ 3 ∷ 1 ∷ 1 ∷ 1 ∷ 0 ∷ 4 ∷ 0 ∷ []))).answer
      ≡ refused 17 3
  -- a gap after the last, or at the board's edges: just as wide as the board, and just as high
  pub to-the-right : (folding (one_item 11 5 1 5 4) ((1 ∷ 0 ∷ 1 ∷ 1 ∷ 1 ∷ 1 ∷ 0 ∷ 0 ∷ 0 ∷ []) ++ (1 ∷ 0 ∷ 1 ∷ 2 ∷ 1 ∷ 1 ∷ 6 ∷ 0 ∷ 0 ∷ []))).answer ≡ given (1 ∷ 1 ∷ [])
  pub to-the-top : (folding (one_item 5 9 1 5 4) ((1 ∷ 0 ∷ 1 ∷ 1 ∷ 1 ∷ 1 ∷ 0 ∷ 0 ∷ 0 ∷ []) ++ (1 ∷ 0 ∷ 2 ∷ 1 ∷ 1 ∷ 1 ∷ 0 ∷ 5 ∷ 0 ∷ []))).answer ≡ given (1 ∷ 1 ∷ [])
  pub to-the-edges : (folding (one_item 10 10 3 10 10) (1 ∷ 0 ∷ 1 ∷ 1 ∷ 1 ∷ 1 ∷ 0 ∷ 0 ∷ 0 ∷ [])).answer ≡ given (1 ∷ 1 ∷ [])
  -- a blade beside a trim: an item lower than its strip by 1, one narrower than its stack by 1, with a blade of 2
  pub trim-above : (folding (low_beside 8) ((1 ∷ 0 ∷ 1 ∷ 1 ∷ 1 ∷ 1 ∷ 0 ∷ 0 ∷ 0 ∷ []) ++ (1 ∷ 0 ∷ 1 ∷ 2 ∷ 1 ∷ 2 ∷ 10 ∷ 0 ∷ 0 ∷ []))).answer ≡ given (1 ∷ 1 ∷ [])
  pub trim-beside :
      (folding narrow_over ((1 ∷ 0 ∷ 1 ∷ 1 ∷ 1 ∷ 1 ∷ 0 ∷ 0 ∷ 0 ∷ []) ++ (1 ∷ 0 ∷ 1 ∷ 2 ∷ 1 ∷ 2 ∷ 6 ∷ 0 ∷ 0 ∷ []) ++ (1 ∷ 0 ∷ 1 ∷ 2 ∷ 2 ∷ 3 ∷ 6 ∷ 6 ∷ 0 ∷ []))).answer
      ≡ given (1 ∷ 1 ∷ [])

-- what demand 3 says of layouts with gaps: "any two rectangles of a board are at least b apart across or at least b apart upwards"
pub record BladeRules : Type 0 where
  pub rules : layout_rules (job_of (stacks 10)) (set_of (lines_s 6)) ≡ true
  pub positions : placement_words (lines_of (job_of (stacks 10)) (set_of (lines_s 6))) ≡ lines_s 6
  pub inside-board : all (inside (job_of (stacks 10))) (rows_of (lines_s 6)) ≡ true
  pub items_apart : all_apart (job_of (stacks 10)) (rows_of (lines_s 6)) ≡ true
  -- one less than the blade, upwards or across, and both; further than the blade is apart too
  pub too-close-upwards : all_apart (job_of (stacks 10)) (rows_of (lines_s 5)) ≡ false
  pub too-close-across : all_apart (job_of (stacks 10)) (placement_of (opened 1 0) 1 1 1 4 0 0 ∷ placement_of (opened 1 0) 1 2 1 4 5 0 ∷ []) ≡ false
  pub too-close-both : all_apart (job_of (stacks 10)) (placement_of (opened 1 0) 1 1 1 4 0 0 ∷ placement_of (opened 1 0) 1 2 1 4 5 5 ∷ []) ≡ false
  pub further-apart : all_apart (job_of (stacks 10)) (rows_of (lines_s 7)) ≡ true
  -- two on different boards
  pub two-boards : all_apart (job_of (stacks 10)) (placement_of (opened 1 0) 1 1 1 4 0 0 ∷ placement_of (opened 2 0) 1 1 1 4 0 0 ∷ []) ≡ true
  -- rules by sums without the gaps: two of 5 on a board of 10
  pub past-width : layout_rules (job_of (one_item 10 5 1 5 4)) (sheets ((((2 ∷ []) ∷ (2 ∷ []) ∷ []) ∷ []) ∷ [])) ≡ false
  pub past-height : layout_rules (job_of (one_item 5 8 1 5 4)) (sheets ((((2 ∷ []) ∷ []) ∷ ((2 ∷ []) ∷ []) ∷ []) ∷ [])) ≡ false
