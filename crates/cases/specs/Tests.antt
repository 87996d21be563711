-- Document 01, "Layouts and folding" and "The words of demand 3": sets of layouts that break a rule, and rectangles that lie outside or overlap, the blade being 0.
-- A test that passes all of them would leave demand 3 saying nothing; each field says what it shuts out. Items stand by their numbers: 2 and 4 are types 1 and 2
-- unturned.
use Rattle.std.specs.Prelude.{◌≡◌, true, false, [], ◌∷◌}
use Rattle.job.specs.Job.{job_of}
use Rattle.layouts.specs.Layout.{layout_rules}
use Rattle.layouts.specs.Placement.{opened, placement_of, meets_demands}
use Rattle.layouts.specs.Rectangle.{inside, all_apart}
use Rattle.cases.specs.Jobs.{sheets, job_a, job_a2e, job_b}
use Rattle.cases.specs.Readings.{job_e}

-- "none is empty", and the rules of each mode
pub record BrokenRules : Type 0 where
  -- a board, a strip or a stack that is empty
  pub empty-board : layout_rules (job_of job_a) (sheets ([] ∷ [])) ≡ false
  pub empty-strip : layout_rules (job_of job_a) (sheets (([] ∷ []) ∷ [])) ≡ false
  pub empty-stack : layout_rules (job_of job_b) (sheets (((((2 ∷ []) ∷ [] ∷ []) ∷ []) ∷ []))) ≡ false
  -- an item type that the job has not
  pub type-zero : layout_rules (job_of job_a) (sheets ((((0 ∷ []) ∷ []) ∷ []) ∷ [])) ≡ false
  pub type-past : layout_rules (job_of job_a) (sheets ((((6 ∷ []) ∷ []) ∷ []) ∷ [])) ≡ false
  -- "two-stage: each stack is one item"
  pub two-in-stack : layout_rules (job_of job_a) (sheets ((((4 ∷ 4 ∷ []) ∷ []) ∷ []) ∷ [])) ≡ false
  -- "in 2E all items of a strip are equally high"; in 2N they need not be
  pub heights-exact : layout_rules (job_of job_a2e) (sheets ((((2 ∷ []) ∷ (4 ∷ []) ∷ []) ∷ []) ∷ [])) ≡ false
  pub heights-alike : layout_rules (job_of job_a2e) (sheets ((((4 ∷ []) ∷ (4 ∷ []) ∷ []) ∷ []) ∷ [])) ≡ true
  pub heights-free : layout_rules (job_of job_a) (sheets ((((2 ∷ []) ∷ (4 ∷ []) ∷ []) ∷ []) ∷ [])) ≡ true
  -- "some stack of each strip is a single item of the strip's height"
  pub no-full-stack : layout_rules (job_of job_b) (sheets ((((4 ∷ 4 ∷ []) ∷ (4 ∷ []) ∷ []) ∷ []) ∷ [])) ≡ false
  -- "in 3E all items of a stack are equally wide"
  pub widths-exact : layout_rules (job_of job_e) (sheets ((((2 ∷ []) ∷ (4 ∷ 6 ∷ []) ∷ []) ∷ []) ∷ [])) ≡ false
  pub widths-alike : layout_rules (job_of job_e) (sheets ((((2 ∷ []) ∷ (4 ∷ 4 ∷ []) ∷ []) ∷ []) ∷ [])) ≡ true
  -- "stack widths of a strip add up to at most W, strip heights to at most H": 9 by 7, and just past it
  pub width-full : layout_rules (job_of job_a) (sheets ((((4 ∷ []) ∷ (4 ∷ []) ∷ (4 ∷ []) ∷ []) ∷ []) ∷ [])) ≡ true
  pub width-past : layout_rules (job_of job_a) (sheets ((((2 ∷ []) ∷ (2 ∷ []) ∷ []) ∷ []) ∷ [])) ≡ false
  pub height-full : layout_rules (job_of job_a) (sheets ((((2 ∷ []) ∷ []) ∷ ((4 ∷ []) ∷ []) ∷ []) ∷ [])) ≡ true
  pub height-past : layout_rules (job_of job_a) (sheets ((((2 ∷ []) ∷ []) ∷ ((2 ∷ []) ∷ []) ∷ []) ∷ [])) ≡ false
  -- a rule that only the first board keeps
  pub second-board : layout_rules (job_of job_a) (sheets ((((2 ∷ []) ∷ []) ∷ []) ∷ (((4 ∷ 4 ∷ []) ∷ []) ∷ []) ∷ [])) ≡ false
  -- "at least as often as demanded": type 1 twice, type 2 three times; one more of the last type, one less
  pub demands-met : meets_demands (job_of job_a) (sheets ((((2 ∷ []) ∷ (4 ∷ []) ∷ []) ∷ []) ∷ (((2 ∷ []) ∷ (4 ∷ []) ∷ []) ∷ ((4 ∷ []) ∷ []) ∷ []) ∷ [])) ≡ true
  pub demands-more : meets_demands (job_of job_a) (sheets ((((2 ∷ []) ∷ []) ∷ ((4 ∷ []) ∷ (4 ∷ []) ∷ (4 ∷ []) ∷ []) ∷ []) ∷ (((2 ∷ []) ∷ (4 ∷ []) ∷ []) ∷ []) ∷ [])) ≡ true
  pub demands-short : meets_demands (job_of job_a) (sheets ((((2 ∷ []) ∷ (4 ∷ []) ∷ []) ∷ []) ∷ (((2 ∷ []) ∷ (4 ∷ []) ∷ []) ∷ []) ∷ [])) ≡ false

-- rectangles of items 1, 5 by 4, and 2, 3 by 3, on job A's board, which is 9 by 7
pub record Rectangles : Type 0 where
  -- "at most the board's width and height": at the edge, and one past it
  pub at-the-edge : inside (job_of job_a) (placement_of (opened 1 0) 1 1 1 2 4 3) ≡ true
  pub past-right : inside (job_of job_a) (placement_of (opened 1 0) 1 1 1 2 5 3) ≡ false
  pub past_top : inside (job_of job_a) (placement_of (opened 1 0) 1 1 1 2 4 4) ≡ false
  -- "one ends where or before the other begins, across or upwards", whichever comes first
  pub beside : all_apart (job_of job_a) (placement_of (opened 1 0) 1 1 1 2 0 0 ∷ placement_of (opened 1 0) 1 2 1 4 5 0 ∷ []) ≡ true
  pub beside_first : all_apart (job_of job_a) (placement_of (opened 1 0) 1 1 1 4 5 0 ∷ placement_of (opened 1 0) 1 2 1 2 0 0 ∷ []) ≡ true
  pub over : all_apart (job_of job_a) (placement_of (opened 1 0) 1 1 1 2 0 0 ∷ placement_of (opened 1 0) 2 1 1 4 0 4 ∷ []) ≡ true
  pub over_first : all_apart (job_of job_a) (placement_of (opened 1 0) 1 1 1 4 0 4 ∷ placement_of (opened 1 0) 2 1 1 2 0 0 ∷ []) ≡ true
  -- one that begins one before the other ends, both ways
  pub overlap : all_apart (job_of job_a) (placement_of (opened 1 0) 1 1 1 2 0 0 ∷ placement_of (opened 1 0) 1 2 1 4 4 3 ∷ []) ≡ false
  pub overlap-first : all_apart (job_of job_a) (placement_of (opened 1 0) 1 1 1 4 4 3 ∷ placement_of (opened 1 0) 1 2 1 2 0 0 ∷ []) ≡ false
  -- two that are not neighbours in the list
  pub overlap-later : all_apart (job_of job_a) (placement_of (opened 1 0) 1 1 1 4 0 0 ∷ placement_of (opened 1 0) 1 2 1 4 3 0 ∷ placement_of (opened 1 0) 1 3 1 4 0 0 ∷ []) ≡ false
  pub overlap-last : all_apart (job_of job_a) (placement_of (opened 1 0) 1 1 1 2 0 0 ∷ placement_of (opened 1 0) 1 2 1 4 5 0 ∷ placement_of (opened 1 0) 1 3 1 4 6 0 ∷ []) ≡ false
  -- two on different boards
  pub two-boards : all_apart (job_of job_a) (placement_of (opened 1 0) 1 1 1 2 0 0 ∷ placement_of (opened 2 0) 1 1 1 2 0 0 ∷ []) ≡ true
