-- Document 02, request Six: several board sizes in texts, "lines of kind 10 follow it in order: size (0 to t−1), W, H, cost"; each field says what it shows or
-- shuts out.
use Rattle.std.specs.Prelude.{ℕ, ◌≡◌, List, [], ◌∷◌, ◌++◌}
use Rattle.std.proofs.Math.Option.{some}
use Rattle.job.specs.Job.{job_of}
use Rattle.columns.specs.Line.{line_of}
use Rattle.texts.specs.SawText.{result_line, saw_text}
use Rattle.texts.specs.FoldText.{fold_text}
use Rattle.cases.specs.TextRefusals.{nine}
use Rattle.cases.specs.BoardSizes.{dearest}

-- line 1 of job A with t sizes, and its lines 2
unfoldable pub line_one : ℕ → List ℕ
line_one t = line_of (1 ∷ 2 ∷ 0 ∷ t ∷ 2 ∷ 0 ∷ [])

unfoldable pub type_lines : List ℕ
type_lines = line_of (2 ∷ 1 ∷ 5 ∷ 4 ∷ 2 ∷ 0 ∷ []) ++ line_of (2 ∷ 2 ∷ 3 ∷ 3 ∷ 3 ∷ 0 ∷ [])

-- sizes 9 by 7 at a cost of 3 and 9 by 3 at a cost of 1
unfoldable pub first_size : List ℕ
first_size = line_of (10 ∷ 0 ∷ 9 ∷ 7 ∷ 3 ∷ [])

unfoldable pub second_size : List ℕ
second_size = line_of (10 ∷ 1 ∷ 9 ∷ 3 ∷ 1 ∷ [])

unfoldable pub two_lines : List ℕ
two_lines = line_one 2 ++ first_size ++ second_size ++ type_lines

-- a plan of two boards of size 0 and one of size 1
unfoldable pub plan_lines : List ℕ
plan_lines =
    line_of (3 ∷ 0 ∷ 1 ∷ 2 ∷ 9 ∷ 7 ∷ 1 ∷ 0 ∷ [])
    ++ line_of (3 ∷ 1 ∷ 2 ∷ 1 ∷ 9 ∷ 3 ∷ 1 ∷ 0 ∷ [])
    ++ line_of (3 ∷ 5 ∷ 2 ∷ 1 ∷ 6 ∷ 3 ∷ 2 ∷ 0 ∷ [])
    ++ line_of (3 ∷ 6 ∷ 2 ∷ 1 ∷ 3 ∷ 3 ∷ 2 ∷ 0 ∷ [])

-- its lines 7
unfoldable pub laid : List ℕ
laid =
    line_of (7 ∷ 1 ∷ 0 ∷ 1 ∷ 1 ∷ 1 ∷ 1 ∷ 0 ∷ 0 ∷ 0 ∷ [])
    ++ line_of (7 ∷ 2 ∷ 0 ∷ 1 ∷ 1 ∷ 1 ∷ 1 ∷ 0 ∷ 0 ∷ 0 ∷ [])
    ++ line_of (7 ∷ 3 ∷ 1 ∷ 1 ∷ 1 ∷ 1 ∷ 2 ∷ 0 ∷ 0 ∷ 0 ∷ [])
    ++ line_of (7 ∷ 3 ∷ 1 ∷ 1 ∷ 2 ∷ 1 ∷ 2 ∷ 3 ∷ 0 ∷ 0 ∷ [])
    ++ line_of (7 ∷ 3 ∷ 1 ∷ 1 ∷ 3 ∷ 1 ∷ 2 ∷ 6 ∷ 0 ∷ 0 ∷ [])

-- lines 4 and 5, and line 6 of a plate type, at a price
unfoldable pub item_prices : List ℕ
item_prices = line_of (4 ∷ 1 ∷ 2 ∷ 5 ∷ []) ++ line_of (5 ∷ 1 ∷ 3 ∷ []) ++ line_of (5 ∷ 2 ∷ 0 ∷ [])

unfoldable pub plate_price : ℕ → ℕ → List ℕ
plate_price plate price = line_of (6 ∷ plate ∷ price ∷ [])

pub record BoardSizeTexts : Type 0 where
  -- both texts: line 8 gives the cost, not the boards; a line 3 shows a size as its W, H and 1
  pub saw : saw_text (two_lines ++ plan_lines) ≡ laid ++ line_of (8 ∷ 7 ∷ 0 ∷ 1 ∷ 0 ∷ [])
  pub fold : fold_text (two_lines ++ laid) ≡ plan_lines
  -- lines 6 that are numbered from 1: the residual types follow the sizes, 2 to 6; "cheapest" by the boards, 3, for the cost, 7:
  -- (7−1)×1 is not below the sum, 6
  pub prices : saw_text (two_lines ++ plan_lines ++ item_prices ++ plate_price 2 0 ++ plate_price 3 0 ++ plate_price 4 3 ++ plate_price 5 0 ++ plate_price 6 0) ≡ laid ++ line_of (8 ∷ 7 ∷ 6 ∷ 1 ∷ 0 ∷ [])
  pub price-of-size : saw_text (two_lines ++ plan_lines ++ item_prices ++ plate_price 1 0) ≡ nine 1 13
  -- lines 10 that are not in order, missing or one too many: 1, never 2
  pub second-first : saw_text (line_one 2 ++ second_size) ≡ nine 1 2
  pub number-outside : fold_text (line_one 2 ++ line_of (10 ∷ 6 ∷ 9 ∷ 7 ∷ 3 ∷ [])) ≡ nine 1 2
  pub missing : saw_text (line_one 2 ++ first_size ++ type_lines) ≡ nine 1 3
  pub surplus : fold_text (line_one 1 ++ first_size ++ second_size) ≡ nine 1 3
  pub none : saw_text (line_one 1 ++ type_lines) ≡ nine 1 2
  pub after-types : saw_text (line_one 1 ++ first_size ++ type_lines ++ second_size) ≡ nine 1 5
  pub short-line : saw_text (line_one 1 ++ line_of (10 ∷ 0 ∷ 9 ∷ 7 ∷ [])) ≡ nine 1 2
  -- 15 for a line of another size than its board's first, 2 for a size that the job has not
  pub size-differs : fold_text (two_lines ++ line_of (7 ∷ 1 ∷ 0 ∷ 1 ∷ 1 ∷ 1 ∷ 1 ∷ 0 ∷ 0 ∷ 0 ∷ []) ++ line_of (7 ∷ 1 ∷ 1 ∷ 1 ∷ 2 ∷ 1 ∷ 2 ∷ 5 ∷ 0 ∷ 0 ∷ [])) ≡ nine 15 7
  pub size-past : fold_text (two_lines ++ line_of (7 ∷ 1 ∷ 2 ∷ 1 ∷ 1 ∷ 1 ∷ 1 ∷ 0 ∷ 0 ∷ 0 ∷ [])) ≡ nine 2 6
  -- 12 names the plate number of the residual type, which no size has
  pub residual-drawn : saw_text (two_lines ++ line_of (3 ∷ 0 ∷ 1 ∷ 2 ∷ 9 ∷ 7 ∷ 1 ∷ 0 ∷ []) ++ line_of (3 ∷ 2 ∷ 2 ∷ 3 ∷ 9 ∷ 3 ∷ 1 ∷ 0 ∷ [])) ≡ nine 12 2
  -- line 8 of 4,000 boards at a cost of 999: products of more than 32 bits, of which the second wraps to 731,629 there.
  -- A saw text of that plan would have 4,000 lines 7. Here line 8 has the cost handed in: `dearest-plan` of `BoardSizes` gives that cost, and `sum` the first
  -- line's sum and D
  pub wide-product : result_line (job_of dearest) 3996000 (some (record { types = 1; residuals = 0; words = 9999 ∷ 9999 ∷ [] })) ≡ line_of (8 ∷ 3996000 ∷ 39996000 ∷ 9999 ∷ 0 ∷ [])
  pub product-wraps : result_line (job_of dearest) 3996000 (some (record { types = 1; residuals = 0; words = 1075 ∷ 9999 ∷ [] })) ≡ line_of (8 ∷ 3996000 ∷ 39996000 ∷ 1075 ∷ 0 ∷ [])
