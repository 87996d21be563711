-- Document 02, request Five: plan lines that show their plate, and 20, "where these disagree with the model"; each field says what it shows or shuts out.
use Rattle.std.specs.Prelude.{ℕ, ◌≡◌, List, [], ◌∷◌, ◌++◌}
use Rattle.columns.specs.Line.{line_of}
use Rattle.texts.specs.SawText.{saw_text}
use Rattle.texts.specs.FoldText.{fold_text}
use Rattle.cases.specs.TextsA.{head_lines, job_lines_a}
use Rattle.cases.specs.TextRefusals.{nine}
use Rattle.cases.specs.TextFaults.{large_lines, many_lines, prices_at}

-- line 3 of a plate type and an item type, unturned, counted once, that shows a plate of w by h and stage s
unfoldable pub shows : ℕ → ℕ → ℕ → ℕ → ℕ → List ℕ
shows plate item w h s = line_of (3 ∷ plate ∷ item ∷ 1 ∷ w ∷ h ∷ s ∷ 0 ∷ [])

-- 3N, 10 by 10, a blade of 2: 4 by 10 and 4 by 4, one of each. Its plate types 3 and 4 are both 4 by 4, of stages 2 and 3
unfoldable pub blade_lines : List ℕ
blade_lines =
    head_lines 3 0 10 10 2 2
    ++ line_of (2 ∷ 1 ∷ 4 ∷ 10 ∷ 1 ∷ 0 ∷ [])
    ++ line_of (2 ∷ 2 ∷ 4 ∷ 4 ∷ 1 ∷ 0 ∷ [])

-- the lines 7 of 4 by 10, beside it 4 by 4, and above that 4 by 4 again
unfoldable pub blade_laid : List ℕ
blade_laid =
    line_of (7 ∷ 1 ∷ 0 ∷ 1 ∷ 1 ∷ 1 ∷ 1 ∷ 0 ∷ 0 ∷ 0 ∷ [])
    ++ line_of (7 ∷ 1 ∷ 0 ∷ 1 ∷ 2 ∷ 1 ∷ 2 ∷ 6 ∷ 0 ∷ 0 ∷ [])
    ++ line_of (7 ∷ 1 ∷ 0 ∷ 1 ∷ 2 ∷ 2 ∷ 2 ∷ 6 ∷ 6 ∷ 0 ∷ [])

-- which plates are shown, on lines of job A: type 0 is 9 by 7, type 1 is 9 by 3, type 3 is 9 by 4, all of stage 1; type 2 is 4 by 4, of stage 2
pub record ShownPlates : Type 0 where
  -- a line that shows its plate is not 20: here a plan that is short
  pub shown : saw_text (job_lines_a ++ shows 0 1 9 7 1 ++ shows 3 2 9 4 1) ≡ nine 11 1
  -- one of the three that is not compared: width, height, stage
  pub width : saw_text (job_lines_a ++ shows 0 1 8 7 1) ≡ nine 20 5
  pub height : saw_text (job_lines_a ++ shows 0 1 9 6 1) ≡ nine 20 5
  pub stage : saw_text (job_lines_a ++ shows 0 1 9 7 2) ≡ nine 20 5
  -- sides that are compared in either order; the item's sides for the plate's
  pub exchanged : saw_text (job_lines_a ++ shows 0 1 7 9 1) ≡ nine 20 5
  pub item-sides : saw_text (job_lines_a ++ shows 0 1 5 4 1) ≡ nine 20 5
  -- "a solver with its own plate list can count differently and still name an existing number": its type 3 is the model's type 1
  pub other-list : saw_text (job_lines_a ++ shows 0 1 9 7 1 ++ shows 3 2 9 3 1) ≡ nine 20 6
  -- limits of their own: 0 and the greatest number of nine columns are 20, never 2
  pub width-zero : saw_text (job_lines_a ++ shows 0 1 0 7 1) ≡ nine 20 5
  pub height-zero : saw_text (job_lines_a ++ shows 0 1 9 0 1) ≡ nine 20 5
  pub stage-zero : saw_text (job_lines_a ++ shows 0 1 9 7 0) ≡ nine 20 5
  pub width-greatest : saw_text (job_lines_a ++ shows 0 1 999999999 7 1) ≡ nine 20 5
  pub height-greatest : saw_text (job_lines_a ++ shows 0 1 9 999999999 1) ≡ nine 20 5
  pub stage-greatest : saw_text (job_lines_a ++ shows 0 1 9 7 999999999) ≡ nine 20 5
  -- a comparison in 16 bits, where 65,536 more is the same, or of the stage in 8
  pub width-narrowed : saw_text (job_lines_a ++ shows 0 1 65545 7 1) ≡ nine 20 5
  pub height-narrowed : saw_text (job_lines_a ++ shows 0 1 9 65543 1) ≡ nine 20 5
  pub stage-narrowed : saw_text (job_lines_a ++ shows 0 1 9 7 65537) ≡ nine 20 5
  pub stage-byte : saw_text (job_lines_a ++ shows 0 1 9 7 257) ≡ nine 20 5
  -- the fold program shows the plates too, and their stages: 4 by 4 of stage 3; the saw program takes those lines
  pub folded : fold_text (blade_lines ++ blade_laid) ≡ shows 0 1 10 10 1 ++ shows 1 2 4 10 2 ++ shows 4 2 4 4 3
  pub sawn :
      saw_text (blade_lines ++ shows 0 1 10 10 1 ++ shows 1 2 4 10 2 ++ shows 4 2 4 4 3)
      ≡ blade_laid ++ line_of (8 ∷ 1 ∷ 0 ∷ 1 ∷ 0 ∷ [])
  -- and 4 by 4 of stage 2 is another plate type
  pub stage-alone : saw_text (blade_lines ++ shows 0 1 10 10 1 ++ shows 1 2 4 10 2 ++ shows 4 2 4 4 2) ≡ nine 20 7

-- where 20 stands, on lines of job A
pub record ShownOrder : Type 0 where
  -- 9 before 20: the same cut twice, with a wrong width on the second line; a 9 on line 6 and a 20 on line 7
  pub cut_twice : saw_text (job_lines_a ++ shows 0 1 9 7 1 ++ shows 0 1 8 7 1) ≡ nine 20 6
  pub before-nine : saw_text (job_lines_a ++ shows 1 2 9 3 1 ++ shows 0 1 9 7 1 ++ shows 2 2 5 4 2) ≡ nine 20 7
  -- 20 before 8: a line that names no cut and has wrong sides; an 8 on a later line, which shows its plate
  pub no_cut : saw_text (job_lines_a ++ shows 5 1 9 9 9) ≡ nine 8 5
  pub eight-first : saw_text (job_lines_a ++ shows 0 1 8 7 1 ++ shows 5 1 3 3 2) ≡ nine 8 6
  -- a 20 that names the last line
  pub lowest : saw_text (job_lines_a ++ shows 0 1 8 7 1 ++ shows 0 2 8 7 1) ≡ nine 20 5
  -- 10 before 20; prices before the plan: cut 5 over its limit
  pub before-total : saw_text (job_lines_a ++ line_of (3 ∷ 0 ∷ 1 ∷ 4000 ∷ 9 ∷ 7 ∷ 1 ∷ 0 ∷ []) ++ shows 0 2 8 7 1) ≡ nine 20 6
  pub before-prices : saw_text (job_lines_a ++ shows 0 1 8 7 1 ++ prices_at 1 1 0) ≡ nine 20 5
  -- 20 before the rows above it: 3 and 4 of the job
  pub size-first : saw_text (large_lines ++ shows 0 1 8 7 1) ≡ nine 3 1
  pub demands-first : saw_text (many_lines ++ shows 0 1 8 7 1) ≡ nine 4 0
  -- 20 in the line row: 2 and 1 on a later line, 19 on the same
  pub limit-first : saw_text (job_lines_a ++ shows 0 1 8 7 1 ++ shows 0 3 9 7 1) ≡ nine 2 6
  pub form-first : saw_text (job_lines_a ++ shows 0 1 8 7 1 ++ line_of (9 ∷ 9 ∷ [])) ≡ nine 1 6
  pub turn-first : saw_text (job_lines_a ++ line_of (3 ∷ 0 ∷ 1 ∷ 1 ∷ 8 ∷ 7 ∷ 1 ∷ 1 ∷ [])) ≡ nine 19 5
  -- a line that shows no plate, or two of the three numbers: 1
  pub none-shown : saw_text (job_lines_a ++ line_of (3 ∷ 0 ∷ 1 ∷ 1 ∷ 0 ∷ [])) ≡ nine 1 5
  pub no-stage : saw_text (job_lines_a ++ line_of (3 ∷ 0 ∷ 1 ∷ 1 ∷ 9 ∷ 7 ∷ 0 ∷ [])) ≡ nine 1 5
  -- the turn before the three, which makes the stage of 1 a turn of a type without leave; the three before the count, which makes it 9
  pub turn_last : saw_text (job_lines_a ++ line_of (3 ∷ 0 ∷ 1 ∷ 1 ∷ 0 ∷ 9 ∷ 7 ∷ 1 ∷ [])) ≡ nine 19 5
  pub after-count : saw_text (job_lines_a ++ line_of (3 ∷ 0 ∷ 1 ∷ 9 ∷ 7 ∷ 1 ∷ 1 ∷ 0 ∷ [])) ≡ nine 20 5
