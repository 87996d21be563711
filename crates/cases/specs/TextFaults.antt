-- Document 01, "Texts": texts with several faults, and which one is named, on lines of job A; each field says what it shuts out.
use Rattle.std.specs.Prelude.{◌≡◌, List, [], ◌∷◌, ◌++◌, ℕ}
use Rattle.columns.specs.Line.{line_of}
use Rattle.texts.specs.SawText.{saw_text}
use Rattle.texts.specs.FoldText.{fold_text}
use Rattle.cases.specs.TextsA.{head_lines, job_lines_a, plan_lines_a, printed_a}
use Rattle.cases.specs.TextRefusals.{nine}

-- a job whose one item type is wider than the board
unfoldable pub large_lines : List ℕ
large_lines = head_lines 2 0 9 7 1 0 ++ line_of (2 ∷ 1 ∷ 10 ∷ 7 ∷ 1 ∷ 0 ∷ [])

-- demands of 4,000 and 1
unfoldable pub many_lines : List ℕ
many_lines =
    head_lines 2 0 9 7 2 0
    ++ line_of (2 ∷ 1 ∷ 5 ∷ 4 ∷ 4000 ∷ 0 ∷ [])
    ++ line_of (2 ∷ 2 ∷ 3 ∷ 3 ∷ 1 ∷ 0 ∷ [])

-- prices of job A: D, the price of item 1, and that of plate type 3; the rest 0
unfoldable pub prices_at : ℕ → ℕ → ℕ → List ℕ
prices_at d item plate =
    line_of (4 ∷ d ∷ 2 ∷ 5 ∷ [])
    ++ line_of (5 ∷ 1 ∷ item ∷ [])
    ++ line_of (5 ∷ 2 ∷ 0 ∷ [])
    ++ line_of (6 ∷ 1 ∷ 0 ∷ [])
    ++ line_of (6 ∷ 2 ∷ 0 ∷ [])
    ++ line_of (6 ∷ 3 ∷ plate ∷ [])
    ++ line_of (6 ∷ 4 ∷ 0 ∷ [])
    ++ line_of (6 ∷ 5 ∷ 0 ∷ [])

-- prices of one item type and six residual types
unfoldable pub prices_one_six : List ℕ
prices_one_six =
    line_of (4 ∷ 1 ∷ 1 ∷ 6 ∷ [])
    ++ line_of (5 ∷ 1 ∷ 1 ∷ [])
    ++ line_of (6 ∷ 1 ∷ 0 ∷ [])
    ++ line_of (6 ∷ 2 ∷ 0 ∷ [])
    ++ line_of (6 ∷ 3 ∷ 1 ∷ [])
    ++ line_of (6 ∷ 4 ∷ 0 ∷ [])
    ++ line_of (6 ∷ 5 ∷ 0 ∷ [])
    ++ line_of (6 ∷ 6 ∷ 0 ∷ [])

pub record TextFaults : Type 0 where
  -- the plan or the layouts before the job
  pub size-before-cut : saw_text (large_lines ++ line_of (3 ∷ 0 ∷ 1 ∷ 1 ∷ 9 ∷ 7 ∷ 1 ∷ 0 ∷ [])) ≡ nine 3 1
  pub size-before-turn : fold_text (large_lines ++ line_of (7 ∷ 1 ∷ 0 ∷ 1 ∷ 2 ∷ 1 ∷ 1 ∷ 0 ∷ 0 ∷ 0 ∷ [])) ≡ nine 3 1
  pub demands-before-cut : saw_text (many_lines ++ line_of (3 ∷ 5 ∷ 1 ∷ 1 ∷ 3 ∷ 3 ∷ 2 ∷ 0 ∷ [])) ≡ nine 4 0
  pub demands-before-turn : fold_text (many_lines ++ line_of (7 ∷ 1 ∷ 0 ∷ 1 ∷ 2 ∷ 1 ∷ 1 ∷ 0 ∷ 0 ∷ 0 ∷ [])) ≡ nine 4 0
  -- 10 before 9
  pub rising-before-total : saw_text (job_lines_a ++ line_of (3 ∷ 0 ∷ 1 ∷ 4000 ∷ 9 ∷ 7 ∷ 1 ∷ 0 ∷ []) ++ line_of (3 ∷ 0 ∷ 1 ∷ 1 ∷ 9 ∷ 7 ∷ 1 ∷ 0 ∷ [])) ≡ nine 9 6
  -- 8 or 9 that names the last line
  pub lowest-no-cut : saw_text (job_lines_a ++ line_of (3 ∷ 5 ∷ 1 ∷ 1 ∷ 3 ∷ 3 ∷ 2 ∷ 0 ∷ []) ++ line_of (3 ∷ 5 ∷ 1 ∷ 1 ∷ 3 ∷ 3 ∷ 2 ∷ 0 ∷ [])) ≡ nine 8 5
  pub lowest-not-rising :
      saw_text (job_lines_a ++ line_of (3 ∷ 0 ∷ 1 ∷ 1 ∷ 9 ∷ 7 ∷ 1 ∷ 0 ∷ []) ++ line_of (3 ∷ 0 ∷ 1 ∷ 1 ∷ 9 ∷ 7 ∷ 1 ∷ 0 ∷ []) ++ line_of (3 ∷ 0 ∷ 1 ∷ 1 ∷ 9 ∷ 7 ∷ 1 ∷ 0 ∷ [])) ≡ nine 9 6
  -- prices before the plan: no line 3, and cut 5 over its limit
  pub plan-before-prices : saw_text (job_lines_a ++ prices_at 1 1 0) ≡ nine 11 1
  -- 13 by n and m together: 1 and 6 are as many as 2 and 5
  pub types-and-residuals : saw_text (job_lines_a ++ plan_lines_a ++ prices_one_six) ≡ nine 13 0
  -- a bound or a "cheapest" that no price changes: the sum is 0
  pub not-cheapest :
      saw_text (job_lines_a ++ plan_lines_a ++ prices_at 1 0 0) ≡ printed_a ++ line_of (8 ∷ 2 ∷ 0 ∷ 1 ∷ 0 ∷ [])
  -- "cheapest" where (cost - 1) times D is the sum: a cost of 2, a D of 2, a sum of 2
  pub not-cheapest-equal :
      saw_text (job_lines_a ++ plan_lines_a ++ prices_at 2 1 1) ≡ printed_a ++ line_of (8 ∷ 2 ∷ 2 ∷ 2 ∷ 0 ∷ [])
