-- Document 01, "Texts": texts that are refused, the number and the place, on lines of job A.
use Rattle.std.specs.Prelude.{ℕ, ◌≡◌, List, [], ◌∷◌, ◌++◌, replicate}
use Rattle.columns.specs.Line.{line_of}
use Rattle.texts.specs.SawText.{saw_text}
use Rattle.texts.specs.FoldText.{fold_text}
use Rattle.cases.specs.Bytes.{bytes}
use Rattle.cases.specs.TextsA.{head_lines, job_lines_a, plan_lines_a, price_lines_a}

-- the output that is one line 9 alone
abbrev pub nine : ℕ → ℕ → List ℕ
nine number place = line_of (9 ∷ number ∷ place ∷ [])

pub record TextRefusals : Type 0 where
  -- an empty text: line 1 is missing
  pub empty : saw_text [] ≡ nine 1 1
  pub empty-fold : fold_text [] ≡ nine 1 1
  -- byte 10 alone is a line of no form
  pub blank-line : saw_text (job_lines_a ++ (10 ∷ [])) ≡ nine 1 5
  -- a last line without byte 10 is named itself, also where its numbers are whole
  pub no_end : saw_text (job_lines_a ++ bytes "        3        0        1        2        9        7        1        0") ≡ nine 1 5
  pub no-end-short : saw_text (job_lines_a ++ bytes "        3        0") ≡ nine 1 5
  -- a line longer than any kind, before its byte 10 is met
  pub too_long : saw_text (job_lines_a ++ replicate 100 32) ≡ nine 1 5
  -- not a number of nine columns: a leading zero, a sign, a tab, a blank after a digit, a blank group, byte 13
  pub leading-zero : saw_text (job_lines_a ++ bytes "        3        0        1       02        9        7        1        0\n") ≡ nine 1 5
  pub sign : saw_text (job_lines_a ++ bytes "        3        0        1       +2        9        7        1        0\n") ≡ nine 1 5
  pub tab : saw_text (job_lines_a ++ bytes "        3        0        1\t       2        9        7        1        0\n") ≡ nine 1 5
  pub blank-after : saw_text (job_lines_a ++ bytes "        3        0        1       2         9        7        1        0\n") ≡ nine 1 5
  pub blank-group : saw_text (job_lines_a ++ bytes "        3        0        1                 9        7        1        0\n") ≡ nine 1 5
  pub return : saw_text (job_lines_a ++ bytes "        3        0        1        2        9        7        1        0" ++ (13 ∷ 10 ∷ [])) ≡ nine 1 5
  -- too many numbers of a kind, too few
  pub one-more-number : saw_text (job_lines_a ++ line_of (3 ∷ 0 ∷ 1 ∷ 2 ∷ 9 ∷ 7 ∷ 1 ∷ 0 ∷ 0 ∷ [])) ≡ nine 1 5
  pub one-number-less : saw_text (job_lines_a ++ line_of (3 ∷ 0 ∷ 1 ∷ 2 ∷ 9 ∷ 7 ∷ 1 ∷ [])) ≡ nine 1 5
  -- a second line 1; a kind that is not read
  pub second-job : saw_text (job_lines_a ++ head_lines 2 0 9 7 2 0) ≡ nine 1 5
  pub kind-seven : saw_text (job_lines_a ++ line_of (7 ∷ 1 ∷ 0 ∷ 1 ∷ 1 ∷ 1 ∷ 1 ∷ 0 ∷ 0 ∷ 0 ∷ [])) ≡ nine 1 5
  pub kind-eight : saw_text (job_lines_a ++ line_of (8 ∷ 2 ∷ 2 ∷ 1 ∷ 1 ∷ [])) ≡ nine 1 5
  pub kind-three : fold_text (job_lines_a ++ line_of (3 ∷ 0 ∷ 1 ∷ 2 ∷ 9 ∷ 7 ∷ 1 ∷ 0 ∷ [])) ≡ nine 1 5
  -- lines 2 that are missing: one past the last; another line in their place: that line; one too many
  pub missing-type : saw_text (head_lines 2 0 9 7 2 0 ++ line_of (2 ∷ 1 ∷ 5 ∷ 4 ∷ 2 ∷ 0 ∷ [])) ≡ nine 1 4
  pub not-a-type : saw_text (head_lines 2 0 9 7 2 0 ++ line_of (2 ∷ 1 ∷ 5 ∷ 4 ∷ 2 ∷ 0 ∷ []) ++ line_of (3 ∷ 0 ∷ 1 ∷ 2 ∷ 9 ∷ 7 ∷ 1 ∷ 0 ∷ [])) ≡ nine 1 4
  pub type-too-many : saw_text (job_lines_a ++ line_of (2 ∷ 3 ∷ 3 ∷ 3 ∷ 1 ∷ 0 ∷ [])) ≡ nine 1 5
  -- a running number that is not the next is 1, also outside its limits
  pub type-not-next : saw_text (head_lines 2 0 9 7 2 0 ++ line_of (2 ∷ 2 ∷ 3 ∷ 3 ∷ 3 ∷ 0 ∷ [])) ≡ nine 1 3
  pub type-outside : saw_text (head_lines 2 0 9 7 2 0 ++ line_of (2 ∷ 99 ∷ 5 ∷ 4 ∷ 2 ∷ 0 ∷ [])) ≡ nine 1 3
  -- lines 5 before 4, 6 before all of 5, 3 after 4, a second 4
  pub price-first : saw_text (job_lines_a ++ line_of (5 ∷ 1 ∷ 1 ∷ [])) ≡ nine 1 5
  pub plate-price-early : saw_text (job_lines_a ++ line_of (4 ∷ 1 ∷ 2 ∷ 5 ∷ []) ++ line_of (5 ∷ 1 ∷ 1 ∷ []) ++ line_of (6 ∷ 1 ∷ 0 ∷ [])) ≡ nine 1 7
  pub plan-after-prices : saw_text (job_lines_a ++ line_of (4 ∷ 1 ∷ 2 ∷ 5 ∷ []) ++ line_of (3 ∷ 0 ∷ 1 ∷ 2 ∷ 9 ∷ 7 ∷ 1 ∷ 0 ∷ [])) ≡ nine 1 6
  pub second-prices : saw_text (job_lines_a ++ line_of (4 ∷ 1 ∷ 2 ∷ 5 ∷ []) ++ line_of (4 ∷ 1 ∷ 2 ∷ 5 ∷ [])) ≡ nine 1 6
  -- lines 5 or 6 that are missing; one too many
  pub prices-missing : saw_text (job_lines_a ++ plan_lines_a ++ line_of (4 ∷ 1 ∷ 2 ∷ 5 ∷ [])) ≡ nine 1 10
  pub price-too-many : saw_text (job_lines_a ++ plan_lines_a ++ price_lines_a ++ line_of (6 ∷ 6 ∷ 0 ∷ [])) ≡ nine 1 17
  -- 2: stages and exact are values with limits
  pub stages : saw_text (head_lines 4 0 9 7 2 0) ≡ nine 2 1
  pub exact : saw_text (head_lines 2 2 9 7 2 0) ≡ nine 2 1
  -- 2: item n + 1, count 0, count 4,001, plate 2,048, a number above 65,535
  pub plan-item : saw_text (job_lines_a ++ line_of (3 ∷ 0 ∷ 3 ∷ 1 ∷ 9 ∷ 7 ∷ 1 ∷ 0 ∷ [])) ≡ nine 2 5
  pub plan-none : saw_text (job_lines_a ++ line_of (3 ∷ 0 ∷ 1 ∷ 0 ∷ 9 ∷ 7 ∷ 1 ∷ 0 ∷ [])) ≡ nine 2 5
  pub plan-count : saw_text (job_lines_a ++ line_of (3 ∷ 0 ∷ 1 ∷ 4001 ∷ 9 ∷ 7 ∷ 1 ∷ 0 ∷ [])) ≡ nine 2 5
  pub plan-plate : saw_text (job_lines_a ++ line_of (3 ∷ 2048 ∷ 1 ∷ 1 ∷ 9 ∷ 7 ∷ 1 ∷ 0 ∷ [])) ≡ nine 2 5
  pub plan-wide : saw_text (job_lines_a ++ line_of (3 ∷ 65536 ∷ 1 ∷ 999999999 ∷ 9 ∷ 7 ∷ 1 ∷ 0 ∷ [])) ≡ nine 2 5
  -- 2 on line 4: n 41, m 2,048, D 0
  pub prices-types : saw_text (job_lines_a ++ line_of (4 ∷ 1 ∷ 41 ∷ 5 ∷ [])) ≡ nine 2 5
  pub prices-residuals : saw_text (job_lines_a ++ line_of (4 ∷ 1 ∷ 2 ∷ 2048 ∷ [])) ≡ nine 2 5
  pub prices-denominator : saw_text (job_lines_a ++ line_of (4 ∷ 0 ∷ 2 ∷ 5 ∷ [])) ≡ nine 2 5
  -- a 2 on an earlier line comes before a 1 on a later one; on one line 1 comes before 2
  pub line-by-line : saw_text (job_lines_a ++ line_of (3 ∷ 0 ∷ 3 ∷ 1 ∷ 9 ∷ 7 ∷ 1 ∷ 0 ∷ []) ++ line_of (9 ∷ 9 ∷ [])) ≡ nine 2 5
  pub same_line : saw_text (head_lines 2 0 9 7 2 0 ++ line_of (2 ∷ 2 ∷ 10001 ∷ 3 ∷ 3 ∷ 0 ∷ [])) ≡ nine 1 3
  -- a text with a 3 to give and a last line of no form is 1
  pub form-before-size : saw_text (head_lines 2 0 9 7 1 0 ++ line_of (2 ∷ 1 ∷ 10 ∷ 7 ∷ 1 ∷ 0 ∷ []) ++ line_of (9 ∷ 9 ∷ [])) ≡ nine 1 4
  -- 3 and 4 after all lines
  pub size : saw_text (head_lines 2 0 9 7 1 0 ++ line_of (2 ∷ 1 ∷ 10 ∷ 7 ∷ 1 ∷ 0 ∷ [])) ≡ nine 3 1
  -- no line 3: 11, type 1; no line 7 the same
  pub no-plan : saw_text job_lines_a ≡ nine 11 1
  pub no-layouts : fold_text job_lines_a ≡ nine 11 1
  -- 8: plate and item within their limits that are no cut, naming the line
  pub no-such-cut : saw_text (job_lines_a ++ line_of (3 ∷ 0 ∷ 1 ∷ 2 ∷ 9 ∷ 7 ∷ 1 ∷ 0 ∷ []) ++ line_of (3 ∷ 5 ∷ 1 ∷ 1 ∷ 3 ∷ 3 ∷ 2 ∷ 0 ∷ [])) ≡ nine 8 6
  -- 9: the same cut twice, or a lower one after a higher, naming the later line
  pub cut_twice : saw_text (job_lines_a ++ line_of (3 ∷ 0 ∷ 1 ∷ 1 ∷ 9 ∷ 7 ∷ 1 ∷ 0 ∷ []) ++ line_of (3 ∷ 0 ∷ 1 ∷ 1 ∷ 9 ∷ 7 ∷ 1 ∷ 0 ∷ [])) ≡ nine 9 6
  pub cut-lower : saw_text (job_lines_a ++ line_of (3 ∷ 1 ∷ 2 ∷ 1 ∷ 9 ∷ 3 ∷ 1 ∷ 0 ∷ []) ++ line_of (3 ∷ 0 ∷ 1 ∷ 1 ∷ 9 ∷ 7 ∷ 1 ∷ 0 ∷ [])) ≡ nine 9 6
  -- 8 over all lines comes before 9 over any
  pub eight-first : saw_text (job_lines_a ++ line_of (3 ∷ 1 ∷ 2 ∷ 1 ∷ 9 ∷ 3 ∷ 1 ∷ 0 ∷ []) ++ line_of (3 ∷ 0 ∷ 1 ∷ 1 ∷ 9 ∷ 7 ∷ 1 ∷ 0 ∷ []) ++ line_of (3 ∷ 5 ∷ 1 ∷ 1 ∷ 3 ∷ 3 ∷ 2 ∷ 0 ∷ [])) ≡ nine 8 7
  -- 10: total above 4,000
  pub total : saw_text (job_lines_a ++ line_of (3 ∷ 0 ∷ 1 ∷ 4000 ∷ 9 ∷ 7 ∷ 1 ∷ 0 ∷ []) ++ line_of (3 ∷ 0 ∷ 2 ∷ 1 ∷ 9 ∷ 7 ∷ 1 ∷ 0 ∷ [])) ≡ nine 10 0
  -- 12 and the prices row after it
  pub overdrawn : saw_text (job_lines_a ++ line_of (3 ∷ 0 ∷ 1 ∷ 2 ∷ 9 ∷ 7 ∷ 1 ∷ 0 ∷ []) ++ line_of (3 ∷ 1 ∷ 2 ∷ 1 ∷ 9 ∷ 3 ∷ 1 ∷ 0 ∷ []) ++ line_of (3 ∷ 2 ∷ 2 ∷ 3 ∷ 4 ∷ 4 ∷ 2 ∷ 0 ∷ []) ++ line_of (3 ∷ 4 ∷ 2 ∷ 1 ∷ 6 ∷ 3 ∷ 2 ∷ 0 ∷ []) ++ price_lines_a) ≡ nine 12 2
  -- 13: n or m not the model's, after as many lines 5 and 6 as line 4 says
  pub other-n : saw_text (job_lines_a ++ plan_lines_a ++ line_of (4 ∷ 1 ∷ 1 ∷ 5 ∷ []) ++ line_of (5 ∷ 1 ∷ 1 ∷ []) ++ line_of (6 ∷ 1 ∷ 0 ∷ []) ++ line_of (6 ∷ 2 ∷ 0 ∷ []) ++ line_of (6 ∷ 3 ∷ 1 ∷ []) ++ line_of (6 ∷ 4 ∷ 0 ∷ []) ++ line_of (6 ∷ 5 ∷ 0 ∷ [])) ≡ nine 13 0
  pub other-m : saw_text (job_lines_a ++ plan_lines_a ++ line_of (4 ∷ 1 ∷ 2 ∷ 0 ∷ []) ++ line_of (5 ∷ 1 ∷ 1 ∷ []) ++ line_of (5 ∷ 2 ∷ 0 ∷ [])) ≡ nine 13 0
  -- 14 names the cut
  pub cut-over : saw_text (job_lines_a ++ plan_lines_a ++ line_of (4 ∷ 1 ∷ 2 ∷ 5 ∷ []) ++ line_of (5 ∷ 1 ∷ 1 ∷ []) ++ line_of (5 ∷ 2 ∷ 0 ∷ []) ++ line_of (6 ∷ 1 ∷ 0 ∷ []) ++ line_of (6 ∷ 2 ∷ 0 ∷ []) ++ line_of (6 ∷ 3 ∷ 0 ∷ []) ++ line_of (6 ∷ 4 ∷ 0 ∷ []) ++ line_of (6 ∷ 5 ∷ 0 ∷ [])) ≡ nine 14 5
  -- 15, 16, 17 and 18 name lines of the text; a wrong turn is never 1
  pub turn : fold_text (job_lines_a ++ line_of (7 ∷ 1 ∷ 0 ∷ 1 ∷ 2 ∷ 1 ∷ 1 ∷ 0 ∷ 0 ∷ 0 ∷ [])) ≡ nine 15 5
  pub stage : fold_text (job_lines_a ++ line_of (7 ∷ 1 ∷ 0 ∷ 1 ∷ 1 ∷ 1 ∷ 2 ∷ 0 ∷ 0 ∷ 0 ∷ []) ++ line_of (7 ∷ 1 ∷ 0 ∷ 1 ∷ 1 ∷ 2 ∷ 2 ∷ 0 ∷ 3 ∷ 0 ∷ [])) ≡ nine 16 5
  pub past : fold_text (job_lines_a ++ line_of (7 ∷ 1 ∷ 0 ∷ 1 ∷ 1 ∷ 1 ∷ 1 ∷ 0 ∷ 0 ∷ 0 ∷ []) ++ line_of (7 ∷ 1 ∷ 0 ∷ 2 ∷ 1 ∷ 1 ∷ 1 ∷ 0 ∷ 4 ∷ 0 ∷ [])) ≡ nine 17 6
  pub position : fold_text (job_lines_a ++ line_of (7 ∷ 1 ∷ 0 ∷ 1 ∷ 1 ∷ 1 ∷ 1 ∷ 0 ∷ 0 ∷ 0 ∷ []) ++ line_of (7 ∷ 1 ∷ 0 ∷ 2 ∷ 1 ∷ 1 ∷ 2 ∷ 0 ∷ 3 ∷ 0 ∷ [])) ≡ nine 18 6
  -- 2 on line 7: type n + 1, board 0, x 10,001
  pub layout-type : fold_text (job_lines_a ++ line_of (7 ∷ 1 ∷ 0 ∷ 1 ∷ 1 ∷ 1 ∷ 3 ∷ 0 ∷ 0 ∷ 0 ∷ [])) ≡ nine 2 5
  pub layout-board : fold_text (job_lines_a ++ line_of (7 ∷ 0 ∷ 0 ∷ 1 ∷ 1 ∷ 1 ∷ 1 ∷ 0 ∷ 0 ∷ 0 ∷ [])) ≡ nine 2 5
  pub layout-x : fold_text (job_lines_a ++ line_of (7 ∷ 1 ∷ 0 ∷ 1 ∷ 1 ∷ 1 ∷ 1 ∷ 10001 ∷ 0 ∷ 0 ∷ [])) ≡ nine 2 5
