-- Document 01, "Texts": the limits of the numbers of each kind of line, at the last value and at the first past it, and the limit of lines, with figures.
-- A line whose numbers are within their limits is refused later, or not at all; each field says what it shuts out.
use Rattle.std.specs.Prelude.{ℕ, ◌≡◌, List, [], ◌∷◌, ◌++◌}
use Rattle.job.specs.Sizes.{longest_job, prices_size}
use Rattle.job.specs.Verdict.{pass, refuse}
use Rattle.columns.specs.Line.{line_of}
use Rattle.texts.specs.Widths.{job_line_bytes, size_line_bytes, type_line_bytes, plan_line_bytes, prices_line_bytes, price_line_bytes, placement_line_bytes, summary_line_bytes, refusal_line_bytes}
use Rattle.texts.specs.Reader.{Reader, longest_line, byte_read, byte_taken}
use Rattle.texts.specs.SawText.{Saw, saw_grammar, saw_text}
use Rattle.texts.specs.FoldText.{Fold, fold_grammar, fold_text}
use Rattle.texts.specs.TextLaws.{longest_saw_text, longest_fold_text}
use Rattle.cases.specs.TextsA.{head_lines, job_lines_a}
use Rattle.cases.specs.TextRefusals.{nine}

-- lines 1 and 10 of job A with one item type, and one more line
unfoldable pub after_one : List ℕ → List ℕ
after_one ns = head_lines 2 0 9 7 1 0 ++ line_of ns

-- job A's lines, and one more line
unfoldable pub after_job : List ℕ → List ℕ
after_job ns = job_lines_a ++ line_of ns

-- job A's lines, line 4 of its prices, and one more line
unfoldable pub after_four : List ℕ → List ℕ
after_four ns = job_lines_a ++ line_of (4 ∷ 1 ∷ 2 ∷ 5 ∷ []) ++ line_of ns

-- job A's lines, line 4 of its prices, its lines 5, and one more line
unfoldable pub after_five : List ℕ → List ℕ
after_five ns =
    job_lines_a
    ++ line_of (4 ∷ 1 ∷ 2 ∷ 5 ∷ [])
    ++ line_of (5 ∷ 1 ∷ 1 ∷ [])
    ++ line_of (5 ∷ 2 ∷ 0 ∷ [])
    ++ line_of ns

-- a text of so many lines that are admitted, where a line begins
abbrev pub line_begins : {S : Type 0} → S → ℕ → Reader S
line_begins s lines = record { state = s; lines = lines; pending = []; verdict = pass }

-- "1 stages (2 or 3), exact (1 or 0)", t "in place of W and H" (request Six), n and the blade's b (request Four); 10 "size (0 to t−1), W, H, cost"
-- (request Six); "2 type, width, height, demand", and the leave (request One)
pub record JobLines : Type 0 where
  -- a limit one lower: line 1 and a line 10 at all their highest values, where the line of size 1 is missing; a line 2, where that of type 2 is
  pub greatest :
      saw_text (line_of (1 ∷ 3 ∷ 1 ∷ 6 ∷ 40 ∷ 20 ∷ []) ++ line_of (10 ∷ 0 ∷ 10000 ∷ 10000 ∷ 999 ∷ [])) ≡ nine 1 3
  pub greatest-fold :
      fold_text (line_of (1 ∷ 3 ∷ 1 ∷ 6 ∷ 40 ∷ 20 ∷ []) ++ line_of (10 ∷ 0 ∷ 10000 ∷ 10000 ∷ 999 ∷ [])) ≡ nine 1 3
  pub greatest-type : saw_text (head_lines 2 0 9 7 40 0 ++ line_of (2 ∷ 1 ∷ 10000 ∷ 10000 ∷ 4000 ∷ 1 ∷ [])) ≡ nine 1 4
  pub greatest-type-fold : fold_text (head_lines 2 0 9 7 40 0 ++ line_of (2 ∷ 1 ∷ 10000 ∷ 10000 ∷ 4000 ∷ 1 ∷ [])) ≡ nine 1 4
  -- a limit one higher: lines 1, 10 and 2 at all their lowest values; nothing is cut
  pub least : saw_text (head_lines 2 0 1 1 1 0 ++ line_of (2 ∷ 1 ∷ 1 ∷ 1 ∷ 1 ∷ 0 ∷ [])) ≡ nine 11 1
  pub least-fold : fold_text (head_lines 2 0 1 1 1 0 ++ line_of (2 ∷ 1 ∷ 1 ∷ 1 ∷ 1 ∷ 0 ∷ [])) ≡ nine 11 1
  -- stages 1 or 4; an exact of 2
  pub stages-low : saw_text (head_lines 1 0 9 7 1 0) ≡ nine 2 1
  pub stages-high : fold_text (head_lines 4 0 9 7 1 0) ≡ nine 2 1
  pub exact-high : fold_text (head_lines 2 2 9 7 1 0) ≡ nine 2 1
  -- a W or H of 0 or 10,001
  pub width-zero : saw_text (head_lines 2 0 0 7 1 0) ≡ nine 2 2
  pub width-high : saw_text (head_lines 2 0 10001 7 1 0) ≡ nine 2 2
  pub height-zero : saw_text (head_lines 2 0 9 0 1 0) ≡ nine 2 2
  pub height-high : saw_text (head_lines 2 0 9 10001 1 0) ≡ nine 2 2
  -- a t of 0 or 7, a cost of 0 or 1,000 (request Six)
  pub sizes-zero : saw_text (line_of (1 ∷ 2 ∷ 0 ∷ 0 ∷ 1 ∷ 0 ∷ [])) ≡ nine 2 1
  pub sizes-high : fold_text (line_of (1 ∷ 2 ∷ 0 ∷ 7 ∷ 1 ∷ 0 ∷ [])) ≡ nine 2 1
  pub cost-zero : saw_text (line_of (1 ∷ 2 ∷ 0 ∷ 1 ∷ 1 ∷ 0 ∷ []) ++ line_of (10 ∷ 0 ∷ 9 ∷ 7 ∷ 0 ∷ [])) ≡ nine 2 2
  pub cost-high : fold_text (line_of (1 ∷ 2 ∷ 0 ∷ 1 ∷ 1 ∷ 0 ∷ []) ++ line_of (10 ∷ 0 ∷ 9 ∷ 7 ∷ 1000 ∷ [])) ≡ nine 2 2
  -- an n of 0 or 41
  pub types-zero : saw_text (head_lines 2 0 9 7 0 0) ≡ nine 2 1
  pub types-high : saw_text (head_lines 2 0 9 7 41 0) ≡ nine 2 1
  -- a blade of 21
  pub blade-high : saw_text (head_lines 2 0 9 7 1 21) ≡ nine 2 1
  -- an item's width or height of 0 or 10,001
  pub item-width-zero : saw_text (after_one (2 ∷ 1 ∷ 0 ∷ 3 ∷ 1 ∷ 0 ∷ [])) ≡ nine 2 3
  pub item-width-high : saw_text (after_one (2 ∷ 1 ∷ 10001 ∷ 3 ∷ 1 ∷ 0 ∷ [])) ≡ nine 2 3
  pub item-height-zero : saw_text (after_one (2 ∷ 1 ∷ 3 ∷ 0 ∷ 1 ∷ 0 ∷ [])) ≡ nine 2 3
  pub item-height-high : saw_text (after_one (2 ∷ 1 ∷ 3 ∷ 10001 ∷ 1 ∷ 0 ∷ [])) ≡ nine 2 3
  -- a demand of 0 or 4,001
  pub demand-zero : saw_text (after_one (2 ∷ 1 ∷ 3 ∷ 3 ∷ 0 ∷ 0 ∷ [])) ≡ nine 2 3
  pub demand-high : saw_text (after_one (2 ∷ 1 ∷ 3 ∷ 3 ∷ 4001 ∷ 0 ∷ [])) ≡ nine 2 3
  -- a leave of 2
  pub leave-high : saw_text (after_one (2 ∷ 1 ∷ 3 ∷ 3 ∷ 1 ∷ 2 ∷ [])) ≡ nine 2 3

-- "3 plate, item, count (1 to 4,000)", the plate's width, height and stage, which "have no limits of their own" (request Five), and the turn, "plate 0 to
-- 2,047; type 1 to n"; "4 D, n, m", "on line 4 n 1 to 40 and m 0 to 2,047"; the price of lines 5 and 6
pub record SawLines : Type 0 where
  -- a greatest plate of 2,046, a greatest item of n - 1, a greatest count of 3,999, any greatest width, height or stage: there is no such cut
  pub plan-greatest : saw_text (after_job (3 ∷ 2047 ∷ 2 ∷ 4000 ∷ 999999999 ∷ 999999999 ∷ 999999999 ∷ 0 ∷ [])) ≡ nine 8 5
  -- a least count of 2, any least width, height or stage: there is no such cut
  pub plan-least : saw_text (after_job (3 ∷ 5 ∷ 1 ∷ 1 ∷ 0 ∷ 0 ∷ 0 ∷ 0 ∷ [])) ≡ nine 8 5
  -- an item 0
  pub plan-item-zero : saw_text (after_job (3 ∷ 0 ∷ 0 ∷ 1 ∷ 9 ∷ 7 ∷ 1 ∷ 0 ∷ [])) ≡ nine 2 5
  -- a turn of 2
  pub plan-turn-high : saw_text (after_job (3 ∷ 0 ∷ 1 ∷ 1 ∷ 9 ∷ 7 ∷ 1 ∷ 2 ∷ [])) ≡ nine 2 5
  -- a greatest D of 9,998, n of 39 or m of 2,046: the line of type 1 is missing
  pub prices-greatest : saw_text (after_job (4 ∷ 9999 ∷ 40 ∷ 2047 ∷ [])) ≡ nine 1 6
  -- a least D of 2, n of 2 or m of 1
  pub prices-least : saw_text (after_job (4 ∷ 1 ∷ 1 ∷ 0 ∷ [])) ≡ nine 1 6
  -- a D of 10,000, an n of 0
  pub denominator-high : saw_text (after_job (4 ∷ 10000 ∷ 2 ∷ 5 ∷ [])) ≡ nine 2 5
  pub prices-types-zero : saw_text (after_job (4 ∷ 1 ∷ 0 ∷ 5 ∷ [])) ≡ nine 2 5
  -- a greatest price of 9,998 or 10,000 of an item type
  pub item-price-greatest : saw_text (after_four (5 ∷ 1 ∷ 9999 ∷ [])) ≡ nine 1 7
  pub item-price-high : saw_text (after_four (5 ∷ 1 ∷ 10000 ∷ [])) ≡ nine 2 6
  -- a greatest price of 9,998 or 10,000 of a residual type
  pub plate-price-greatest : saw_text (after_five (6 ∷ 1 ∷ 9999 ∷ [])) ≡ nine 1 9
  pub plate-price-high : saw_text (after_five (6 ∷ 1 ∷ 10000 ∷ [])) ≡ nine 2 8
  -- "all of them in order": a first line 5 that is not type 1, a first line 6 that is not plate type 1
  pub item-price-not-next : saw_text (after_four (5 ∷ 2 ∷ 0 ∷ [])) ≡ nine 1 6
  pub plate-price-not-next : saw_text (after_five (6 ∷ 2 ∷ 0 ∷ [])) ≡ nine 1 8
  pub plate-price-zero : saw_text (after_five (6 ∷ 0 ∷ 0 ∷ [])) ≡ nine 1 8

-- "7 board, strip, stack, place, type, x, y", the size after the board (request Six), and the turn, "board, strip, stack, place 1 to 4,000; x, y 0 to 10,000"
pub record FoldLines : Type 0 where
  -- limits one lower: a line at all its highest values has no fault but its turn
  pub greatest : fold_text (after_job (7 ∷ 4000 ∷ 0 ∷ 4000 ∷ 4000 ∷ 4000 ∷ 2 ∷ 10000 ∷ 10000 ∷ 0 ∷ [])) ≡ nine 15 5
  -- a strip, stack, place or type 0
  pub strip-zero : fold_text (after_job (7 ∷ 1 ∷ 0 ∷ 0 ∷ 1 ∷ 1 ∷ 1 ∷ 0 ∷ 0 ∷ 0 ∷ [])) ≡ nine 2 5
  pub stack-zero : fold_text (after_job (7 ∷ 1 ∷ 0 ∷ 1 ∷ 0 ∷ 1 ∷ 1 ∷ 0 ∷ 0 ∷ 0 ∷ [])) ≡ nine 2 5
  pub place-zero : fold_text (after_job (7 ∷ 1 ∷ 0 ∷ 1 ∷ 1 ∷ 0 ∷ 1 ∷ 0 ∷ 0 ∷ 0 ∷ [])) ≡ nine 2 5
  pub type-zero : fold_text (after_job (7 ∷ 1 ∷ 0 ∷ 1 ∷ 1 ∷ 1 ∷ 0 ∷ 0 ∷ 0 ∷ 0 ∷ [])) ≡ nine 2 5
  -- a board, strip, stack or place 4,001
  pub board-high : fold_text (after_job (7 ∷ 4001 ∷ 0 ∷ 1 ∷ 1 ∷ 1 ∷ 1 ∷ 0 ∷ 0 ∷ 0 ∷ [])) ≡ nine 2 5
  pub strip-high : fold_text (after_job (7 ∷ 1 ∷ 0 ∷ 4001 ∷ 1 ∷ 1 ∷ 1 ∷ 0 ∷ 0 ∷ 0 ∷ [])) ≡ nine 2 5
  pub stack-high : fold_text (after_job (7 ∷ 1 ∷ 0 ∷ 1 ∷ 4001 ∷ 1 ∷ 1 ∷ 0 ∷ 0 ∷ 0 ∷ [])) ≡ nine 2 5
  pub place-high : fold_text (after_job (7 ∷ 1 ∷ 0 ∷ 1 ∷ 1 ∷ 4001 ∷ 1 ∷ 0 ∷ 0 ∷ 0 ∷ [])) ≡ nine 2 5
  -- a size of t (request Six)
  pub size-high : fold_text (after_job (7 ∷ 1 ∷ 1 ∷ 1 ∷ 1 ∷ 1 ∷ 1 ∷ 0 ∷ 0 ∷ 0 ∷ [])) ≡ nine 2 5
  -- a y of 10,001
  pub y-high : fold_text (after_job (7 ∷ 1 ∷ 0 ∷ 1 ∷ 1 ∷ 1 ∷ 1 ∷ 0 ∷ 10001 ∷ 0 ∷ [])) ≡ nine 2 5
  -- a turn of 2
  pub turn-high : fold_text (after_job (7 ∷ 1 ∷ 0 ∷ 1 ∷ 1 ∷ 1 ∷ 1 ∷ 0 ∷ 0 ∷ 2 ∷ [])) ≡ nine 2 5

-- "a text's 100,000th line is 1, whatever it holds": of any text that stands there, and any byte
pub record LastLines : Type 0 where
  -- a limit of 99,998 lines: line 99,999 is read
  pub saw-last : (s : Saw) (b : ℕ) → byte_read saw_grammar (line_begins s 99998) b ≡ byte_taken saw_grammar (line_begins s 99998) b (b ∷ [])
  pub fold-last : (f : Fold) (b : ℕ) → byte_read fold_grammar (line_begins f 99998) b ≡ byte_taken fold_grammar (line_begins f 99998) b (b ∷ [])
  -- a limit of 100,000 lines; another line that is named
  pub saw-past : (s : Saw) (b : ℕ) → (byte_read saw_grammar (line_begins s 99999) b).verdict ≡ refuse 1 100000
  pub fold-past : (f : Fold) (b : ℕ) → (byte_read fold_grammar (line_begins f 99999) b).verdict ≡ refuse 1 100000

-- "a line is the numbers of its kind, each right-justified in nine columns with blanks .., then byte 10": the bytes of a line of each kind, the bytes of the
-- longest text that the line row reads, and the words that a text's reader keeps of job and prices; contracts have them by name
pub record Rooms : Type 0 where
  -- another number of columns, or of numbers on a line
  pub job-line : job_line_bytes ≡ 55
  pub size-line : size_line_bytes ≡ 46
  pub type-line : type_line_bytes ≡ 55
  pub plan-line : plan_line_bytes ≡ 73
  pub prices-line : prices_line_bytes ≡ 37
  pub price-line : price_line_bytes ≡ 28
  pub placement-line : placement_line_bytes ≡ 91
  pub result-line : summary_line_bytes ≡ 46
  pub refusal-line : refusal_line_bytes ≡ 28
  -- a line that is read past the longest kind, 7
  pub longest-line : longest_line ≡ 91
  -- texts of 99,998 or 100,000 lines; lines 2 that are taken for longer than lines 3
  pub saw-text : longest_saw_text ≡ 7299864
  pub fold-text : longest_fold_text ≡ 9099792
  -- a job of 6 sizes and 40 types has 183 words; D, 40 prices and 2,047 are 2,088
  pub job-words : longest_job ≡ 183
  pub price-words : prices_size ≡ 2088
