-- Document 02, request Four: the blade in texts, "as the last number of line 1"; each field says what it shows or shuts out.
use Rattle.std.specs.Prelude.{ℕ, ◌≡◌, List, [], ◌∷◌, ◌++◌}
use Rattle.columns.specs.Line.{line_of}
use Rattle.texts.specs.SawText.{saw_text}
use Rattle.texts.specs.FoldText.{fold_text}
use Rattle.cases.specs.TextRefusals.{nine}
use Rattle.cases.specs.TextsA.{head_lines}

-- 2N, a board of w by h, a blade of b, and one item of wi by hi, demanded once
unfoldable pub one_item_lines : ℕ → ℕ → ℕ → ℕ → ℕ → List ℕ
one_item_lines w h b wi hi = head_lines 2 0 w h 1 b ++ line_of (2 ∷ 1 ∷ wi ∷ hi ∷ 1 ∷ 0 ∷ [])

-- one item on the board of w by 5, and one on the plate beside it, of 5 by 4
unfoldable pub two_cuts : ℕ → List ℕ
two_cuts w = line_of (3 ∷ 0 ∷ 1 ∷ 1 ∷ w ∷ 5 ∷ 1 ∷ 0 ∷ []) ++ line_of (3 ∷ 1 ∷ 1 ∷ 1 ∷ 5 ∷ 4 ∷ 2 ∷ 0 ∷ [])

-- the same as lines 7, the second item at x
unfoldable pub two_laid : ℕ → List ℕ
two_laid x = line_of (7 ∷ 1 ∷ 0 ∷ 1 ∷ 1 ∷ 1 ∷ 1 ∷ 0 ∷ 0 ∷ 0 ∷ []) ++ line_of (7 ∷ 1 ∷ 0 ∷ 1 ∷ 2 ∷ 1 ∷ 1 ∷ x ∷ 0 ∷ 0 ∷ [])

pub record BladeTexts : Type 0 where
  -- two of 5 by 4 on 11 by 5, a blade of 1: the second at x 6, in both texts
  pub saw : saw_text (one_item_lines 11 5 1 5 4 ++ two_cuts 11) ≡ two_laid 6 ++ line_of (8 ∷ 1 ∷ 0 ∷ 1 ∷ 0 ∷ [])
  pub fold : fold_text (one_item_lines 11 5 1 5 4 ++ two_laid 6) ≡ two_cuts 11
  -- on 10 by 5 there is no plate beside it, and two are past the board
  pub no-plate : saw_text (one_item_lines 10 5 1 5 4 ++ two_cuts 10) ≡ nine 8 5
  pub past-right : fold_text (one_item_lines 10 5 1 5 4 ++ two_laid 6) ≡ nine 17 4
  -- a wider gap, and none
  pub wider-gap : fold_text (one_item_lines 12 5 1 5 4 ++ two_laid 7) ≡ nine 18 5
  pub no_gap : fold_text (one_item_lines 12 5 1 5 4 ++ two_laid 5) ≡ nine 18 5
  -- a greatest blade of 19 or of 21, naming line 1, before what comes after it
  pub greatest : saw_text (one_item_lines 9 7 20 9 7 ++ line_of (3 ∷ 0 ∷ 1 ∷ 1 ∷ 9 ∷ 7 ∷ 1 ∷ 0 ∷ [])) ≡ line_of (7 ∷ 1 ∷ 0 ∷ 1 ∷ 1 ∷ 1 ∷ 1 ∷ 0 ∷ 0 ∷ 0 ∷ []) ++ line_of (8 ∷ 1 ∷ 0 ∷ 1 ∷ 0 ∷ [])
  pub past : saw_text (one_item_lines 9 7 21 0 7) ≡ nine 2 1
  pub past-fold : fold_text (one_item_lines 9 7 21 0 7) ≡ nine 2 1
  -- a number that is cut down to 16 bits: 65,536 is 0 there
  pub past_word : saw_text (one_item_lines 9 7 65536 9 7) ≡ nine 2 1
  -- a line 1 without a blade, or with one number more: 1
  pub no-blade : saw_text (line_of (1 ∷ 2 ∷ 0 ∷ 1 ∷ 1 ∷ []) ++ line_of (10 ∷ 0 ∷ 9 ∷ 7 ∷ 1 ∷ []) ++ line_of (2 ∷ 1 ∷ 9 ∷ 7 ∷ 1 ∷ 0 ∷ [])) ≡ nine 1 1
  pub no-blade-fold : fold_text (line_of (1 ∷ 2 ∷ 0 ∷ 1 ∷ 1 ∷ []) ++ line_of (10 ∷ 0 ∷ 9 ∷ 7 ∷ 1 ∷ []) ++ line_of (2 ∷ 1 ∷ 9 ∷ 7 ∷ 1 ∷ 0 ∷ [])) ≡ nine 1 1
  pub one_more : saw_text (line_of (1 ∷ 2 ∷ 0 ∷ 1 ∷ 1 ∷ 0 ∷ 0 ∷ []) ++ line_of (10 ∷ 0 ∷ 9 ∷ 7 ∷ 1 ∷ []) ++ line_of (2 ∷ 1 ∷ 9 ∷ 7 ∷ 1 ∷ 0 ∷ [])) ≡ nine 1 1
  -- the blade after n: a line 1 with the two exchanged has n 20, and its lines 2 are missing
  pub last-number : saw_text (head_lines 2 0 9 7 20 1 ++ line_of (2 ∷ 1 ∷ 9 ∷ 7 ∷ 1 ∷ 0 ∷ [])) ≡ nine 1 4
