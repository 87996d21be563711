-- Document 02, request One: turned items in texts, "lines 3 and 7 end with the turn", and 19; each field says what it shows or shuts out.
use Rattle.std.specs.Prelude.{ℕ, ◌≡◌, List, [], ◌∷◌, ◌++◌}
use Rattle.columns.specs.Line.{line_of}
use Rattle.texts.specs.SawText.{saw_text}
use Rattle.texts.specs.FoldText.{fold_text}
use Rattle.cases.specs.TextRefusals.{nine}
use Rattle.cases.specs.TextsA.{head_lines}

-- 2N, a board and one item type of demand 1
unfoldable pub one_type : ℕ → ℕ → ℕ → ℕ → ℕ → List ℕ
one_type W H w h leave = head_lines 2 0 W H 1 0 ++ line_of (2 ∷ 1 ∷ w ∷ h ∷ 1 ∷ leave ∷ [])

-- line 3 of a board, type 1 and a turn, counted once
unfoldable pub cut_once : ℕ → ℕ → ℕ → List ℕ
cut_once W H turn = line_of (3 ∷ 0 ∷ 1 ∷ 1 ∷ W ∷ H ∷ 1 ∷ turn ∷ [])

-- line 7 of the board's first item, of a type and a turn
unfoldable pub first_laid : ℕ → ℕ → List ℕ
first_laid type turn = line_of (7 ∷ 1 ∷ 0 ∷ 1 ∷ 1 ∷ 1 ∷ type ∷ 0 ∷ 0 ∷ turn ∷ [])

pub record TurnedTexts : Type 0 where
  -- a type that fits turned alone, 3 by 5 on 5 by 3: it is cut and laid turned, and so both texts say
  pub turned-saw : saw_text (one_type 5 3 3 5 1 ++ cut_once 5 3 1) ≡ first_laid 1 1 ++ line_of (8 ∷ 1 ∷ 0 ∷ 1 ∷ 0 ∷ [])
  pub turned-fold : fold_text (one_type 5 3 3 5 1 ++ first_laid 1 1) ≡ cut_once 5 3 1
  -- unturned there is no such cut, and it is past the board: not 19, and not 3
  pub unturned-cut : saw_text (one_type 5 3 3 5 1 ++ cut_once 5 3 0) ≡ nine 8 4
  pub unturned-laid : fold_text (one_type 5 3 3 5 1 ++ first_laid 1 0) ≡ nine 17 4
  -- 3 without leave
  pub no-position : saw_text (one_type 5 3 3 5 0 ++ cut_once 5 3 0) ≡ nine 3 1
  -- 19 for a type without leave and for a square one, in either text: a turned square that changes nothing is refused too
  pub no-leave-cut : saw_text (one_type 9 9 3 2 0 ++ cut_once 9 9 1) ≡ nine 19 4
  pub no-leave-laid : fold_text (one_type 9 9 3 2 0 ++ first_laid 1 1) ≡ nine 19 4
  pub square-cut : saw_text (one_type 3 3 3 3 1 ++ cut_once 3 3 1) ≡ nine 19 4
  pub square-laid : fold_text (one_type 3 3 3 3 1 ++ first_laid 1 1) ≡ nine 19 4
  -- a leave on a square type is no fault
  pub square-leave : fold_text (one_type 3 3 3 3 1 ++ first_laid 1 0) ≡ cut_once 3 3 0
  -- "after 2", line by line: 19 on an earlier line comes before 2 and 1 on a later one, which as words it does not
  pub line-by-line : fold_text (one_type 9 9 3 2 0 ++ first_laid 1 1 ++ first_laid 2 0) ≡ nine 19 4
  pub before-form : saw_text (one_type 9 9 3 2 0 ++ cut_once 9 9 1 ++ line_of (9 ∷ 9 ∷ [])) ≡ nine 19 4
  -- and on one line 2 comes first: a turn of 2, or another number outside its limits
  pub turn-two-cut : saw_text (one_type 9 9 3 2 0 ++ cut_once 9 9 2) ≡ nine 2 4
  pub turn-two-laid : fold_text (one_type 9 9 3 2 0 ++ first_laid 1 2) ≡ nine 2 4
  pub count-first : saw_text (one_type 9 9 3 2 0 ++ line_of (3 ∷ 0 ∷ 1 ∷ 4001 ∷ 9 ∷ 9 ∷ 1 ∷ 1 ∷ [])) ≡ nine 2 4
  -- 19 before the job row: an item larger than the board
  pub before-size : fold_text (one_type 9 9 10 2 0 ++ first_laid 1 1) ≡ nine 19 4
  -- "a cut becomes plate, type and turn, the unturned first": the unturned one after the turned is 9, and both count towards the demand
  pub turned-first : saw_text (one_type 9 9 3 2 1 ++ cut_once 9 9 1 ++ cut_once 9 9 0) ≡ nine 9 5
  pub unturned-first :
      saw_text (one_type 9 9 3 2 1 ++ cut_once 9 9 0 ++ cut_once 9 9 1)
      ≡ first_laid 1 0
      ++ line_of (7 ∷ 2 ∷ 0 ∷ 1 ∷ 1 ∷ 1 ∷ 1 ∷ 0 ∷ 0 ∷ 1 ∷ [])
      ++ line_of (8 ∷ 2 ∷ 0 ∷ 1 ∷ 0 ∷ [])
  -- a line 7 of nine numbers with its kind, a line 3 of seven, a line 2 of five: 1
  pub no-turn-laid : fold_text (one_type 9 9 3 2 1 ++ line_of (7 ∷ 1 ∷ 0 ∷ 1 ∷ 1 ∷ 1 ∷ 1 ∷ 0 ∷ 0 ∷ [])) ≡ nine 1 4
  pub no-turn-cut : saw_text (one_type 9 9 3 2 1 ++ line_of (3 ∷ 0 ∷ 1 ∷ 1 ∷ 9 ∷ 9 ∷ 1 ∷ [])) ≡ nine 1 4
  pub no-leave : saw_text (head_lines 2 0 9 9 1 0 ++ line_of (2 ∷ 1 ∷ 3 ∷ 2 ∷ 1 ∷ [])) ≡ nine 1 3
