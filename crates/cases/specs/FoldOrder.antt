-- Document 01, "Layouts and folding", second paragraph: the order in which folding cuts, where job A and job B do not show it; each field says what it shuts out.
use Rattle.std.specs.Prelude.{◌≡◌, List, [], ◌∷◌, ◌++◌, ℕ}
use Rattle.columns.specs.Line.{line_of}
use Rattle.texts.specs.FoldText.{fold_text}
use Rattle.cases.specs.TextsA.{head_lines}

-- 3N, 6 by 4: 2 by 4, 1 by 4 and 1 by 2, one of each
unfoldable pub job_lines_h : List ℕ
job_lines_h =
    head_lines 3 0 6 4 3 0
    ++ line_of (2 ∷ 1 ∷ 2 ∷ 4 ∷ 1 ∷ 0 ∷ [])
    ++ line_of (2 ∷ 2 ∷ 1 ∷ 4 ∷ 1 ∷ 0 ∷ [])
    ++ line_of (2 ∷ 3 ∷ 1 ∷ 2 ∷ 1 ∷ 0 ∷ [])

-- 3N, 5 by 4: 2 by 4 once, 2 by 1 and 2 by 2 once each
unfoldable pub job_lines_i : List ℕ
job_lines_i =
    head_lines 3 0 5 4 3 0
    ++ line_of (2 ∷ 1 ∷ 2 ∷ 4 ∷ 1 ∷ 0 ∷ [])
    ++ line_of (2 ∷ 2 ∷ 2 ∷ 1 ∷ 1 ∷ 0 ∷ [])
    ++ line_of (2 ∷ 3 ∷ 2 ∷ 2 ∷ 1 ∷ 0 ∷ [])

-- 2N, 6 by 4: 1 by 4 and 3 by 2, one of each
unfoldable pub job_lines_k : List ℕ
job_lines_k =
    head_lines 2 0 6 4 2 0
    ++ line_of (2 ∷ 1 ∷ 1 ∷ 4 ∷ 1 ∷ 0 ∷ [])
    ++ line_of (2 ∷ 2 ∷ 3 ∷ 2 ∷ 1 ∷ 0 ∷ [])

pub record FoldOrder : Type 0 where
  -- a two-stage strip ordered by width: 3 by 2, then 1 by 4
  pub high-before-wide :
      fold_text
      (job_lines_k
      ++ line_of (7 ∷ 1 ∷ 0 ∷ 1 ∷ 1 ∷ 1 ∷ 2 ∷ 0 ∷ 0 ∷ 0 ∷ [])
      ++ line_of (7 ∷ 1 ∷ 0 ∷ 1 ∷ 2 ∷ 1 ∷ 1 ∷ 3 ∷ 0 ∷ 0 ∷ []))
      ≡ line_of (3 ∷ 0 ∷ 1 ∷ 1 ∷ 6 ∷ 4 ∷ 1 ∷ 0 ∷ [])
      ++ line_of (3 ∷ 1 ∷ 2 ∷ 1 ∷ 5 ∷ 4 ∷ 2 ∷ 0 ∷ [])
  -- the rightmost stack of the strip's height moved to the front, or the widest, or the low stack left there: 1 by 2, then 1 by 4, then 2 by 4
  pub leftmost-to-front :
      fold_text
      (job_lines_h
      ++ line_of (7 ∷ 1 ∷ 0 ∷ 1 ∷ 1 ∷ 1 ∷ 3 ∷ 0 ∷ 0 ∷ 0 ∷ [])
      ++ line_of (7 ∷ 1 ∷ 0 ∷ 1 ∷ 2 ∷ 1 ∷ 2 ∷ 1 ∷ 0 ∷ 0 ∷ [])
      ++ line_of (7 ∷ 1 ∷ 0 ∷ 1 ∷ 3 ∷ 1 ∷ 1 ∷ 2 ∷ 0 ∷ 0 ∷ []))
      ≡ line_of (3 ∷ 0 ∷ 2 ∷ 1 ∷ 6 ∷ 4 ∷ 1 ∷ 0 ∷ [])
      ++ line_of (3 ∷ 1 ∷ 1 ∷ 1 ∷ 4 ∷ 4 ∷ 2 ∷ 0 ∷ [])
      ++ line_of (3 ∷ 2 ∷ 3 ∷ 1 ∷ 5 ∷ 4 ∷ 2 ∷ 0 ∷ [])
  -- a stack of two items of the strip's height moved to the front: 1 by 2 twice, then 1 by 4, then 2 by 4
  pub single-to-front :
      fold_text
      (job_lines_h
      ++ line_of (7 ∷ 1 ∷ 0 ∷ 1 ∷ 1 ∷ 1 ∷ 3 ∷ 0 ∷ 0 ∷ 0 ∷ [])
      ++ line_of (7 ∷ 1 ∷ 0 ∷ 1 ∷ 1 ∷ 2 ∷ 3 ∷ 0 ∷ 2 ∷ 0 ∷ [])
      ++ line_of (7 ∷ 1 ∷ 0 ∷ 1 ∷ 2 ∷ 1 ∷ 2 ∷ 1 ∷ 0 ∷ 0 ∷ [])
      ++ line_of (7 ∷ 1 ∷ 0 ∷ 1 ∷ 3 ∷ 1 ∷ 1 ∷ 2 ∷ 0 ∷ 0 ∷ []))
      ≡ line_of (3 ∷ 0 ∷ 2 ∷ 1 ∷ 6 ∷ 4 ∷ 1 ∷ 0 ∷ [])
      ++ line_of (3 ∷ 1 ∷ 1 ∷ 1 ∷ 4 ∷ 4 ∷ 2 ∷ 0 ∷ [])
      ++ line_of (3 ∷ 2 ∷ 3 ∷ 1 ∷ 5 ∷ 4 ∷ 2 ∷ 0 ∷ [])
      ++ line_of (3 ∷ 7 ∷ 3 ∷ 1 ∷ 1 ∷ 2 ∷ 3 ∷ 0 ∷ [])
  -- a stack ordered by height, or equally wide items exchanged: 2 by 1, and above it 2 by 2
  pub equally-wide :
      fold_text
      (job_lines_i
      ++ line_of (7 ∷ 1 ∷ 0 ∷ 1 ∷ 1 ∷ 1 ∷ 1 ∷ 0 ∷ 0 ∷ 0 ∷ [])
      ++ line_of (7 ∷ 1 ∷ 0 ∷ 1 ∷ 2 ∷ 1 ∷ 2 ∷ 2 ∷ 0 ∷ 0 ∷ [])
      ++ line_of (7 ∷ 1 ∷ 0 ∷ 1 ∷ 2 ∷ 2 ∷ 3 ∷ 2 ∷ 1 ∷ 0 ∷ []))
      ≡ line_of (3 ∷ 0 ∷ 1 ∷ 1 ∷ 5 ∷ 4 ∷ 1 ∷ 0 ∷ [])
      ++ line_of (3 ∷ 1 ∷ 2 ∷ 1 ∷ 3 ∷ 4 ∷ 2 ∷ 0 ∷ [])
      ++ line_of (3 ∷ 6 ∷ 3 ∷ 1 ∷ 2 ∷ 3 ∷ 3 ∷ 0 ∷ [])
