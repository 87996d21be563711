-- Document 01, "Unfolding": which piece is taken, and that none is left out, where job A and job B do not show it; each field says what it shuts out.
use Rattle.std.specs.Prelude.{◌≡◌, List, [], ◌∷◌, ◌++◌, ℕ}
use Rattle.layouts.specs.UnfoldCall.{unfolding_of}
use Rattle.columns.specs.Line.{line_of}
use Rattle.texts.specs.SawText.{saw_text}
use Rattle.cases.specs.Jobs.{job_a}
use Rattle.cases.specs.TextsA.{head_lines}

-- 3N, 7 by 5: 3 by 5 once, 2 by 2 four times; a plan of one board with two stacks of 2 by 2
unfoldable pub two_stacks_lines : List ℕ
two_stacks_lines =
    head_lines 3 0 7 5 2 0
    ++ line_of (2 ∷ 1 ∷ 3 ∷ 5 ∷ 1 ∷ 0 ∷ [])
    ++ line_of (2 ∷ 2 ∷ 2 ∷ 2 ∷ 4 ∷ 0 ∷ [])
    ++ line_of (3 ∷ 0 ∷ 1 ∷ 1 ∷ 7 ∷ 5 ∷ 1 ∷ 0 ∷ [])
    ++ line_of (3 ∷ 1 ∷ 2 ∷ 1 ∷ 4 ∷ 5 ∷ 2 ∷ 0 ∷ [])
    ++ line_of (3 ∷ 4 ∷ 2 ∷ 2 ∷ 2 ∷ 3 ∷ 3 ∷ 0 ∷ [])
    ++ line_of (3 ∷ 5 ∷ 2 ∷ 1 ∷ 2 ∷ 5 ∷ 2 ∷ 0 ∷ [])

-- 2N, 9 by 7: 3 by 3 four times; a plan of one item to a board, top and right left over each time
unfoldable pub left_over_lines : List ℕ
left_over_lines =
    head_lines 2 0 9 7 1 0
    ++ line_of (2 ∷ 1 ∷ 3 ∷ 3 ∷ 4 ∷ 0 ∷ [])
    ++ line_of (3 ∷ 0 ∷ 1 ∷ 4 ∷ 9 ∷ 7 ∷ 1 ∷ 0 ∷ [])

pub record UnfoldOrder : Type 0 where
  -- "always the piece of the highest stage is taken": stage 2 before stage 3, where both wait
  pub highest-stage :
      saw_text two_stacks_lines
      ≡ line_of (7 ∷ 1 ∷ 0 ∷ 1 ∷ 1 ∷ 1 ∷ 1 ∷ 0 ∷ 0 ∷ 0 ∷ [])
      ++ line_of (7 ∷ 1 ∷ 0 ∷ 1 ∷ 2 ∷ 1 ∷ 2 ∷ 3 ∷ 0 ∷ 0 ∷ [])
      ++ line_of (7 ∷ 1 ∷ 0 ∷ 1 ∷ 2 ∷ 2 ∷ 2 ∷ 3 ∷ 2 ∷ 0 ∷ [])
      ++ line_of (7 ∷ 1 ∷ 0 ∷ 1 ∷ 3 ∷ 1 ∷ 2 ∷ 5 ∷ 0 ∷ 0 ∷ [])
      ++ line_of (7 ∷ 1 ∷ 0 ∷ 1 ∷ 3 ∷ 2 ∷ 2 ∷ 5 ∷ 2 ∷ 0 ∷ [])
      ++ line_of (8 ∷ 1 ∷ 0 ∷ 1 ∷ 0 ∷ [])
  -- "until the counts on type 0 are spent": an unfolding that ends before the last board is cut, since every board leaves two pieces over
  pub all-boards :
      saw_text left_over_lines
      ≡ line_of (7 ∷ 1 ∷ 0 ∷ 1 ∷ 1 ∷ 1 ∷ 1 ∷ 0 ∷ 0 ∷ 0 ∷ [])
      ++ line_of (7 ∷ 2 ∷ 0 ∷ 1 ∷ 1 ∷ 1 ∷ 1 ∷ 0 ∷ 0 ∷ 0 ∷ [])
      ++ line_of (7 ∷ 3 ∷ 0 ∷ 1 ∷ 1 ∷ 1 ∷ 1 ∷ 0 ∷ 0 ∷ 0 ∷ [])
      ++ line_of (7 ∷ 4 ∷ 0 ∷ 1 ∷ 1 ∷ 1 ∷ 1 ∷ 0 ∷ 0 ∷ 0 ∷ [])
      ++ line_of (8 ∷ 4 ∷ 0 ∷ 1 ∷ 0 ∷ [])
  -- a board opened for a count that is not on a size: of counts that are no plan, cut 7 stays, since no piece of its type arises
  pub boards-of-sizes : (unfolding_of job_a (1 ∷ 0 ∷ 0 ∷ 0 ∷ 0 ∷ 0 ∷ 1 ∷ 0 ∷ [])).last.turn.board.number ≡ 1
