-- Document 01, "Plates and cuts": what a cut leaves that neither job A nor job B shows, as listings of small jobs; each field says what it shuts out.
use Rattle.std.specs.Prelude.{◌≡◌, List, [], ◌∷◌, ℕ}
use Rattle.job.specs.Buffers.{given}
use Rattle.cases.specs.Calls.{listing}
use Rattle.cases.specs.Jobs.{on_board}

-- 2N, 4 by 4: 2 by 4 and 2 by 2; at stage 2 the item of 2 by 2 leaves a height of 2 above it
unfoldable pub low_strip : List ℕ
low_strip = on_board 2 0 4 4 2 0 (2 ∷ 4 ∷ 1 ∷ 0 ∷ 2 ∷ 2 ∷ 1 ∷ 0 ∷ [])

-- 3N, 7 by 5: 4 by 2, 3 by 5 and 2 by 2; at stage 3 the item of 2 by 2 leaves a width of 2 beside it
unfoldable pub narrow_stack : List ℕ
narrow_stack = on_board 3 0 7 5 3 0 (4 ∷ 2 ∷ 1 ∷ 0 ∷ 3 ∷ 5 ∷ 1 ∷ 0 ∷ 2 ∷ 2 ∷ 1 ∷ 0 ∷ [])

pub record Leavings : Type 0 where
  -- a top of a two-stage strip that is kept: "what lies above is waste"
  pub two-stage-top : (listing low_strip).answer ≡ given (3 ∷ 6 ∷ [])
  -- a right of a stage 3 plate that is kept: "what lies beside is waste"
  pub stage-three-right : (listing narrow_stack).answer ≡ given (7 ∷ 15 ∷ [])
