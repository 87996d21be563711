-- Document 01, "Cases": the 6 by 6 example of source document 001, section 2.4: the plate types of its Table 4, the cuts of its Fig. 8, three boards.
use Rattle.std.specs.Prelude.{ℕ, ◌≡◌, List, [], ◌∷◌, ◌++◌}
use Rattle.std.proofs.Math.ListN.{replicate}
use Rattle.layouts.specs.UnfoldCall.{unfolding_of}
use Rattle.job.specs.Buffers.{given}
use Rattle.cases.specs.Calls.{listing, plan, unfolding', succeeds}
use Rattle.cases.specs.Jobs.{job6, plan6}

-- Table 4: six residual types after the board
unfoldable pub plates6 : List ℕ
plates6 =
    (6 ∷ 6 ∷ 1 ∷ 1 ∷ [])
    ++ (6 ∷ 3 ∷ 1 ∷ 0 ∷ [])
    ++ (2 ∷ 3 ∷ 2 ∷ 0 ∷ [])
    ++ (6 ∷ 4 ∷ 1 ∷ 0 ∷ [])
    ++ (4 ∷ 2 ∷ 2 ∷ 0 ∷ [])
    ++ (6 ∷ 2 ∷ 1 ∷ 0 ∷ [])
    ++ (2 ∷ 2 ∷ 2 ∷ 0 ∷ [])

-- Fig. 8: ten cuts
unfoldable pub cuts6 : List ℕ
cuts6 =
    (0 ∷ 2 ∷ 1 ∷ 2 ∷ [])
    ++ (0 ∷ 4 ∷ 3 ∷ 4 ∷ [])
    ++ (1 ∷ 2 ∷ 0 ∷ 2 ∷ [])
    ++ (1 ∷ 4 ∷ 0 ∷ 4 ∷ [])
    ++ (2 ∷ 4 ∷ 0 ∷ 0 ∷ [])
    ++ (3 ∷ 2 ∷ 0 ∷ 2 ∷ [])
    ++ (3 ∷ 4 ∷ 5 ∷ 4 ∷ [])
    ++ (4 ∷ 4 ∷ 0 ∷ 6 ∷ [])
    ++ (5 ∷ 4 ∷ 0 ∷ 4 ∷ [])
    ++ (6 ∷ 4 ∷ 0 ∷ 0 ∷ [])

pub record Example : Type 0 where
  pub listed : listing job6 ≡ succeeds (6 ∷ 10 ∷ []) plates6 cuts6 []
  pub accepted : plan job6 plan6 ≡ succeeds (3 ∷ 3 ∷ []) plates6 cuts6 []
  -- three boards, ten pieces, every count spent
  pub unfolded : (unfolding' job6 plan6).answer ≡ given (3 ∷ 10 ∷ 3 ∷ [])
  pub spent : (unfolding_of job6 plan6).last.counts ≡ replicate 10 0
