-- What the unfolding call's answer says, in document 01's results, numbers and places; and how a call ends by its verdict.
use Rattle.std.specs.Prelude.{ℕ, ◌≡◌, List, [], ◌∷◌, length, Result, Ok, Err}
use Rattle.job.specs.Verdict.{Verdict}
use Rattle.job.specs.Buffers.{Answer, given, refused, answer}
use Rattle.listing.specs.ListCall.{plates_end, cuts_end}
use Rattle.layouts.specs.UnfoldCall.{unfolding_of, offcuts_from, placements_end, offcuts_end}
use Rattle.job.specs.declared.refused.Refused.{Refused}
use Rattle.job.specs.Refused.{number_of}
use Rattle.unfold_run.specs.declared.run.Ran.{Ran}

-- the boards used, the pieces placed and the offcuts left over; or the refusal's number and its place
abbrev pub says_of : Result Ran Refused → Answer
says_of (Ok r) = given (r.boards ∷ r.pieces ∷ r.offcuts ∷ [])
says_of (Err r) = refused (number_of r.refusal) r.place

-- what is promised of a call that succeeds
abbrev pub OnSuccess : Result Ran Refused → (ℕ → ℕ → ℕ → Type 0) → Type 0
OnSuccess (Ok r) promise = promise r.boards r.pieces r.offcuts
OnSuccess (Err r) promise = Unit {0}

-- "unfolding, boards and pieces"; of offcuts it "also gives their number" (request Two)
abbrev pub results : List ℕ → List ℕ → List ℕ
results ws counts =
    (unfolding_of ws counts).last.turn.board.number ∷ length (unfolding_of ws counts).placements ∷ length (offcuts_from ws counts) ∷ []

-- `ws` are the job's words, `first` and `second` the two lengths, `counts` the counts passed in; the buffers as they were, the answer, and the buffers as
-- they end
pub record Ended (v : Verdict) (ws : List ℕ) (first second : ℕ) (counts plates cuts placements offcuts : List ℕ) (a : Answer) (plates' cuts' placements' offcuts' : List ℕ) : Type 0 where
  pub answered : a ≡ answer v (results ws counts)
  pub plates-end : plates' ≡ plates_end v ws plates
  pub cuts-end : cuts' ≡ cuts_end v ws cuts
  pub placements-end : placements' ≡ placements_end v ws counts placements
  pub offcuts-end : offcuts' ≡ offcuts_end v ws first second counts offcuts
