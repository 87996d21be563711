-- What the folding call's answer says, in document 01's results, numbers and places; and how a call ends by its verdict.
use Rattle.std.specs.Prelude.{ℕ, ◌≡◌, List, [], ◌∷◌, length, Result, Ok, Err}
use Rattle.job.specs.Verdict.{Verdict, ◌then◌}
use Rattle.job.specs.Buffers.{Answer, given, refused, answer}
use Rattle.job.specs.Job.{Job, job_of}
use Rattle.listing.specs.Listing.{model_row}
use Rattle.listing.specs.ListCall.{plates_end, cuts_end}
use Rattle.layouts.specs.Placement.{set_cost}
use Rattle.layouts.specs.Lines.{rows_of, set_of}
use Rattle.layouts.specs.LayoutsRow.{layouts_row}
use Rattle.layouts.specs.FoldCall.{counts_end}
use Rattle.job.specs.declared.refused.Refused.{Refused}
use Rattle.job.specs.Refused.{number_of}
use Rattle.fold_call.specs.declared.boards.Boards.{Boards}

-- the boards of the set and what they cost (request Six); or the refusal's number and its place
abbrev pub says_of : Result Boards Refused → Answer
says_of (Ok b) = given (b.number ∷ b.cost ∷ [])
says_of (Err r) = refused (number_of r.refusal) r.place

-- what is promised of a call that succeeds
abbrev pub OnSuccess : Result Boards Refused → (ℕ → ℕ → Type 0) → Type 0
OnSuccess (Ok b) promise = promise b.number b.cost
OnSuccess (Err r) promise = Unit {0}

-- the rows from the model on
abbrev pub fold_tail : Job → List ℕ → Verdict
fold_tail job layouts = model_row job then layouts_row 1 job (rows_of layouts)

-- `ws` are the job's words, `layouts` the layout words; the buffers as they were, the answer, and the buffers as they end
pub record Ended (v : Verdict) (ws layouts plates cuts counts : List ℕ) (a : Answer) (plates' cuts' counts' : List ℕ) : Type 0 where
  pub answered : a ≡ answer v (length (set_of layouts) ∷ set_cost (job_of ws) (set_of layouts) ∷ [])
  pub plates-end : plates' ≡ plates_end v ws plates
  pub cuts-end : cuts' ≡ cuts_end v ws cuts
  pub counts_at_end : counts' ≡ counts_end v ws layouts counts
