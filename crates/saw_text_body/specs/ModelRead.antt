-- Document 01, "Plates and cuts": the model of a saw text's job, as the listing call leaves it in the lent plates and cuts.
use Rattle.std.specs.Prelude.{ℕ, ◌-◌, ◌≤◌, ◌≡◌, List, [], ◌∷◌, length}
use Rattle.job.specs.Job.{Job, job_of}
use Rattle.job.specs.Buffers.{Answer, given, refused}
use Rattle.listing.specs.ListCall.{list_verdict, list_answer, plates_end, cuts_end}
use Rattle.saw_text_body.specs.declared.model.Model.{Model}
use Rattle.saw_text_body.specs.declared.model.Model.TheVariants.{Listed, Refused}

-- what a model says, as the listing call does: the numbers of residual types (request Six) and of cuts; or the refusal's number and its place
abbrev pub says_of : Job → Model → Answer
says_of job (Listed types cuts) = given ((types.0 - length job.sizes) ∷ cuts.0 ∷ [])
says_of job (Refused number place) = refused number place

-- the sizes of the job are among the plate types
abbrev pub SizesListed : Job → Model → Type 0
SizesListed job (Listed types cuts) = length job.sizes ≤ types.0
SizesListed job (Refused number place) = Unit {0}

-- what the listing call says of the job's words ws, whose sizes are among the plate types, and what it leaves in the plates and the cuts
pub record ModelKept (ws : List ℕ) (a : Model) (plates cuts : List ℕ) : Type 0 where
  pub sizes-listed : SizesListed (job_of ws) a
  pub says : says_of (job_of ws) a ≡ list_answer ws plates cuts
  pub plates-are : plates ≡ plates_end (list_verdict ws plates cuts) ws plates
  pub cuts_are : cuts ≡ cuts_end (list_verdict ws plates cuts) ws cuts
