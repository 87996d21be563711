-- What the listing call's answer says, in document 01's results, numbers and places.
use Rattle.std.specs.Prelude.{◌-◌, ◌≤◌, [], ◌∷◌, length, Result, Ok, Err}
use Rattle.job.specs.Job.{Job}
use Rattle.job.specs.Buffers.{Answer, given, refused}
use Rattle.job.specs.declared.refused.Refused.{Refused}
use Rattle.job.specs.Refused.{number_of}
use Rattle.listing_call.specs.declared.walk.Listed.{Listed}

-- the numbers of residual types, which are all plate types but the sizes of the job (request Six), and of cuts; or the refusal's number and its place
abbrev pub says_of : Job → Result Listed Refused → Answer
says_of job (Ok a) = given ((a.plates.0 - length job.sizes) ∷ a.cuts.0 ∷ [])
says_of job (Err r) = refused (number_of r.refusal) r.place

-- the sizes of the job are among the plate types
abbrev pub SizesListed : Job → Result Listed Refused → Type 0
SizesListed job (Ok a) = length job.sizes ≤ a.plates.0
SizesListed job (Err r) = Unit {0}

-- what is promised of a call that succeeds
abbrev pub OnListed : Result Listed Refused → Type 0 → Type 0
OnListed (Ok a) promise = promise
OnListed (Err r) promise = Unit {0}
