use mathlib.Core.Path.{◌≡◌}
use lib.ListN.{length}
use Rattle.job.specs.Job.{job_of}
use Rattle.listing.specs.Records.{plate_words}
use Rattle.listing.specs.Holds.{Holds}
use Rattle.listing_call.proofs.Sizing.{first_sizes}
use Rattle.listing_call.proofs.sizes.put_sizes.Given as goal

-- `put_sizes` writes the sizes in rising number: after j of them the buffer holds the first j.
abbrev pub invariant-loop-j : goal.invariant-loop-j
invariant-loop-j l = Holds l.plates (plate_words (job_of l.job) (first_sizes (job_of l.job) l.j)) × (length l.plates ≡ length l.initial.plates)
