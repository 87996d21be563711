use mathlib.Core.Path.{◌≡◌}
use lib.ListN.{drop}
use Rattle.job.specs.Lists.{any}
use Rattle.job.specs.Job.{job_of, fits_in, fits}
use Rattle.job.proofs.admit.fits.Given as goal

-- `fits` looks at the sizes in rising number: what is left to try from size j on is the whole test.
abbrev pub invariant-loop-j : goal.invariant-loop-j
invariant-loop-j l = fits (job_of l.job) l.position ≡ any (fits_in l.position) (drop l.j (job_of l.job).sizes)
