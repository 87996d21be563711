use mathlib.Core.Path.{refl}
use Rattle.job.specs.Job.{job_of}
use Rattle.job.proofs.head.head_of.Goals as goal

-- `head_of` reads the five words of the head.
pub returns : goal.returns
unfolding job_of
returns c = record {
  of-mode = c.from_line.ensures;
  of-sizes = refl;
  of-blade = refl;
  of_types = refl;
}
