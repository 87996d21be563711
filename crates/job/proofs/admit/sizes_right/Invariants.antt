use mathlib.Core.Path.{◌≡◌}
use lib.ListN.{drop}
use Rattle.job.specs.Lists.{all}
use Rattle.job.specs.Job.{job_of, size_right}
use Rattle.job.proofs.admit.sizes_right.Given as goal

-- `sizes_right` looks at the sizes in rising number: what is left to test from size j on is the whole test.
abbrev pub invariant-loop-j : goal.invariant-loop-j
invariant-loop-j l = all size_right (job_of l.job).sizes ≡ all size_right (drop l.j (job_of l.job).sizes)
