use native.Mathlib.Omega.{arith}
use Rattle.job.proofs.CodeAdmission.{passed_length, passed_words}
use Rattle.job.proofs.job_read.JobRead.new.Goals as goal

pub head_of-requires : goal.head_of-requires
head_of-requires c = omega (arith, passed_length _ c.requires)

pub invariant_of-result : goal.invariant_of-result
invariant_of-result c = record { read = passed_words _ c.requires c.head_of.ensures; blade = c.head_of.ensures.of-blade }
