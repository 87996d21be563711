use native.Mathlib.Omega.{arith}
use Rattle.job.proofs.CodeAdmission.{passed_length, passed-few}
use Rattle.job.proofs.admit.admit.Goals as goal

-- `admit` checks the item types' sizes, and then the sum of the demands.
pub head_of-head-requires : goal.head_of-head-requires
head_of-head-requires c = omega (arith, passed_length _ c.requires)

pub types_fit-requires : goal.types_fit-requires
types_fit-requires c =
    let e = c.head_of-head.ensures.of_types in
    (rw e (passed_length _ c.requires), rw e (passed-few _ c.requires))

pub demanded-requires : goal.demanded-requires
demanded-requires c =
    let e = c.head_of-head.ensures.of_types in
    (rw e (passed_length _ c.requires), rw e (passed-few _ c.requires))
