use native.Mathlib.Omega.{arith}
use Rattle.job.proofs.CodeAdmission.{passed_length}
use Rattle.fold_call.proofs.Passed.{lent-lines, staged}
use Rattle.fold_call.proofs.call.fold_set.Goals as goal

pub head_of-head-requires : goal.head_of-head-requires
head_of-head-requires c = omega (arith, passed_length c.args.job.now c.requires.job_value.0)

-- `fold_set` folds the lines, counts their boards and adds up what they cost.
pub fold_into-requires : goal.fold_into-requires
fold_into-requires c =
    let ws = c.args.job.now in
    let layouts = c.args.layouts.now in
    let p = c.requires.job_value in record { lines_lent = lent-lines ws layouts p.0 p.1.0 p.1.1; mode_value = (c.head_of-head.ensures.of-mode, staged ws layouts p.0 p.1.0 p.1.1); cuts_lent = c.requires.cuts_lent }

pub invariant_of-lines : goal.invariant_of-lines
invariant_of-lines c =
    let ws = c.args.job.now in
    let layouts = c.args.layouts.now in
    let p = c.requires.job_value in
    record { lent = (lent-lines ws layouts p.0 p.1.0 p.1.1).lines-lent }
