use Prim.Native.Nat.{◌+◌, ◌≤◌}
use native.Mathlib.Omega.{arith}
use lib.Dec.{lit<}
use lib.ListN.{length, get_or}
use Rattle.job.specs.Sizes.{max_types}
use Rattle.job.specs.Job.{job_of}
use Rattle.job.proofs.CodeAdmission.{passed_length, passed-few}
use Rattle.job.proofs.CodeItems.{items-length}
use Rattle.layouts_lines.proofs.CodeDemands.{sums_none, passed-types, lacking-said}
use Rattle.layouts_lines.proofs.demands.lacking_row.Goals as goal

-- `lacking_row` counts the lines, and then compares the sums with the demands.
pub head_of-head-requires : goal.head_of-head-requires
head_of-head-requires c = omega (arith, passed_length _ c.requires.job_value.0)

pub count_lines-requires : goal.count_lines-requires
count_lines-requires c =
    let ws = c.args.job.now in
    let few : length (job_of ws).items ≤ max_types = rw (items-length ws (get_or ws 3 0) (passed_length ws c.requires.job_value.0)) (passed-few ws c.requires.job_value.0) in record { layouts_len = (c.requires.layouts_len.0, (c.requires.layouts_len.1, passed-types (job_of ws) c.args.layouts.now c.args.lines c.requires.job_value.1 few c.requires.layouts_len.0)); max_types_in_bounds = (lit< tt, sums_none (max_types + 1)) }

pub types_short-requires : goal.types_short-requires
types_short-requires c =
    let ws = c.args.job.now in
    let e = c.head_of-head.ensures.of_types in
    (rw e (passed_length ws c.requires.job_value.0), (rw e (passed-few ws c.requires.job_value.0), omega (arith, e, passed-few ws c.requires.job_value.0, c.count_lines.auto.sums)))

pub returns : goal.returns
returns c =
    let ws = c.args.job.now in
    let call = c.count_lines in
    let few : length (job_of ws).items ≤ max_types = rw (items-length ws (get_or ws 3 0) (passed_length ws c.requires.job_value.0)) (passed-few ws c.requires.job_value.0) in
    lacking-said (job_of ws) c.args.layouts.now call.new.sums call.ensures (omega (arith, few, call.auto.sums)) c.types_short.ensures
