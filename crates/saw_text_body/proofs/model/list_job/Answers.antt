use mathlib.Core.Path.{sym}
use lib.Seq.{length-take-le}
use Rattle.job.specs.Sizes.{job_size}
use Rattle.texts_reading.proofs.JobKept.{held-take}
use Rattle.saw_text_body.proofs.ModelLaws.{model-kept}
use Rattle.saw_text_body.proofs.model.list_job.Goals as goal

-- `list_job` is the listing call of the job's words.
pub slice_bounds-list-end : goal.slice_bounds-list-end
slice_bounds-list-end c = sym (length-take-le (job_size c.args.t.0 c.args.n.0) c.args.job.now c.requires)

pub returns-in-Ok : goal.returns-in-Ok
returns-in-Ok c ws size held =
    let said = rw (c.in-Ok.is, held-take (job_size c.args.t.0 c.args.n.0) size held) at c.list.ensures in
    model-kept ws _ _ _ _ _ c.list.auto.plates c.list.auto.cuts said.sizes_listed said.result_value said.plates_after said.cuts_after

pub returns-in-Err : goal.returns-in-Err
returns-in-Err c ws size held =
    let said = rw (c.in-Err.is, held-take (job_size c.args.t.0 c.args.n.0) size held) at c.list.ensures in
    rw c.number.ensures
    (model-kept ws _ _ _ _ _ c.list.auto.plates c.list.auto.cuts said.sizes_listed said.result_value said.plates_after said.cuts_after)
