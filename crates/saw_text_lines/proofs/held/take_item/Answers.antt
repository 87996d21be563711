use native.Mathlib.Omega.{arith}
use mathlib.Core.Path.{ap}
use Rattle.std.proofs.lemmas.Result.{err_from_is_err_and}
use Rattle.texts_reading.specs.Judged.{number_said}
use Rattle.texts_reading.proofs.CodeJobLines.{said-passed}
use Rattle.saw_text_lines.proofs.TakeLaws.{item_refused, item-some, item-all}
use Rattle.saw_text_lines.proofs.held.take_item.Goals as goal

-- `take_item` reads line 2 of a type; after the last type the job is listed.
pub returns-in_err-read_item : goal.returns-in_err-read_item
returns-in_err-read_item c s lines counts prices e room kept =
    let p = err_from_is_err_and c.from_residual.result c.from_residual.ensures.1 in
    rw (p.1, p.2)
    (item_refused s lines _ c.args.i _ _ _ _ _ counts prices _ e c.read_item.ensures kept _ (ap number_said c.in_err-read_item.was))

pub returns-then-i-head : goal.returns-then-i-head
returns-then-i-head c s lines counts prices e room kept =
    item-some s lines _ c.args.i _ _ _ _ _ counts prices _ e c.read_item.ensures kept (said-passed c.in_ok-read_item.was)
    _ c.head_of-head.ensures.of_types c.if-i-head.true

pub list_job-model-requires : goal.list_job-model-requires
list_job-model-requires c = omega (arith, c.requires.1.1, c.head_of-head.ensures.of-sizes, c.if-i-head.false, c.read_item.auto.job)

pub returns : goal.returns
returns c s lines counts prices e room kept =
    let listed = c.list_job-model in
    let head = c.head_of-head in
    item-all s lines _ c.args.i _ _ _ _ _ counts prices _ e c.read_item.ensures kept (said-passed c.in_ok-read_item.was)
    _ _ _ _ _ head.ensures.of-sizes head.ensures.of_types c.if-i-head.false (omega (arith, room.for-cuts, listed.auto.cuts)) room.for-counts listed.ensures
