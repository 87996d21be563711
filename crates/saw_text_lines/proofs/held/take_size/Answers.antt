use mathlib.Core.Path.{ap}
use Rattle.std.proofs.lemmas.Result.{err_from_is_err_and}
use Rattle.texts_reading.specs.Judged.{number_said}
use Rattle.texts_reading.proofs.CodeJobLines.{said-passed}
use Rattle.saw_text_lines.proofs.TakeLaws.{size-refused, size-some, size-all}
use Rattle.saw_text_lines.proofs.held.take_size.Goals as goal

-- `take_size` reads line 10 of a size; after the last size come the lines 2.
pub returns-in_err-read_size : goal.returns-in_err-read_size
returns-in_err-read_size c s lines plates cuts counts prices e kept =
    let p = err_from_is_err_and c.from_residual.result c.from_residual.ensures.1 in
    rw (p.1, p.2)
    (size-refused s lines _ c.args.j _ _ _ plates cuts counts prices _ e c.read_size.ensures kept _ (ap number_said c.in_err-read_size.was))

pub returns-then-head-j : goal.returns-then-head-j
returns-then-head-j c s lines plates cuts counts prices e kept =
    size-some s lines _ c.args.j _ _ _ plates cuts counts prices _ e c.read_size.ensures kept (said-passed c.in_ok-read_size.was)
    _ c.head_of-head.ensures.of-sizes c.if-head-j.true

pub returns : goal.returns
returns c s lines plates cuts counts prices e kept =
    size-all s lines _ c.args.j _ _ _ plates cuts counts prices _ e c.read_size.ensures kept (said-passed c.in_ok-read_size.was)
    _ c.head_of-head.ensures.of-sizes c.if-head-j.false
