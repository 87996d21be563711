use mathlib.Core.Path.{ap}
use Rattle.std.proofs.lemmas.Result.{err_from_is_err_and}
use Rattle.texts_reading.specs.Judged.{number_said}
use Rattle.texts_reading.proofs.CodeJobLines.{said-passed}
use Rattle.saw_text_lines.proofs.TakeLaws.{first_refused, first_taken}
use Rattle.saw_text_lines.proofs.held.take_first.Goals as goal

-- `take_first` reads line 1.
pub returns-in_err-read_first : goal.returns-in_err-read_first
returns-in_err-read_first c s lines plates cuts counts prices e kept =
    let p = err_from_is_err_and c.from_residual.result c.from_residual.ensures.1 in
    rw (p.1, p.2)
    (first_refused s lines _ _ _ _ plates cuts counts prices _ e c.read_first.ensures kept _ (ap number_said c.in_err-read_first.was))

pub returns : goal.returns
returns c s lines plates cuts counts prices e kept =
    first_taken s lines _ _ _ _ plates cuts counts prices _ e c.read_first.ensures kept (said-passed c.in_ok-read_first.was)
