use mathlib.Core.List.{[], ◌∷◌}
use Rattle.texts.specs.Shape.{job_line}
use Rattle.fold_text_reader.proofs.CodeLines.{numbers-refused, admits-first}
use Rattle.texts_reading.proofs.CodeJobLines.{refusal-number}
use Rattle.fold_text_reader.proofs.CodeAdmitted.{first_step}
use Rattle.fold_text_reader.proofs.fold.FoldReader.first.Goals as goal

-- `first` reads line 1, and line 10 of size 0 comes next.
pub returns-in-Err : goal.returns-in-Err
returns-in-Err c layouts q =
    let x = rw c.in-Err.is at c.read_first.ensures in
    let job = c.args.job.now in
    let ns = c.args.numbers.now in
    rw (x.unchanged (refusal-number _))
    (numbers-refused ns c.args.self _ job layouts q (job_line ∷ []) (λ r k. admits-first c.args.self job layouts r k c.requires.0) _ (refusal-number _) x.row (rw c.number.ensures at c.refused.ensures))

pub returns-in-Ok : goal.returns-in-Ok
returns-in-Ok c layouts q =
    let x = c.read_first in
    first_step c.args.numbers.now c.args.self _ c.args.job.now layouts _ q c.requires.0 (rw c.in-Ok.is at x.ensures) x.auto.job c.requires.1.0 c.admitted.ensures
