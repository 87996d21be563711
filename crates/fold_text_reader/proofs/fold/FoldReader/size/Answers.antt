use mathlib.Core.Path.{sym, ◌∙◌}
use mathlib.Core.List.{[], ◌∷◌}
use Rattle.texts.specs.Shape.{size_line}
use Rattle.fold_text_reader.proofs.CodeLines.{numbers-refused, admits-size}
use Rattle.texts_reading.proofs.CodeJobLines.{refusal-number}
use Rattle.fold_text_reader.proofs.CodeAdmitted.{size-last, size-next}
use Rattle.fold_text_reader.proofs.fold.FoldReader.size.Goals as goal

pub returns-in-Err : goal.returns-in-Err
returns-in-Err c layouts q =
    let x = rw c.in-Err.is at c.read_size.ensures in
    let j = c.args.j in
    let job = c.args.job.now in
    let ns = c.args.numbers.now in
    rw (x.unchanged (refusal-number _))
    (numbers-refused ns c.args.self _ job layouts q (size_line j.0 ∷ []) (λ r k. admits-size c.args.self job layouts r k j c.requires.place_value.0) _ (refusal-number _) x.row (rw c.number.ensures at c.refused.ensures))

pub returns-then-head-j : goal.returns-then-head-j
returns-then-head-j c layouts q =
    let x = c.read_size in
    size-last c.args.numbers.now c.args.self _ c.args.j c.args.job.now layouts _ q c.requires.place_value.0 (rw c.in-Ok.is at x.ensures) x.auto.job c.requires.place_value.1.0 (sym c.head_of-head.ensures.of-sizes ∙ c.if-head-j.true) c.admitted.ensures

pub returns-else-head-j : goal.returns-else-head-j
returns-else-head-j c layouts q =
    let x = c.read_size in
    size-next c.args.numbers.now c.args.self _ c.args.j c.args.job.now layouts _ q c.requires.place_value.0 (rw c.in-Ok.is at x.ensures) x.auto.job c.requires.place_value.1.0 (λ e. c.if-head-j.false (c.head_of-head.ensures.of-sizes ∙ e)) c.admitted-in-Ok.ensures
