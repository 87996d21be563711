use mathlib.Core.Path.{sym, ◌∙◌}
use mathlib.Core.List.{[], ◌∷◌}
use Rattle.texts.specs.Shape.{item_line}
use Rattle.fold_text_reader.proofs.CodeLines.{numbers-refused, admits-item}
use Rattle.texts_reading.proofs.CodeJobLines.{refusal-number}
use Rattle.fold_text_reader.proofs.CodeAdmitted.{item-last, item-next}
use Rattle.fold_text_reader.proofs.fold.FoldReader.item.Goals as goal

pub returns-in-Err : goal.returns-in-Err
returns-in-Err c layouts q =
    let x = rw c.in-Err.is at c.read_item.ensures in
    let i = c.args.i in
    let job = c.args.job.now in
    let ns = c.args.numbers.now in
    rw (x.unchanged (refusal-number _))
    (numbers-refused ns c.args.self _ job layouts q (item_line i.0 ∷ []) (λ r k. admits-item c.args.self job layouts r k i c.requires.place_value.0) _ (refusal-number _) x.row (rw c.number.ensures at c.refused.ensures))

pub returns-then-head-i : goal.returns-then-head-i
returns-then-head-i c layouts q =
    let x = c.read_item in
    item-last c.args.numbers.now c.args.self _ c.args.i c.args.job.now layouts _ q c.requires.place_value.0 (rw c.in-Ok.is at x.ensures) x.auto.job c.requires.place_value.1.0 (sym c.head_of-head.ensures.of_types ∙ c.if-head-i.true) c.admitted.ensures

pub returns-else-head-i : goal.returns-else-head-i
returns-else-head-i c layouts q =
    let x = c.read_item in
    item-next c.args.numbers.now c.args.self _ c.args.i c.args.job.now layouts _ q c.requires.place_value.0 (rw c.in-Ok.is at x.ensures) x.auto.job c.requires.place_value.1.0 (λ e. c.if-head-i.false (c.head_of-head.ensures.of_types ∙ e)) c.admitted-in-Ok.ensures
