use Rattle.fold_text_call.specs.Called.{lent}
use Rattle.fold_text_call.proofs.Answers.{room-told, words-room, called, not-called}
use Rattle.fold_text_call.proofs.call.fold_in_parts.Goals as goal

-- `fold_in_parts` feeds the text in parts, which keeps what the whole does, and ends it.
pub read_in_parts-reader-requires : goal.read_in_parts-reader-requires
read_in_parts-reader-requires c =
    let a = c.args in
    let b = lent a.out.now a.job.now a.layouts.now a.plates.now a.cuts.now a.counts.now in
    words-room b (room-told b c.has_room.ensures c.if-has_room.true)

pub returns-then-has_room : goal.returns-then-has_room
returns-then-has_room c =
    let a = c.args in
    let b = lent a.out.now a.job.now a.layouts.now a.plates.now a.cuts.now a.counts.now in
    let room = room-told b c.has_room.ensures c.if-has_room.true in
    let read = c.read_in_parts-reader in
    called a.text.now b _ _ read.result read.auto.job read.auto.layouts read.ensures room c.finish.ensures.finished

pub returns : goal.returns
returns c = not-called _ _ c.has_room.ensures c.if-has_room.false
