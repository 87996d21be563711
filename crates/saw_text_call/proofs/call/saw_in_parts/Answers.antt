use mathlib.Core.Path.{refl}
use Rattle.saw_text_reader.specs.Parts.{AsLong}
use Rattle.saw_text_call.proofs.TextParts.{room-kept, answered}
use Rattle.saw_text_call.proofs.call.saw_in_parts.Goals as goal

-- `saw_in_parts` reads the text in parts and answers it, where there is room.
pub read_parts-parts-requires : goal.read_parts-parts-requires
read_parts-parts-requires c = (c.has_room.ensures.0 c.if-has_room.true).lent

pub finish_listed-requires : goal.finish_listed-requires
finish_listed-requires c room = (c.args.text.now, c.read_parts-parts.ensures)

pub returns-then-has_room : goal.returns-then-has_room
returns-then-has_room c =
    let text = c.args.text.now in
    let read = c.read_parts-parts in
    let long = read.auto in
    let as-long : AsLong _ _ = record { job = long.job; plates = long.plates; cuts = long.cuts; counts = long.counts; prices = long.prices } in
    let finished = c.finish_listed.ensures.finished in
    record {
      answered = λ room. answered text as-long read.ensures (finished (room-kept room read.ensures.ready.room) text read.ensures);
      unchanged = λ none. absurd (none (c.has_room.ensures.0 c.if-has_room.true));
    }

pub returns : goal.returns
returns c = record {
  answered = λ room. absurd (c.has_room.ensures.1 c.if-has_room.false room);
  unchanged = λ none. record { none_written = refl; output = refl; placed = refl; lent = refl };
}
