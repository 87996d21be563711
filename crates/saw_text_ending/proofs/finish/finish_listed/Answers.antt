use borrow.Author.Tests.{not-false}
use Rattle.texts.specs.Reader.{started, fed}
use Rattle.texts.specs.SawText.{saw_grammar}
use Rattle.saw_text_lines.specs.SawKept.{lent}
use Rattle.saw_text_ending.proofs.KeptEnds.{text-ends, finished}
use Rattle.saw_text_ending.proofs.finish.finish_listed.Goals as goal

-- `finish_listed` is the end of the text that the reader keeps.
pub end_text-requires : goal.end_text-requires
end_text-requires c =
    let a = c.args in
    let room = c.has_room.ensures.0 (not-false _ c.if-not-has_room.false-raw) in
    let some = c.requires room in record { text_ends = (fed saw_grammar (started saw_grammar) some.0, text-ends a.reader (lent a.job.now a.plates.now a.cuts.now a.counts.now a.prices.now) some.0 some.1); placements_size_in_bounds = (room.for-placements, room.for-out) }

pub returns : goal.returns
returns c =
    let a = c.args in
    let b = lent a.job.now a.plates.now a.cuts.now a.counts.now a.prices.now in record { unchanged = (λ none. absurd (none (c.has_room.ensures.0 (not-false _ c.if-not-has_room.false-raw)))); finished = (λ room bs kept. finished (fed saw_grammar (started saw_grammar) bs) (c.end_text.ensures (fed saw_grammar (started saw_grammar) bs) (text-ends a.reader b bs kept))) }
