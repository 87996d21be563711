use Rattle.std.proofs.Common.{arith}
use Rattle.texts.specs.SawText.{saw_text}
use Rattle.saw.proofs.SawTextText.finish.Goals as goal

pub finish_listed-requires : goal.finish_listed-requires
finish_listed-requires c room = c.requires.read

pub returns : goal.returns
unfolding saw_text
returns c = record {
  counted = λ text kept. (c.finish_listed.ensures.finished (record { lent = kept.ready.room; for-placements = omega arith; for-out = c.requires.room }) text kept).size;
  written = λ text kept. (c.finish_listed.ensures.finished (record { lent = kept.ready.room; for-placements = omega arith; for-out = c.requires.room }) text kept).output;
}
