use Rattle.std.proofs.Common.{arith}
use Rattle.saw_text_call.proofs.TextParts.{after_none, read_more, read_all}
use Rattle.saw_text_call.proofs.call.read_parts.Goals as goal

pub loop-end-init : goal.loop-end-init
loop-end-init c = record { within = omega arith; after = after_none c.requires c.start-reader.ensures }

pub loop-end-preserved : goal.loop-end-preserved
loop-end-preserved c = read_more _ c.loop-end.invariant (omega arith) (omega arith) c.feed-reader.ensures

pub returns : goal.returns
returns c = let l = c.loop-end.invariant in read_all (read_more _ l l.within (omega arith) c.feed.ensures)
