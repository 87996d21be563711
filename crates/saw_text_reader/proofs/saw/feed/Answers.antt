use borrow.Author.Tests.{not-true, not-false}
use Rattle.saw_text_reader.proofs.PartSteps.{fed-unready}
use Rattle.saw_text_reader.proofs.saw.feed.Goals as goal

-- `feed` gives back what is not ready, and feeds the part to what is.
pub returns-then-not-ready : goal.returns-then-not-ready
returns-then-not-ready c = fed-unready (c.ready.ensures.1 (not-true _ c.if-not-ready.true-raw))

pub feed_ready-requires : goal.feed_ready-requires
feed_ready-requires c = c.ready.ensures.0 (not-false _ c.if-not-ready.false-raw)

pub returns : goal.returns
returns c = c.feed_ready.ensures
