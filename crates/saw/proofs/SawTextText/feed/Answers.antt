use Rattle.saw_text_reader.proofs.SawSplits.{in_parts}
use Rattle.saw.proofs.SawTextText.feed.Goals as goal

pub returns : goal.returns
returns c text kept = in_parts.more text c.args.part.now _ _ _ _ kept c.feed-self.ensures
