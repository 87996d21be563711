use Rattle.fold_text_reader.proofs.CodeSplits.{part-read}
use Rattle.fold.proofs.FoldTextText.feed.Goals as goal

pub returns : goal.returns
returns c text kept = part-read text c.args.part.now kept c.feed-self.ensures
