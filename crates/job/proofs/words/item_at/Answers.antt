use Rattle.job.proofs.ItemWords.{item_at-words}
use Rattle.job.proofs.words.item_at.Goals as goal

-- `item_at` reads the words of an item type.
pub returns : goal.returns
returns c = item_at-words c.args.job.now c.args.i.0 c.requires.0 c.requires.1
