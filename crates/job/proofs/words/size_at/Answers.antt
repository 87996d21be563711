use Rattle.job.proofs.SizeWords.{size_at-words}
use Rattle.job.proofs.words.size_at.Goals as goal

-- `size_at` reads the words of a size.
pub returns : goal.returns
returns c = size_at-words c.args.job.now c.requires.1 c.args.j.0 c.requires.0
