use mathlib.Core.Path.{sym}
use Rattle.unfold_waiting.proofs.CodeSearch.{spent-at}
use Rattle.unfold_waiting.proofs.search.spend.Goals as goal

-- `spend` takes one from the count of a cut.
pub returns : goal.returns
returns c = sym (spent-at c.args.counts.now c.args.k.0 c.requires.0)
