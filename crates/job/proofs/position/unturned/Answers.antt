use mathlib.Core.Path.{refl}
use Rattle.job.specs.Job.{unturned}
use Rattle.job.proofs.position.unturned.Goals as goal

-- `unturned` keeps the item's sides.
pub returns : goal.returns
unfolding unturned
returns c = refl
