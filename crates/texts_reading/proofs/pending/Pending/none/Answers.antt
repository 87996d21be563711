use mathlib.Core.Path.{refl}
use Rattle.job.specs.Buffers.{filled}
use Rattle.texts_reading.proofs.pending.Pending.none.Goals as goal

-- `none` holds no byte.
pub returns : goal.returns
unfolding filled
returns c = record { bytes = refl; size = refl }
