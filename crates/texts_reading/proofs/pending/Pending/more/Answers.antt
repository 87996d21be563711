use mathlib.Core.Path.{refl}
use Rattle.texts_reading.proofs.CodeLine.{begun_more}
use Rattle.texts_reading.proofs.pending.Pending.more.Goals as goal

pub returns : goal.returns
returns c = (refl, λ bs b. begun_more c.args.self c.args.part.now c.args.at c.args.end c.requires.0 c.requires.1.0 bs b c.requires.1.1 c.put_bytes.ensures refl)
