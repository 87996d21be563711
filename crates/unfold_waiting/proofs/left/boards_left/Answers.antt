use mathlib.Core.Path.{◌∙◌}
use Rattle.unfold_waiting.proofs.CodeBegins.{boards-here}
use Rattle.unfold_waiting.proofs.left.boards_left.Goals as goal

pub returns : goal.returns
returns c job l m b = c.sum_of.ensures ∙ boards-here job l m c.args.begins.now c.args.counts.now c.args.j.0 c.requires b
