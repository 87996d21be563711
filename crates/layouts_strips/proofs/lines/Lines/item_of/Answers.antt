use Rattle.job.specs.Job.{job_of}
use Rattle.layouts_strips.proofs.CodeStacks.{lent-small, small-read, lent-item, item-said}
use Rattle.layouts_strips.proofs.lines.Lines.item_of.Goals as goal

-- `item_of` reads the line, and then the item type that it names, in its turn.
pub position-requires : goal.position-requires
position-requires c = small-read c.placement_at.ensures (lent-small c.args.self.now.lent c.args.c c.requires)

pub position_at-requires : goal.position_at-requires
position_at-requires c = lent-item c.args.self.now.lent c.requires c.placement_at.ensures c.position.ensures

pub returns : goal.returns
returns c = item-said (job_of c.args.self.now.job.now) c.args.self.now.layouts.now c.args.c c.position_at.ensures c.position.ensures c.placement_at.ensures
