use Rattle.placement.proofs.Rows.{read-placed}
use Rattle.layouts_strips.proofs.CodeBegun.{begun-past, begun-place, begun-stack, begun-strip, begun-board}
use Rattle.layouts_strips.proofs.begins.begins_at.Goals as goal

-- `begins_at` tests place, stack and strip of the line in turn.
pub returns-then-lines-c : goal.returns-then-lines-c
returns-then-lines-c c = begun-past c.args.layouts.now c.args.lines c.args.c c.requires.0 c.if-lines-c.true

pub returns-then-line-ne1 : goal.returns-then-line-ne1
returns-then-line-ne1 c = begun-place c.args.layouts.now c.args.lines c.args.c c.requires.0 c.if-lines-c.false (read-placed c.placement_at-line.ensures) c.if-line-ne1.true

pub returns-then-line-ne1-2 : goal.returns-then-line-ne1-2
returns-then-line-ne1-2 c = begun-stack c.args.layouts.now c.args.lines c.args.c c.requires.0 c.if-lines-c.false (read-placed c.placement_at-line.ensures) c.if-line-ne1.false c.if-line-ne1-2.true

pub returns-then-line-ne1-3 : goal.returns-then-line-ne1-3
returns-then-line-ne1-3 c = begun-strip c.args.layouts.now c.args.lines c.args.c c.requires.0 c.if-lines-c.false (read-placed c.placement_at-line.ensures) c.if-line-ne1.false c.if-line-ne1-2.false c.if-line-ne1-3.true

pub returns : goal.returns
returns c = begun-board c.args.layouts.now c.args.lines c.args.c c.requires.0 c.if-lines-c.false (read-placed c.placement_at-line.ensures) c.if-line-ne1.false c.if-line-ne1-2.false c.if-line-ne1-3.false
