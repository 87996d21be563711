use Rattle.placement.proofs.Rows.{read-placed}
use Rattle.layouts_strips.proofs.CodeBegun.{size-past, size-line}
use Rattle.layouts_strips.proofs.lines.Lines.size_named.Goals as goal

-- `size_named` reads the line, where there is one.
pub returns-then-self-c : goal.returns-then-self-c
returns-then-self-c c = size-past c.args.self.now.layouts.now c.args.self.now.number c.args.c c.args.self.now.lent.whole c.if-self-c.true

pub returns : goal.returns
returns c = size-line c.args.self.now.layouts.now c.args.self.now.number c.args.c c.args.self.now.lent.whole c.if-self-c.false (read-placed c.placement_at.ensures)
