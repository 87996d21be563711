use lib.ListN.{drop}
use Rattle.layouts.specs.Lines.{rows_of, begun}
use Rattle.layouts_strips.proofs.CodeLaid.{below-same, below_none}
use Rattle.layouts_strips.proofs.lines.Lines.next_below.Goals as goal

-- `next_below` keeps the height on the same board.
pub returns-then-begins_strip : goal.returns-then-begins_strip
returns-then-begins_strip c =
    let a = c.args in
    below-same (begun (drop a.c (rows_of a.self.now.layouts.now))) a.above c.begins_strip.ensures c.if-begins_strip.true

pub returns : goal.returns
returns c =
    let a = c.args in
    below_none (begun (drop a.c (rows_of a.self.now.layouts.now))) a.above c.begins_strip.ensures c.if-begins_strip.false
