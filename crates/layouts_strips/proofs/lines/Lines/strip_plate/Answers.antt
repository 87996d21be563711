use lib.ListN.{drop}
use Rattle.layouts.specs.Lines.{rows_of}
use Rattle.layouts_strips.proofs.CodeBegun.{plate-same, plate-named}
use Rattle.layouts_strips.proofs.lines.Lines.strip_plate.Goals as goal

-- `strip_plate` goes by what the line begins.
pub returns-then-begins_strip : goal.returns-then-begins_strip
returns-then-begins_strip c =
    let a = c.args in
    plate-same (drop a.c (rows_of a.self.now.layouts.now)) a.further.0 c.begins_strip.ensures c.if-begins_strip.true

pub returns : goal.returns
returns c =
    let a = c.args in
    plate-named (drop a.c (rows_of a.self.now.layouts.now)) a.further.0 c.begins_strip.ensures c.if-begins_strip.false c.size_named.ensures
