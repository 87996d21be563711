use native.Mathlib.Omega.{arith}
use Rattle.texts_reading.proofs.LineWithin.{within}
use Rattle.texts_reading.proofs.text.TextReader.line_within.Goals as goal

-- a line is looked for only where the text goes on and none has begun
pub returns : goal.returns
returns c h =
    let a = c.args in
    let x = c.complete_line in
    within a.self a.part.now a.at a.numbers.now x.new.numbers (omega arith) (omega arith) (omega arith) h x.result (x.ensures h)
