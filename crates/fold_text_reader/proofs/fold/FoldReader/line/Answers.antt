use native.Mathlib.Omega.{arith}
use lib.ListN.{length}
use Rattle.texts_reading.proofs.CodeText.{Whole, whole}
use Rattle.fold_text_reader.proofs.CodeLines.{step-refused}
use Rattle.fold_text_reader.proofs.CodeParts.{line-bad, line_step}
use Rattle.fold_text_reader.proofs.fold.FoldReader.line.Goals as goal

pub line-requires : goal.line-requires
line-requires c =
    let ends : Whole c.args.self.text c.args.at c.args.end (length c.args.part.now) = whole c.args.self.text c.args.at c.args.end (length c.args.part.now) c.requires.part_value in
    let w = ends in
    let e = c.requires.line_end in
    (omega (arith, e.from), (omega (arith, w.inside), omega (arith, w.short, e.from)))

pub returns-in_default : goal.returns-in_default
returns-in_default c = step-refused _ c.args.self _ c.args.job.now c.args.layouts.now c.requires.fold_ready 0 (rw c.number.ensures at c.refused.ensures) (line-bad c.args.part.now c.args.at c.args.end c.args.self c.args.job.now c.args.layouts.now c.line.result c.line.ensures.1 c.in_default.is)

pub numbers-requires : goal.numbers-requires
numbers-requires c =
    let ends : Whole c.args.self.text c.args.at c.args.end (length c.args.part.now) = whole c.args.self.text c.args.at c.args.end (length c.args.part.now) c.requires.part_value in record { lines_lt_max_lines = ends.few; fold_ready = c.requires.fold_ready }

pub returns : goal.returns
returns c =
    let ends : Whole c.args.self.text c.args.at c.args.end (length c.args.part.now) = whole c.args.self.text c.args.at c.args.end (length c.args.part.now) c.requires.part_value in
    line_step c.args.part.now c.args.at c.args.end c.args.self c.args.job.now c.args.layouts.now c.line.result c.line.ensures.1 c.in-Some.numbers c.in-Some.is c.requires.line_end.from ends.inside c.numbers.ensures
