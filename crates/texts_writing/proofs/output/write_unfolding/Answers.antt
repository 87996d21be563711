use native.Mathlib.Omega.{arith}
use Rattle.texts_writing.specs.Wrote.{summary_line}
use Rattle.texts_writing.proofs.WroteLaws.{wrote-more}
use Rattle.texts_writing.proofs.RowLaws.{lines-size}
use Rattle.texts_writing.proofs.output.write_unfolding.Goals as goal

-- `write_unfolding` writes line 8 behind the lines 7.
pub write_result-requires : goal.write_result-requires
write_result-requires c =
    let lines = c.write_placements-at in
    omega (arith, c.requires, lines.auto.out, lines.ensures.end-at, lines-size c.args.placements.now c.args.pieces c.requires.1)

pub returns : goal.returns
unfolding summary_line
returns c =
    let lines = c.write_placements-at in
    wrote-more lines.ensures (omega (arith, c.requires, lines-size c.args.placements.now c.args.pieces c.requires.1))
    (rw c.is_cheapest.ensures at c.write_result.ensures)
