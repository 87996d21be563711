use native.Mathlib.Omega.{arith}
use mathlib.Core.Path.{refl, ◌∙◌}
use mathlib.Core.List.{flat_map}
use Rattle.layouts.specs.Lines.{lines_in, rows_of}
use Rattle.texts_writing.proofs.WroteLaws.{wrote_none}
use Rattle.texts_writing.proofs.RowLaws.{placed-more}
use Rattle.texts_writing.proofs.lines7.write_placements.Goals as goal

pub loop-i-init : goal.loop-i-init
unfolding flat_map rows_of lines_in
loop-i-init c = (refl, refl, wrote_none _ _)

pub loop-i-preserved : goal.loop-i-preserved
loop-i-preserved c =
    let l = c.loop-i in
    let a = c.args in
    let put = c.write_placement in (
      omega arith,
      put.auto.out ∙ l.invariant.1,
      placed-more a.placements.now l.i (omega arith) (omega arith) l.invariant.2 put.ensures,
    )
