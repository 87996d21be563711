use native.Mathlib.Omega.{arith}
use Rattle.columns.specs.Widths.{front_bytes}
use Rattle.columns.proofs.GroupLaws.{columns-none, columns-step}
use Rattle.columns.proofs.WordLaws.{columns-blank, part_length}
use Rattle.columns.proofs.group.front_at.Goals as goal

pub returns-then-front_blank : goal.returns-then-front_blank
returns-then-front_blank c =
    let a = c.args in
    columns-blank _ front_bytes (part_length a.s.now a.at front_bytes (omega arith)) (c.front_blank.ensures c.if-front_blank.true)

pub loop-i-init : goal.loop-i-init
loop-i-init c = columns-none

pub loop-i-preserved : goal.loop-i-preserved
loop-i-preserved c =
    let l = c.loop-i in
    let a = c.args in
    columns-step a.s.now a.at l.i _ _ (omega arith) l.invariant c.column-v.ensures
