use mathlib.Core.Path.{refl, sym, ◌∙◌}
use native.Mathlib.Omega.{arith}
use Rattle.columns.specs.Line.{groups}
use Rattle.columns.proofs.GroupLaws.{put-nil}
use Rattle.columns.proofs.LineLaws.{put-groups, put-end}
use Rattle.columns.proofs.line.put_line.Goals as goal

pub loop-n-init : goal.loop-n-init
unfolding groups
loop-n-init c = (omega arith, refl, sym (put-nil _ _))

pub loop-n-preserved : goal.loop-n-preserved
loop-n-preserved c =
    let l = c.loop-n in
    let a = c.args in
    let e = put-groups a.out.now a.numbers.now a.at l.n-index (omega arith) (omega arith) in
    (omega arith, c.put_number.auto.out ∙ l.invariant.1, c.put_number.ensures ∙ rw (l.invariant.2, l.invariant.0) e)

pub returns : goal.returns
returns c =
    let l = c.loop-n in
    let a = c.args in
    rw (l.invariant.2, l.invariant.0) (put-end a.out.now a.numbers.now a.at l.n-index (omega arith) (omega arith))
