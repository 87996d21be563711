use mathlib.Core.Path.{◌≡◌}
use native.Mathlib.Omega.{arith}
use lib.ListN.{length-set}
use Rattle.columns.proofs.GroupLaws.{writing_step, writing-all}
use Rattle.columns.proofs.group.put_lead.Goals as goal

pub loop-i-preserved : goal.loop-i-preserved
loop-i-preserved c =
    let l = c.loop-i in
    let a = c.args in
    (simp length-set l.invariant.0, writing_step a.out.now l.out a.at a.n l.i l.rest _ (omega arith) (omega arith) c.mark.ensures l.invariant.1)

pub returns : goal.returns
returns c =
    let l = c.loop-i in
    let e : l.i ≡ 0 = omega arith in
    writing-all _ _ _ _ l.rest (rw e at l.invariant.1)
