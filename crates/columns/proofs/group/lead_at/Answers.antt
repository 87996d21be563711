use native.Mathlib.Omega.{arith}
use mathlib.Core.Path.{◌≡◌}
use Rattle.columns.specs.Widths.{lead_bytes}
use Rattle.columns.proofs.GroupLaws.{columns-step}
use Rattle.columns.proofs.group.lead_at.Goals as goal

pub loop-i-preserved : goal.loop-i-preserved
loop-i-preserved c =
    let l = c.loop-i in
    let a = c.args in
    columns-step a.s.now a.at l.i _ _ (omega arith) l.invariant c.column-v.ensures

pub returns : goal.returns
returns c =
    let l = c.loop-i in
    let e : l.i ≡ lead_bytes = omega arith in
    rw e at l.invariant
