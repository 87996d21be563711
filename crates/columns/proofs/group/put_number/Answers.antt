use native.Mathlib.Omega.{arith}
use Rattle.columns.proofs.GroupLaws.{put_last}
use Rattle.columns.proofs.group.put_number.Goals as goal

pub returns : goal.returns
returns c =
    let a = c.args in
    rw c.put_lead.ensures (put_last a.out.now a.at a.n (omega arith))
