use native.Mathlib.Omega.{arith}
use Rattle.listing.proofs.CodeLent.{lent-items}
use Rattle.saw_text_rows.proofs.PlanPart.{told-unnamed, told-misshown, told-fallen, told-tested}
use Rattle.saw_text_rows.proofs.plan_part.plan_row_of_text.Goals as goal

-- `plan_row_of_text` says 8, 20, 9 and then the plan row of the counts.
pub returns-then-plan-ne0 : goal.returns-then-plan-ne0
returns-then-plan-ne0 c l z e f =
    let a = c.args in
    rw c.at.ensures (told-unnamed l a.listed.now.job.words.now a.counts.now a.plan c.if-plan-ne0.true (omega arith))

pub returns-then-plan-ne0-2 : goal.returns-then-plan-ne0-2
returns-then-plan-ne0-2 c l z e f =
    let a = c.args in
    rw c.at-then-plan-ne0-2.ensures (told-misshown l a.listed.now.job.words.now a.counts.now a.plan c.if-plan-ne0.false c.if-plan-ne0-2.true (omega arith))

pub returns-then-plan-ne0-3 : goal.returns-then-plan-ne0-3
returns-then-plan-ne0-3 c l z e f =
    let a = c.args in
    rw c.at-then-plan-ne0-3.ensures (told-fallen l a.listed.now.job.words.now a.counts.now a.plan c.if-plan-ne0.false c.if-plan-ne0-2.false c.if-plan-ne0-3.true (omega arith))

pub returns : goal.returns
returns c l z e f =
    let a = c.args in
    let lent = a.listed.now.lent in
    told-tested l a.listed.now.job.words.now a.counts.now a.plan c.if-plan-ne0.false c.if-plan-ne0-2.false c.if-plan-ne0-3.false c.plan_rows.result
    (omega (arith, lent-items lent, lent.few-items))
    (omega (arith, z, a.listed.now.job.read.some_size))
    (omega (arith, e, lent.few-plates))
    (c.plan_rows.ensures l z e f)
