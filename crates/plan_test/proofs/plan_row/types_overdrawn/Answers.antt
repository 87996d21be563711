use borrow.Author.Tests.{lt-ltb, le-ltb}
use Rattle.listing.specs.Plate.{waste}
use Rattle.job.proofs.CodeLowest.{lowest-end, lowest-found, lowest-next}
use Rattle.plan_test.proofs.plan_row.types_overdrawn.Goals as goal

pub returns-then-left-j : goal.returns-then-left-j
returns-then-left-j c ps e =
    let l = c.loop-j in
    rw c.at.ensures (lowest-found ps waste 12 _ l.j l.j (l.invariant ps e) (rw e c.loop-j-test.true) (lt-ltb _ _ c.if-left-j.true))

pub loop-j-preserved : goal.loop-j-preserved
loop-j-preserved c = λ ps e.
    let l = c.loop-j in
    lowest-next ps waste 12 _ l.j l.j (l.invariant ps e) (rw e c.loop-j-test.true) (le-ltb _ _ c.if-left-j.false)

pub returns : goal.returns
returns c ps e =
    let l = c.loop-j in
    lowest-end ps waste 12 _ l.j l.j (l.invariant ps e) (rw e c.loop-j-test.false)
