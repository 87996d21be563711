use native.Mathlib.Omega.{arith}
use borrow.Author.Tests.{lt-ltb, le-ltb}
use Rattle.job.specs.Job.{job_of}
use Rattle.job.proofs.CodeItems.{items-length}
use Rattle.job.proofs.CodeSearch.{lowest-end, lowest-found, lowest-next}
use Rattle.job.proofs.demands.types_short.Goals as goal

pub returns-then-sums-at : goal.returns-then-sums-at
returns-then-sums-at c =
    let l = c.loop-i in
    rw c.at.ensures (lowest-found (job_of c.args.job.now) 11 _ l.i l.invariant l.auto.i (rw (items-length _ _ c.requires.0) (omega (arith, c.loop-i-test.true))) (rw (← c.item_at-item.ensures) (lt-ltb _ _ c.if-sums-at.true)))

pub loop-i-preserved : goal.loop-i-preserved
loop-i-preserved c =
    let l = c.loop-i in
    lowest-next (job_of c.args.job.now) 11 _ l.i l.invariant l.auto.i (rw (items-length _ _ c.requires.0) (omega (arith, c.loop-i-test.true))) (rw (← c.item_at-item.ensures) (le-ltb _ _ c.if-sums-at.false))

pub returns : goal.returns
returns c = let l = c.loop-i in lowest-end (job_of c.args.job.now) 11 _ l.i l.invariant (rw (items-length _ _ c.requires.0) (omega (arith, c.loop-i-test.false)))
