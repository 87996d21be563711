use Prim.Native.Nat.{◌+◌}
use borrow.Author.Tests.{eq-eqb, ne_eqb}
use Rattle.job.proofs.CodeLowest.{lowest-end, lowest-found, lowest-next}
use Rattle.plan_test.proofs.plan_row.past_cuts.Goals as goal

pub returns-then-counts-c-ne0 : goal.returns-then-counts-c-ne0
returns-then-counts-c-ne0 c =
    let l = c.loop-c in
    rw c.at.ensures (lowest-found c.args.counts.now 0 8 _ (l.c + 1) l.c l.invariant c.loop-c-test.true (rw (ne_eqb _ _ c.if-counts-c-ne0.true)))

pub loop-c-preserved : goal.loop-c-preserved
loop-c-preserved c =
    let l = c.loop-c in
    lowest-next c.args.counts.now 0 8 _ (l.c + 1) l.c l.invariant c.loop-c-test.true (rw (eq-eqb _ _ c.if-counts-c-ne0.false))

pub returns : goal.returns
returns c =
    let l = c.loop-c in
    lowest-end c.args.counts.now 0 8 _ (l.c + 1) l.c l.invariant c.loop-c-test.false
