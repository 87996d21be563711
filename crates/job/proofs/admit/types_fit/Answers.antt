use mathlib.Core.Path.{◌≡◌}
use mathlib.Core.Bool.{Bool}
use native.Mathlib.Omega.{arith}
use Rattle.job.specs.declared.item.Item.{Item}
use Rattle.job.specs.Job.{Job, job_of, larger}
use Rattle.job.proofs.CodeItems.{items-length}
use Rattle.job.proofs.CodeSearch.{lowest-end, lowest-found, lowest-next}
use Rattle.job.proofs.admit.types_fit.Goals as goal

-- what the test says of the item read it says of that item type: whether it fits no size
tested : {r t : Bool} (job : Job) {x x' : Item} → r ≡ larger job x → x ≡ x' → r ≡ t → larger job x' ≡ t
tested job e i t = cc

pub returns-then-larger : goal.returns-then-larger
returns-then-larger c =
    let l = c.loop-i in
    rw c.at.ensures (lowest-found (job_of c.args.job.now) 3 _ l.i l.invariant l.auto.i (rw (items-length _ _ c.requires.0) (omega (arith, c.loop-i-test.true))) (tested (job_of c.args.job.now) c.larger.ensures c.item_at-item.ensures c.if-larger.true))

pub loop-i-preserved : goal.loop-i-preserved
loop-i-preserved c =
    let l = c.loop-i in
    lowest-next (job_of c.args.job.now) 3 _ l.i l.invariant l.auto.i (rw (items-length _ _ c.requires.0) (omega (arith, c.loop-i-test.true))) (tested (job_of c.args.job.now) c.larger.ensures c.item_at-item.ensures c.if-larger.false)

pub returns : goal.returns
returns c = let l = c.loop-i in lowest-end (job_of c.args.job.now) 3 _ l.i l.invariant (rw (items-length _ _ c.requires.0) (omega (arith, c.loop-i-test.false)))
