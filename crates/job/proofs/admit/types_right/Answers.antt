use mathlib.Core.Path.{◌≡◌}
use mathlib.Core.Bool.{Bool, not}
use native.Mathlib.Omega.{arith}
use Rattle.job.specs.declared.item.Item.{Item}
use Rattle.job.specs.Job.{job_of, item_right}
use Rattle.job.proofs.CodeItems.{items-length}
use Rattle.job.proofs.CodeSearch.{lowest-end, lowest-found, lowest-next}
use Rattle.job.proofs.admit.types_right.Goals as goal

-- what the test says of the item read it says of that item type: whether a word of it is outside its limits
tested : {r t : Bool} {x x' : Item} → r ≡ item_right x → x ≡ x' → not r ≡ t → not (item_right x') ≡ t
tested e i t = cc

pub returns-then-not-item_right : goal.returns-then-not-item_right
returns-then-not-item_right c =
    let l = c.loop-i in
    rw c.at.ensures (lowest-found (job_of c.args.job.now) 2 _ l.i l.invariant l.auto.i (rw (items-length _ _ c.requires.0) (omega (arith, c.loop-i-test.true))) (tested c.item_right.ensures c.item_at-item.ensures c.if-not-item_right.true-raw))

pub loop-i-preserved : goal.loop-i-preserved
loop-i-preserved c =
    let l = c.loop-i in
    lowest-next (job_of c.args.job.now) 2 _ l.i l.invariant l.auto.i (rw (items-length _ _ c.requires.0) (omega (arith, c.loop-i-test.true))) (tested c.item_right.ensures c.item_at-item.ensures c.if-not-item_right.false-raw)

pub returns : goal.returns
returns c = let l = c.loop-i in lowest-end (job_of c.args.job.now) 2 _ l.i l.invariant (rw (items-length _ _ c.requires.0) (omega (arith, c.loop-i-test.false)))
