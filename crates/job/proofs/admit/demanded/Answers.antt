use mathlib.Core.Path.{sym}
use native.Mathlib.Nat.{zero-add}
use native.Mathlib.Omega.{arith}
use borrow.Author.Rules.{rules}
use Rattle.job.specs.Job.{job_of, demanded}
use Rattle.job.proofs.CodeItems.{items-length}
use Rattle.job.proofs.CodeSearch.{sum-end, sum-next}
use Rattle.job.proofs.admit.demanded.Goals as goal

pub loop-i-init : goal.loop-i-init
unfolding demanded
loop-i-init c = (search rules, sym (zero-add _))

pub loop-i-preserved : goal.loop-i-preserved
loop-i-preserved c =
    let l = c.loop-i in (
      search rules,
      sum-next (job_of c.args.job.now) _ l.i l.sum l.invariant.1 c.item_at-item.ensures l.auto.i (rw (items-length _ _ c.requires.0) (omega (arith, c.loop-i-test.true))),
    )

pub returns : goal.returns
returns c =
    let l = c.loop-i in
    sum-end (job_of c.args.job.now) _ l.i l.sum l.invariant.1 (rw (items-length _ _ c.requires.0) (omega (arith, c.loop-i-test.false)))
