use mathlib.Core.Path.{refl, ap}
use Prim.Native.Nat.{◌*◌}
use native.Mathlib.Omega.{arith}
use borrow.Author.Rules.{rules}
use lib.ListN.{get_or}
use Rattle.job.specs.declared.size.Size.{Size}
use Rattle.job.specs.Job.{job_of, size_at}
use Rattle.plan_test.specs.Sums.{sum_below}
use Rattle.plan_test.proofs.CodeOpened.{below_next}
use Rattle.plan_test.proofs.opened.boards_opened.Goals as goal

pub loop-j-init : goal.loop-j-init
unfolding sum_below
loop-j-init c = (search rules, (search rules, (refl, refl)))

pub loop-j-preserved : goal.loop-j-preserved
loop-j-preserved c =
    let l = c.loop-j in
    let t = c.loop-j-test.true in
    let x = c.cost_of-cost in
    let on = c.args.on.now in
    let job = job_of c.args.job.now in
    let cost = ap (λ (z : Size). z.cost * get_or on l.j 0) c.size_at-size.ensures in (
      omega (arith, l.invariant.0, c.requires.by_index l.j t),
      (
        omega (arith, l.invariant.1.0, x.ensures.1),
        (
          omega (arith, l.invariant.1.1.0, below_next (λ i. get_or on i 0) l.j),
          omega (arith, l.invariant.1.1.1, x.ensures.0, cost, below_next (λ i. (size_at job i).cost * get_or on i 0) l.j),
        ),
      ),
    )
