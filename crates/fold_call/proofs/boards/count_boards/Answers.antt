use mathlib.Core.Path.{◌∙◌}
use Prim.Native.Nat.{◌+◌}
use native.Mathlib.Omega.{arith}
use borrow.Author.Rules.{rules}
use lib.ListN.{drop}
use Rattle.job.specs.Job.{job_of}
use Rattle.job.proofs.Sums.{length-sum}
use Rattle.plan.specs.Plan.{cost_at}
use Rattle.layouts.specs.Placement.{set_cost}
use Rattle.layouts.specs.Lines.{begun, rows_of, set_of}
use Rattle.layouts_strips.proofs.CodeBegun.{first-sized}
use Rattle.fold_call.proofs.Boarding.{boards-start, boards-next, boards-end, begun-few, next-sized}
use Rattle.fold_call.proofs.boards.count_boards.Goals as goal

pub loop-c-init : goal.loop-c-init
loop-c-init c =
    let ws = c.args.lines.now.layouts.now in
    let e = c.size_named.ensures in (
      search rules,
      search rules,
      λ h. rw e (first-sized c.args.lines.now.lent h),
      boards-start (λ _. 1) ws c.args.lines.now.number c.args.lines.now.lent.whole e,
      boards-start (cost_at (job_of c.args.lines.now.job.now)) ws c.args.lines.now.number c.args.lines.now.lent.whole e,
    )

pub loop-c-preserved : goal.loop-c-preserved
loop-c-preserved c =
    let ws = c.args.lines.now.layouts.now in
    let l = c.loop-c in
    let i = l.invariant in
    let t = c.loop-c-test.true in
    let w = c.with_board-at.ensures.0 in (
      omega (arith, w.number-next, begun-few (begun (drop (l.c + 1) (rows_of ws))) l.at.number, i.0),
      omega (arith, c.with_board-at.ensures.1, i.1),
      λ h. next-sized c.args.lines.now.lent (l.c + 1) h (i.2 t) w.size-next,
      boards-next (λ _. 1) ws c.args.lines.now.number c.args.lines.now.lent.whole l.at.number l.at.size.0 l.c t i.3 w.number-next w.size-next,
      boards-next (cost_at (job_of c.args.lines.now.job.now)) ws c.args.lines.now.number c.args.lines.now.lent.whole l.at.cost l.at.size.0 l.c t i.4 w.cost-next w.size-next,
    )

pub returns : goal.returns
unfolding set_cost
returns c =
    let ws = c.args.lines.now.layouts.now in
    let l = c.loop-c in
    let end = c.loop-c-test.false in (
      boards-end (λ _. 1) ws c.args.lines.now.number c.args.lines.now.lent.whole l.at.number l.at.size.0 l.c end l.invariant.3 ∙ length-sum (set_of ws),
      boards-end (cost_at (job_of c.args.lines.now.job.now)) ws c.args.lines.now.number c.args.lines.now.lent.whole l.at.cost l.at.size.0 l.c end l.invariant.4,
    )
