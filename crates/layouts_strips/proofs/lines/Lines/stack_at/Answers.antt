use mathlib.Core.Path.{◌≡◌, refl, ap}
use Prim.Native.Nat.{◌+◌, ◌<◌}
use native.Mathlib.Omega.{arith}
use Rattle.job.specs.Job.{job_of}
use Rattle.layouts_strips.specs.declared.stack.StackMeasure.{StackMeasure}
use Rattle.layouts_strips.specs.Begun.{goes_on}
use Rattle.layouts_strips.proofs.CodeBegun.{line-inside}
use Rattle.layouts_strips.proofs.CodeStacks.{stack-begins, stack-next, stack-ends, small-next}
use borrow.Author.Rules.{rules}
use Rattle.layouts_strips.proofs.lines.Lines.stack_at.Goals as goal

pub loop-head-init : goal.loop-head-init
loop-head-init c = (stack-begins (job_of c.args.self.now.job.now) c.args.self.now.layouts.now c.args.self.now.number c.args.c c.args.self.now.lent.whole c.requires c.item_of-first.ensures refl, record { begun = search rules; inside = search rules; narrow = search rules; low = search rules })

pub goes_on-requires : goal.goes_on-requires
goes_on-requires c = (c.args.self.now.lent.whole, c.loop-head.invariant.1.inside)

pub item_of-item-requires : goal.item_of-item-requires
item_of-item-requires c = line-inside goes_on c.args.self.now.layouts.now c.args.self.now.number c.loop-head.m.end refl c.args.self.now.lent.whole c.goes_on.ensures c.loop-head-test.true

pub with_item-m-requires : goal.with_item-m-requires
with_item-m-requires c =
    let few = c.args.self.now.lent.few in
    let small = c.loop-head.invariant.1 in
    (omega arith, omega arith)

pub loop-head-smaller : goal.loop-head-smaller
loop-head-smaller c =
    let m = c.loop-head.m in
    let h : m.end < c.args.self.now.number = line-inside goes_on c.args.self.now.layouts.now c.args.self.now.number m.end refl c.args.self.now.lent.whole c.goes_on.ensures c.loop-head-test.true in
    let e : c.with_item-m.result.end ≡ m.end + 1 = ap (λ (x : StackMeasure). x.end) c.with_item-m.ensures in
    omega arith

pub loop-head-preserved : goal.loop-head-preserved
loop-head-preserved c =
    let l = c.loop-head in
    let it = c.item_of-item in
    let head = c.head_of-head.ensures in
    let ok = c.head_of-head.type_inv in
    let h : l.m.end < c.args.self.now.number = line-inside goes_on c.args.self.now.layouts.now c.args.self.now.number l.m.end refl c.args.self.now.lent.whole c.goes_on.ensures c.loop-head-test.true in (
      stack-next (job_of c.args.self.now.job.now) c.args.self.now.layouts.now c.args.self.now.number c.args.c l.m c.args.self.now.lent.whole h it.ensures c.goes_on.ensures c.loop-head-test.true c.with_item-m.ensures head.of-blade l.invariant.0,
      small-next it.result l.invariant.1 h (omega (arith, it.type_inv)) (omega (arith, it.type_inv)) (omega (arith, ok)) c.with_item-m.ensures,
    )

pub returns : goal.returns
returns c =
    let l = c.loop-head in
    (stack-ends (job_of c.args.self.now.job.now) c.args.self.now.layouts.now c.args.c l.m.end c.goes_on.ensures c.loop-head-test.false l.invariant.0, l.invariant.1)
