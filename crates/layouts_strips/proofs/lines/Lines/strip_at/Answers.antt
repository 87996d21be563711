use mathlib.Core.Path.{◌≡◌, refl, ap}
use native.Mathlib.Omega.{arith}
use borrow.Author.Tests.{not-true, not-false}
use lib.ListN.{drop}
use Rattle.job.specs.Job.{job_of}
use Rattle.layouts.specs.Lines.{rows_of}
use Rattle.layouts_strips.specs.declared.strip.StripMeasure.{StripMeasure}
use Rattle.layouts_strips.specs.First.{strip_of}
use Rattle.layouts_strips.specs.Begun.{begins_stack}
use Rattle.layouts_strips.proofs.CodeBegun.{line-inside}
use Rattle.layouts_strips.proofs.CodeStrips.{strip-begins, strip-next, strip-ends, strip-small}
use borrow.Author.Rules.{rules}
use Rattle.layouts_strips.proofs.lines.Lines.strip_at.Goals as goal

pub loop-head-init : goal.loop-head-init
loop-head-init c = (strip-begins (job_of c.args.self.now.job.now) c.args.a (strip_of (drop c.args.a (rows_of c.args.self.now.layouts.now))), (record { begun = search rules; inside = search rules; narrow = search rules; low = search rules }, c.requires))

pub stack_at-stack-requires : goal.stack_at-stack-requires
stack_at-stack-requires c = c.loop-head.invariant.1.1

pub with_stack-m-requires : goal.with_stack-m-requires
with_stack-m-requires c =
    let few = c.args.self.now.lent.few in
    let small = c.loop-head.invariant.1.0 in
    (omega arith, c.stack_at-stack.ensures.1.narrow)

pub begins_stack-requires : goal.begins_stack-requires
begins_stack-requires c =
    let small = strip-small c.loop-head.invariant.1.0 c.stack_at-stack.ensures.1 (omega (arith, c.head_of-head.type_inv)) c.with_stack-m.ensures in
    small.inside

pub returns-then-not-begins_stack : goal.returns-then-not-begins_stack
returns-then-not-begins_stack c =
    let head = c.head_of-head in
    let l = c.loop-head in
    let k = c.stack_at-stack in
    let m = c.with_stack-m in
    let e : m.result.end ≡ k.result.end = ap (λ (x : StripMeasure). x.end) m.ensures in
    let after = k.ensures.1.begun in
    let small = strip-small l.invariant.1.0 k.ensures.1 (omega (arith, head.type_inv)) m.ensures in
    let from = l.invariant.1.0.begun in (
      strip-ends (job_of c.args.self.now.job.now) c.args.self.now.layouts.now c.args.self.now.number c.args.a l.m c.args.self.now.lent.whole l.invariant.1.1 k.ensures.0 m.ensures head.ensures.of-blade l.invariant.0 c.begins_stack.ensures (not-true _ c.if-not-begins_stack.true-raw),
      (small, omega arith),
    )

pub loop-head-smaller : goal.loop-head-smaller
loop-head-smaller c =
    let l = c.loop-head in
    let k = c.stack_at-stack in
    let m = c.with_stack-m in
    let e : m.result.end ≡ k.result.end = ap (λ (x : StripMeasure). x.end) m.ensures in
    let after = k.ensures.1.begun in
    let h = l.invariant.1.1 in
    omega arith

pub loop-head-preserved : goal.loop-head-preserved
loop-head-preserved c =
    let head = c.head_of-head in
    let l = c.loop-head in
    let k = c.stack_at-stack in
    let m = c.with_stack-m in
    let b = c.begins_stack in (
      strip-next (job_of c.args.self.now.job.now) c.args.self.now.layouts.now c.args.self.now.number c.args.a l.m c.args.self.now.lent.whole l.invariant.1.1 k.ensures.0 m.ensures head.ensures.of-blade l.invariant.0 b.ensures (not-false _ c.if-not-begins_stack.false-raw),
      (
        strip-small l.invariant.1.0 k.ensures.1 (omega (arith, head.type_inv)) m.ensures,
        line-inside begins_stack c.args.self.now.layouts.now c.args.self.now.number m.result.end refl c.args.self.now.lent.whole b.ensures (not-false _ c.if-not-begins_stack.false-raw),
      ),
    )
