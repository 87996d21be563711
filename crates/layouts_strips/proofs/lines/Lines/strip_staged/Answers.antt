use mathlib.Core.Path.{refl}
use native.Mathlib.Omega.{arith}
use borrow.Author.Tests.{not-true, not-false}
use lib.ListN.{drop}
use Rattle.job.specs.Job.{job_of}
use Rattle.layouts.specs.Lines.{rows_of}
use Rattle.layouts_strips.specs.First.{strip_of}
use Rattle.layouts_strips.specs.Begun.{begins_stack}
use Rattle.layouts_strips.proofs.CodeBegun.{line-inside}
use Rattle.layouts_strips.proofs.CodeStaged.{staged-broken, staged-next, staged-ends}
use Rattle.layouts_strips.proofs.lines.Lines.strip_staged.Goals as goal

pub loop-mode-init : goal.loop-mode-init
loop-mode-init c = ((refl, refl), c.requires.inside)

pub stack_at-stack-requires : goal.stack_at-stack-requires
stack_at-stack-requires c = c.loop-mode.invariant.1

pub overflow_add-alone : goal.overflow_add-alone
overflow_add-alone c =
    let few = c.args.self.now.lent.few in let h = c.loop-mode.invariant.1 in omega arith

pub returns-then-not-stack_kept : goal.returns-then-not-stack_kept
returns-then-not-stack_kept c =
    let l = c.loop-mode in
    let i = l.invariant.0 in
    staged-broken (job_of c.args.self.now.job.now) c.args.self.now.layouts.now c.args.self.now.number l.c c.args.height (strip_of (drop c.args.a (rows_of c.args.self.now.layouts.now))) l.full c.args.mode c.args.self.now.lent.whole l.invariant.1 c.stack_at-stack.ensures.0 c.requires.mode_value.1 c.requires.mode_value.0 i.0 i.1 c.stack_kept.ensures (not-true _ c.if-not-stack_kept.true-raw)

pub begins_stack-requires : goal.begins_stack-requires
begins_stack-requires c = c.stack_at-stack.ensures.1.inside

pub returns-then-not-begins_stack : goal.returns-then-not-begins_stack
returns-then-not-begins_stack c =
    let l = c.loop-mode in
    let i = l.invariant.0 in
    staged-ends (job_of c.args.self.now.job.now) c.args.self.now.layouts.now c.args.self.now.number l.c c.args.height (strip_of (drop c.args.a (rows_of c.args.self.now.layouts.now))) l.full c.args.mode c.args.self.now.lent.whole l.invariant.1 c.stack_at-stack.ensures.0 c.requires.mode_value.1 c.requires.mode_value.0 i.0 i.1 c.stack_kept.ensures (not-false _ c.if-not-stack_kept.false-raw) c.some_full-full.ensures c.begins_stack.ensures (not-true _ c.if-not-begins_stack.true-raw) c.full_enough.ensures

pub loop-mode-smaller : goal.loop-mode-smaller
loop-mode-smaller c =
    let after = c.stack_at-stack.ensures.1.begun in let h = c.loop-mode.invariant.1 in omega arith

pub loop-mode-preserved : goal.loop-mode-preserved
loop-mode-preserved c =
    let l = c.loop-mode in
    let i = l.invariant.0 in
    let k = c.stack_at-stack in (
      staged-next (job_of c.args.self.now.job.now) c.args.self.now.layouts.now c.args.self.now.number l.c c.args.height (strip_of (drop c.args.a (rows_of c.args.self.now.layouts.now))) l.full c.args.mode c.args.self.now.lent.whole l.invariant.1 k.ensures.0 c.requires.mode_value.1 c.requires.mode_value.0 i.0 i.1 c.stack_kept.ensures (not-false _ c.if-not-stack_kept.false-raw) c.some_full-full.ensures c.begins_stack.ensures (not-false _ c.if-not-begins_stack.false-raw),
      line-inside begins_stack c.args.self.now.layouts.now c.args.self.now.number k.result.end refl c.args.self.now.lent.whole c.begins_stack.ensures (not-false _ c.if-not-begins_stack.false-raw),
    )
