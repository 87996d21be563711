use Prim.Native.Nat.{◌+◌}
use native.Mathlib.Omega.{arith}
use borrow.Author.Tests.{not-true, not-false}
use lib.ListN.{drop}
use Rattle.job.specs.Job.{job_of}
use Rattle.layouts.specs.Lines.{rows_of}
use Rattle.layouts.specs.LayoutsRow.{breaks_stage}
use Rattle.layouts_strips.specs.First.{strip_of}
use Rattle.layouts_strips.proofs.CodeStacks.{lent-head}
use Rattle.layouts_strips.proofs.CodeLaid.{row-begins, row-end, row-found, row_next, breaks}
use borrow.Author.Rules.{rules}
use Rattle.layouts_strips.proofs.lines.Lines.stage_row.Goals as goal

pub head_of-head-requires : goal.head_of-head-requires
head_of-head-requires c = lent-head c.args.self.now.lent

pub loop-a-init : goal.loop-a-init
loop-a-init c =
    let a = c.args in
    ((_, 0, row-begins (job_of a.self.now.job.now) a.self.now.layouts.now 16 (breaks_stage (job_of a.self.now.job.now)) a.k), search rules)

pub strip_at-strip-requires : goal.strip_at-strip-requires
strip_at-strip-requires c = c.loop-a-test.true

pub strip_staged-requires : goal.strip_staged-requires
strip_staged-requires c = record { inside = c.loop-a-test.true; mode_value = (c.head_of-head.ensures.of-mode, c.strip_at-strip.ensures.0.high) }

pub overflow_add-k : goal.overflow_add-k
overflow_add-k c = omega (arith, c.requires, c.loop-a-test.true)

pub returns-then-not-strip_staged : goal.returns-then-not-strip_staged
returns-then-not-strip_staged c =
    let l = c.loop-a in
    let job = job_of c.args.self.now.job.now in
    let ws = c.args.self.now.layouts.now in
    let w = l.invariant.0 in
    rw c.at.ensures
    (row-found job ws 16 (breaks_stage job) c.args.k c.args.self.now.number w.0 l.a w.1 c.args.self.now.lent.whole w.2 c.loop-a-test.true c.strip_at-strip.ensures.0
    (breaks job w.0 (c.args.k + l.a) w.1 (strip_of (drop l.a (rows_of ws))) c.strip_staged.ensures (not-true _ c.if-not-strip_staged.true-raw)))

pub loop-a-smaller : goal.loop-a-smaller
loop-a-smaller c =
    let after = c.strip_at-strip.ensures.1.1 in let h = c.loop-a-test.true in omega arith

pub loop-a-preserved : goal.loop-a-preserved
loop-a-preserved c =
    let l = c.loop-a in
    let job = job_of c.args.self.now.job.now in
    let ws = c.args.self.now.layouts.now in
    let w = l.invariant.0 in
    let x = c.strip_at-strip.ensures in (
      (
        _,
        _,
        row_next job ws 16 (breaks_stage job) c.args.k c.args.self.now.number w.0 l.a w.1 c.args.self.now.lent.whole w.2 c.loop-a-test.true x.0
            (breaks job w.0 (c.args.k + l.a) w.1 (strip_of (drop l.a (rows_of ws))) c.strip_staged.ensures (not-false _ c.if-not-strip_staged.false-raw)),
      ),
      x.1.0.inside,
    )

pub returns : goal.returns
returns c =
    let l = c.loop-a in
    let job = job_of c.args.self.now.job.now in
    row-end job c.args.self.now.layouts.now 16 (breaks_stage job) c.args.k c.args.self.now.number l.invariant.0.0 l.a l.invariant.0.1 c.args.self.now.lent.whole l.invariant.0.2 c.loop-a-test.false
