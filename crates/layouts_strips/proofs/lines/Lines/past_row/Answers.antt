use mathlib.Core.Path.{refl, ◌∙◌}
use Prim.Native.Nat.{◌+◌, ◌*◌, ◌≤◌}
use native.Mathlib.Omega.{arith}
use lib.ListN.{drop}
use Rattle.job.specs.Job.{job_of}
use Rattle.layouts.specs.Lines.{rows_of, begun}
use Rattle.layouts.specs.LayoutsRow.{past_board}
use Rattle.layouts_strips.specs.First.{strip_of}
use Rattle.layouts_strips.specs.Measures.{max_word, max_step}
use Rattle.layouts_strips.proofs.CodeBegun.{plate-sized, first-sized}
use Rattle.layouts_strips.proofs.CodeStacks.{lent-head}
use Rattle.layouts_strips.proofs.CodeLaid.{row-begins, row-end, row-found, row_next, past-said, next-laid, below-small}
use borrow.Author.Rules.{rules}
use Rattle.layouts_strips.proofs.lines.Lines.past_row.Goals as goal

pub head_of-head-requires : goal.head_of-head-requires
head_of-head-requires c = lent-head c.args.self.now.lent

pub loop-a-init : goal.loop-a-init
loop-a-init c =
    let ws = c.args.self.now.layouts.now in
    let job = job_of c.args.self.now.job.now in (
      next-laid job ws 17 (past_board job) c.args.k 0 (row-begins job ws 17 (past_board job) c.args.k) c.size_named-size.ensures refl,
      search rules,
      search rules,
      λ h. rw c.size_named-size.ensures (first-sized c.args.self.now.lent h),
    )

pub strip_at-strip-requires : goal.strip_at-strip-requires
strip_at-strip-requires c = c.loop-a-test.true

pub overflow_add-top : goal.overflow_add-top
overflow_add-top c =
    let few = c.args.self.now.lent.few in
    let small = c.strip_at-strip.ensures.1.0 in
    omega (arith, small.low, small.inside, c.loop-a.invariant.2)

pub size_at-requires : goal.size_at-requires
size_at-requires c = (c.loop-a.invariant.3 c.loop-a-test.true, c.args.self.now.lent.sizes)

pub passes-requires : goal.passes-requires
passes-requires c = omega (arith, c.head_of-head.type_inv)

pub overflow_add-k : goal.overflow_add-k
overflow_add-k c = omega (arith, c.requires, c.loop-a-test.true)

pub returns-then-passes : goal.returns-then-passes
returns-then-passes c =
    let l = c.loop-a in
    let m = c.strip_at-strip.ensures.0 in
    let head = c.head_of-head.ensures in
    let job = job_of c.args.self.now.job.now in
    let ws = c.args.self.now.layouts.now in
    let past = past-said job l.size.0 (c.args.k + l.a) l.below l.a (strip_of (drop l.a (rows_of ws))) m c.size_at.ensures head.of-blade c.passes.ensures in
    rw c.at.ensures (row-found job ws 17 (past_board job) c.args.k c.args.self.now.number l.size.0 l.a l.below c.args.self.now.lent.whole l.invariant.0 c.loop-a-test.true m (past ∙ c.if-passes.true))

pub overflow_add-top-in-loop-a : goal.overflow_add-top-in-loop-a
overflow_add-top-in-loop-a c =
    let few = c.args.self.now.lent.few in
    let small = c.strip_at-strip.ensures.1.0 in
    omega (arith, small.low, small.inside, c.loop-a.invariant.2, c.head_of-head.type_inv)

pub next_below-below-requires : goal.next_below-below-requires
next_below-below-requires c = c.strip_at-strip.ensures.1.0.inside

pub strip_plate-size-requires : goal.strip_plate-size-requires
strip_plate-size-requires c = c.strip_at-strip.ensures.1.0.inside

pub loop-a-smaller : goal.loop-a-smaller
loop-a-smaller c = omega (arith, c.strip_at-strip.ensures.1.1, c.loop-a-test.true)

pub loop-a-preserved : goal.loop-a-preserved
loop-a-preserved c =
    let l = c.loop-a in
    let x = c.strip_at-strip in
    let m = x.ensures.0 in
    let small = x.ensures.1.0 in
    let call = c.head_of-head in
    let job = job_of c.args.self.now.job.now in
    let ws = c.args.self.now.layouts.now in
    let t = c.loop-a-test.true in
    let above = l.below + x.result.height + call.result.blade in
    let high : above ≤ (max_step + max_word) * x.result.end = omega (arith, small.low, l.invariant.2, call.type_inv, x.ensures.1.1) in
    let past = past-said job l.size.0 (c.args.k + l.a) l.below l.a (strip_of (drop l.a (rows_of ws))) m c.size_at.ensures call.ensures.of-blade c.passes.ensures in
    let next = row_next job ws 17 (past_board job) c.args.k c.args.self.now.number l.size.0 l.a l.below c.args.self.now.lent.whole l.invariant.0 t m (past ∙ c.if-passes.false) in (
      next-laid job ws 17 (past_board job) c.args.k x.result.end next c.strip_plate-size.ensures (rw (← call.ensures.of-blade) c.next_below-below.ensures),
      small.inside,
      rw c.next_below-below.ensures (below-small (begun (drop x.result.end (rows_of ws))) above ((max_step + max_word) * x.result.end) high),
      λ h. rw c.strip_plate-size.ensures (plate-sized c.args.self.now.lent x.result.end l.size.0 h (l.invariant.3 t)),
    )

pub returns : goal.returns
returns c =
    let l = c.loop-a in
    let job = job_of c.args.self.now.job.now in
    row-end job c.args.self.now.layouts.now 17 (past_board job) c.args.k c.args.self.now.number l.size.0 l.a l.below c.args.self.now.lent.whole l.invariant.0 c.loop-a-test.false
