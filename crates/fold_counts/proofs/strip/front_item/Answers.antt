use mathlib.Core.Path.{refl, sym, ◌∙◌}
use native.Mathlib.Omega.{arith}
use lib.ListN.{drop}
use Rattle.job.specs.Job.{job_of}
use Rattle.layouts.specs.Lines.{rows_of}
use Rattle.layouts_strips.proofs.CodeStacks.{lent-small}
use Rattle.layouts_strips.specs.First.{stack_of}
use Rattle.fold_counts.proofs.Fronts.{measured-full}
use Rattle.fold_counts.proofs.CodeStrip.{front-found, front-inside, front-some, front-left}
use Rattle.fold_counts.proofs.strip.front_item.Goals as goal

pub item_in-requires : goal.item_in-requires
item_in-requires c =
    let i = c.loop-m in
    let lent = c.requires.lines_lent.0.lines-lent in
    (omega (arith, i.invariant.0, lent.whole), lent-small lent i.p i.invariant.0)

-- the stack is the one that comes to the front
pub returns-then-is_full : goal.returns-then-is_full
returns-then-is_full c =
    let a = c.args in
    let i = c.loop-m in
    let m = c.stack_at-m in
    let job = job_of a.lines.now.job.now in
    let t = sym (measured-full job a.height i.p (stack_of (drop i.p (rows_of a.lines.now.layouts.now))) m.result m.ensures.0 c.is_full.ensures) ∙ c.if-is_full.true in
    let words = c.requires.lines_lent.0.lines-lent.whole in
    i.invariant.2 ∙ front-found job a.height a.lines.now.layouts.now a.lines.now.number i.p m.result words i.invariant.0 m.ensures.0 t ∙ rw c.item_in.ensures refl

-- it is one behind
pub loop-m-preserved : goal.loop-m-preserved
loop-m-preserved c =
    let a = c.args in
    let i = c.loop-m in
    let m = c.stack_at-m in
    let job = job_of a.lines.now.job.now in
    let t = sym (measured-full job a.height i.p (stack_of (drop i.p (rows_of a.lines.now.layouts.now))) m.result m.ensures.0 c.is_full.ensures) ∙ c.if-is_full.false in
    let words = c.requires.lines_lent.0.lines-lent.whole in (
      front-inside job a.height a.lines.now.layouts.now a.lines.now.number i.p m.result words i.invariant.0 m.ensures.0 i.invariant.1 t,
      front-some job a.height a.lines.now.layouts.now a.lines.now.number i.p m.result words i.invariant.0 m.ensures.0 i.invariant.1 t,
      i.invariant.2 ∙ front-left job a.height a.lines.now.layouts.now a.lines.now.number i.p m.result words i.invariant.0 m.ensures.0 i.invariant.1 t,
    )
