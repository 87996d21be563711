use mathlib.Core.Path.{◌≡◌, refl}
use mathlib.Core.Bool.{true}
use native.Mathlib.Omega.{arith}
use borrow.Author.Rules.{rules}
use Rattle.job.specs.Job.{job_of}
use Rattle.listing.specs.Listing.{listing_of}
use Rattle.layouts_strips.specs.Begun.{begins_stack}
use Rattle.layouts_strips.proofs.CodeBegun.{line-inside}
use Rattle.layouts_strips.proofs.CodeStrips.{left-more, left-none}
use Rattle.fold_counts.proofs.CodeStrip.{others-next, others-end}
use Rattle.fold_counts.proofs.strip.fold_others.Goals as goal

-- after the last stack, what is cut is all
pub returns-then-not-begins_stack : goal.returns-then-not-begins_stack
returns-then-not-begins_stack c =
    let a = c.args in
    let i = c.loop-k in
    let m = c.stack_at-m in
    let o = c.fold_other-at in
    let job = job_of a.lines.now.job.now in
    let after = others-next job (listing_of job) a.height a.k.0 a.lines.now.layouts.now c.requires.lines_lent.0.lines-lent.whole i.invariant.0 m.ensures.0 m.ensures.1 o.new.counts i.invariant.1 i.invariant.2 c.is_front-front.ensures o.ensures.strip_value.0 o.ensures.strip_value.1 o.ensures.by_index o.auto.counts in
    others-end job (listing_of job) a.height a.k.0 after (left-none a.lines.now.layouts.now m.result.end c.begins_stack.ensures (search rules))

pub loop-k-preserved : goal.loop-k-preserved
loop-k-preserved c =
    let a = c.args in
    let i = c.loop-k in
    let m = c.stack_at-m in
    let o = c.fold_other-at in
    let job = job_of a.lines.now.job.now in
    let words = c.requires.lines_lent.0.lines-lent.whole in
    let after = others-next job (listing_of job) a.height a.k.0 a.lines.now.layouts.now words i.invariant.0 m.ensures.0 m.ensures.1 o.new.counts i.invariant.1 i.invariant.2 c.is_front-front.ensures o.ensures.strip_value.0 o.ensures.strip_value.1 o.ensures.by_index o.auto.counts in
    let t : c.begins_stack.result ≡ true = search rules in (
      line-inside begins_stack a.lines.now.layouts.now a.lines.now.number m.result.end refl words c.begins_stack.ensures t,
      omega (arith, m.ensures.1.begun, i.invariant.1),
      rw (left-more a.lines.now.layouts.now m.result.end c.begins_stack.ensures t) at after,
    )
