use mathlib.Core.Path.{◌≡◌, refl, ap, ◌∙◌}
use native.Mathlib.Omega.{arith}
use borrow.Author.Rules.{rules}
use lib.ListN.{length}
use Rattle.job.specs.Mode.{three as three_stages}
use Rattle.job.specs.Job.{job_of}
use Rattle.listing.specs.Listing.{listing_of}
use Rattle.fold_counts.proofs.CodeFold.{none-counted, fold-begin, fold-rule, fold-counting, fold_step, fold_end}
use Rattle.fold_counts.proofs.fold.fold_into.Goals as goal

pub loop-a-init : goal.loop-a-init
loop-a-init c =
    let a = c.args in
    (search rules, refl, fold-begin (job_of a.job.now) (listing_of (job_of a.job.now)) a.layouts.now a.k.0 (none-counted (length a.counts.now) a.k.0 c.clear.ensures (omega (arith, c.requires.cuts_lent.1, c.clear.auto.buffer))) c.requires.mode_value.1 c.size_named-board.ensures)

pub fold_strip-strip-requires : goal.fold_strip-strip-requires
fold_strip-strip-requires c =
    let a = c.args in
    let i = c.loop-a in
    let job = job_of a.job.now in
    let l = listing_of job in
    let words = c.requires.lines_lent.lines-lent.whole in
    let few = c.requires.lines_lent.lines-lent.few in record { lines_lent = (c.requires.lines_lent, c.loop-a-test.true); cuts_lent = c.requires.cuts_lent.0; counting = fold-counting job l a.layouts.now a.k.0 a.lines words (omega (arith, i.invariant.0)) (omega (arith, i.invariant.1, c.requires.cuts_lent.1, c.clear.auto.buffer)) i.invariant.2; three_value = (c.three-three.ensures ∙ ap three_stages c.requires.mode_value.0, fold-rule job l a.layouts.now a.k.0 a.lines words c.loop-a-test.true i.invariant.2) }

pub loop-a-preserved : goal.loop-a-preserved
loop-a-preserved c =
    let a = c.args in
    let i = c.loop-a in
    let job = job_of a.job.now in
    let f = c.fold_strip-strip in
    (f.ensures.end_value.1.1.0, f.auto.counts ∙ i.invariant.1, fold_step job (listing_of job) a.layouts.now a.k.0 a.lines c.requires.lines_lent.lines-lent.whole f.result.end _ _ f.result.board.0 c.loop-a-test.true i.invariant.2 f.ensures.end_value.0 f.ensures.by_index f.ensures.end_value.1.1.1 c.strip_plate-board.ensures)

pub returns : goal.returns
returns c =
    let a = c.args in
    let i = c.loop-a in
    let job = job_of a.job.now in
    let e = fold_end job (listing_of job) a.layouts.now a.k.0 a.lines c.requires.lines_lent.lines-lent.whole c.loop-a-test.false c.requires.cuts_lent.0 i.invariant.2 in
    let n : length i.counts ≡ length a.counts.now = i.invariant.1 ∙ c.clear.auto.buffer in
    rw n at e
