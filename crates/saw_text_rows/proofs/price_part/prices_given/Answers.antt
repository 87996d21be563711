use Prim.Native.Nat.{◌+◌, ◌-◌}
use native.Mathlib.Omega.{arith}
use mathlib.Core.Path.{sym, ap, ◌∙◌}
use lib.Seq.{length-take-le}
use Rattle.job.specs.Job.{job_of}
use Rattle.job.specs.Refused.{row_verdict}
use Rattle.job.proofs.CodeAdmission.{passed-some-size}
use Rattle.listing.proofs.CodeLent.{lent-items}
use Rattle.saw_text_rows.proofs.PricePart.{other-numbers, words-pass, rows-given}
use Rattle.saw_text_rows.proofs.price_part.prices_given.Goals.{then-lines-n-via-then-lines-n, then-lines-n-via-else-lines-n+then-lines-residuals}
use Rattle.saw_text_rows.proofs.price_part.prices_given.Goals as goal

-- `prices_given` says 13 by line 4, then 14 by the price words.
pub returns-then-lines-n : goal.returns-then-lines-n
returns-then-lines-n c l ps z e f g =
    let a = c.args in
    let r = c.residuals-residuals.ensures in
    rw c.at.ensures
    (other-numbers (job_of a.listed.now.job.words.now) l ps a.lines a.prices.now a.listed.now.job.head.sizes.0 a.listed.now.job.head.types.0 a.listed.now.plates.0 (lent-items c.args.listed.now.lent) z e g
    (λ q.
    elim c.then-lines-n.branch [
      | then-lines-n-via-then-lines-n w ↦ w.if-lines-n.true q.0
      | then-lines-n-via-else-lines-n+then-lines-residuals w ↦ w.if-lines-residuals.true (q.1 ∙ sym r)
    ]))

pub slice_bounds-price_words-end : goal.slice_bounds-price_words-end
slice_bounds-price_words-end c =
    let lent = c.args.listed.now.lent in
    let some = passed-some-size c.args.listed.now.job.words.now c.requires.0 in
    rw c.residuals-residuals.ensures
    (sym (length-take-le (1 + c.args.listed.now.job.head.types.0 + (c.args.listed.now.plates.0 - c.args.listed.now.job.head.sizes.0)) c.args.prices.now (omega (arith, some, lent.job-sizes, lent.few-items, lent.few-plates, c.requires.1))))

pub slice_bounds-price_rows-end : goal.slice_bounds-price_rows-end
slice_bounds-price_rows-end c =
    let lent = c.args.listed.now.lent in
    let some = passed-some-size c.args.listed.now.job.words.now c.requires.0 in
    rw c.residuals-residuals.ensures
    (sym (length-take-le (1 + c.args.listed.now.job.head.types.0 + (c.args.listed.now.plates.0 - c.args.listed.now.job.head.sizes.0)) c.args.prices.now (omega (arith, some, lent.job-sizes, lent.few-items, lent.few-plates, c.requires.1))))

pub price_rows-requires : goal.price_rows-requires
price_rows-requires c =
    record { job_value = (c.requires.0, sym c.price_words.ensures ∙ ap row_verdict c.in_ok-price_words.was) }

pub returns-in_err-price_words : goal.returns-in_err-price_words
returns-in_err-price_words c l ps z e f g =
    let a = c.args in
    let r = c.residuals-residuals.ensures in
    absurd
    (words-pass (job_of a.listed.now.job.words.now) l ps a.lines a.prices.now a.listed.now.job.head.sizes.0 a.listed.now.job.head.types.0 a.listed.now.plates.0 (lent-items c.args.listed.now.lent) z e g c.if-lines-n.false (c.if-lines-residuals.false ∙ r)
    (rw r at (sym (ap row_verdict c.in_err-price_words.was) ∙ c.price_words.ensures)))

pub returns : goal.returns
returns c l ps z e f g =
    let a = c.args in
    let r = c.residuals-residuals.ensures in
    rows-given (job_of a.listed.now.job.words.now) l ps a.lines a.prices.now a.listed.now.job.head.sizes.0 a.listed.now.job.head.types.0 a.listed.now.plates.0 (lent-items c.args.listed.now.lent) z e g c.if-lines-n.false (c.if-lines-residuals.false ∙ r)
    (rw r at (c.price_rows.ensures l z e f))
