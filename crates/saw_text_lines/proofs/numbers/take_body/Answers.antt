use native.Mathlib.Omega.{arith}
use mathlib.Core.Path.{sym, ◌∙◌}
use lib.ListN.{get_or}
use lib.Seq.{length-take-le}
use borrow.Author.Tests.{eqb-true, eqb-false}
use Rattle.job.specs.Sizes.{job_size}
use Rattle.saw_text_lines.specs.SawKept.{lent}
use Rattle.saw_text_lines.proofs.TakeLaws.{body-few, body-words, part-head}
use Rattle.saw_text_lines.proofs.numbers.take_body.Goals.{then-n-gt-MAX_TYPES-via-then-n-gt-MAX_TYPES, then-n-gt-MAX_TYPES-via-else-n-gt-MAX_TYPES+then-t-gt-MAX_SIZES}
use Rattle.saw_text_lines.proofs.numbers.take_body.Goals as goal

-- `take_body` goes by the kind; a line 3 is judged by the job's words, the first of their buffer.
pub returns-then-begins_prices : goal.returns-then-begins_prices
returns-then-begins_prices c s lines e here kept =
    let a = c.args in
    let kind = sym c.begins_prices.ensures ∙ c.if-begins_prices.true in
    c.take_prices.ensures s lines a.job.now a.plates.now a.cuts.now a.counts.now e (eqb-true (get_or a.numbers.now 0 0) 4 kind) kept

pub returns-then-n-gt-MAX_TYPES : goal.returns-then-n-gt-MAX_TYPES
returns-then-n-gt-MAX_TYPES c s lines e here kept =
    let a = c.args in
    let head = c.head_of-head in
    let few = body-few s lines a.held (lent a.job.now a.plates.now a.cuts.now a.counts.now a.prices.now) head.result.sizes.0 head.result.types.0 head.ensures.of-sizes head.ensures.of_types e kept in
    let no : ⊥ = elim c.then-n-gt-MAX_TYPES.branch [
      | then-n-gt-MAX_TYPES-via-then-n-gt-MAX_TYPES w ↦ omega (arith, w.if-n-gt-MAX_TYPES.true, few.1)
      | then-n-gt-MAX_TYPES-via-else-n-gt-MAX_TYPES+then-t-gt-MAX_SIZES w ↦ omega (arith, w.if-t-gt-MAX_SIZES.true, few.0)
    ] in
    absurd no

pub slice_bounds-take_plan-end : goal.slice_bounds-take_plan-end
slice_bounds-take_plan-end c =
    let head = c.head_of-head in
    sym (length-take-le (job_size head.result.sizes.0 head.result.types.0) c.args.job.now (omega (arith, c.requires.1.for-job)))

pub take_plan-requires : goal.take_plan-requires
take_plan-requires c =
    let head = c.head_of-head in
    let room = c.requires.1 in
    let part = part-head head.result.sizes.0 head.result.types.0 c.args.job.now (omega (arith, room.for-job)) in record { line_nonzero = (c.requires.0, (room.for-plates, (room.for-cuts, room.for-counts))); words_of_head_in_bounds = (part.0, omega (arith, part.1, head.ensures.of_types)) }

pub returns : goal.returns
returns c s lines e here kept =
    let a = c.args in
    let head = c.head_of-head in
    let kind = sym c.begins_prices.ensures ∙ c.if-begins_prices.false in
    let words = body-words s lines a.held (lent a.job.now a.plates.now a.cuts.now a.counts.now a.prices.now) head.result.sizes.0 head.result.types.0 head.ensures.of-sizes head.ensures.of_types e kept in
    c.take_plan.ensures s lines a.job.now a.prices.now e (eqb-false (get_or a.numbers.now 0 0) 4 kind) here words kept
