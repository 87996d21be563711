use mathlib.Core.Path.{sym, ap, ◌∙◌}
use lib.ListN.{length}
use borrow.Author.Tests.{not-true, not-false}
use Rattle.texts.specs.Shape.{each_within}
use Rattle.texts_reading.specs.Judged.{limits_of}
use Rattle.texts_reading.proofs.CodeWords.{part-rest}
use Rattle.texts_reading.proofs.CodeJudge.{begins-starts, row-size, row-head, row-outside, row-passes}
use Rattle.texts_reading.proofs.judge.judge.Goals as goal

-- `judge` compares the number of numbers, then the head, then the values.
pub returns-then-numbers-from : goal.returns-then-numbers-from
returns-then-numbers-from c line = row-size c.args.head.now c.args.low.now c.args.high.now c.args.numbers.now c.requires.0 c.requires.1 line c.if-numbers-from.true

pub returns-then-not-starts_with : goal.returns-then-not-starts_with
returns-then-not-starts_with c line = row-head c.args.head.now c.args.low.now c.args.high.now c.args.numbers.now c.requires.0 c.requires.1 line (sym (not-true _ c.if-not-starts_with.true-raw) ∙ c.starts_with.ensures.value ∙ begins-starts _ _)

pub returns-then-not-within_limits : goal.returns-then-not-within_limits
returns-then-not-within_limits c line =
    let ns = c.args.numbers.now in
    let ls = limits_of c.args.low.now c.args.high.now in
    row-outside c.args.head.now c.args.low.now c.args.high.now ns c.requires.0 c.requires.1 line (sym (not-false _ c.if-not-starts_with.false-raw) ∙ c.starts_with.ensures.value ∙ begins-starts _ _) c.if-numbers-from.false (sym (not-true _ c.if-not-within_limits.true-raw) ∙ c.within_limits.ensures ∙ ap (each_within ls) (part-rest ns (length c.args.head.now)))

pub returns : goal.returns
returns c line =
    let ns = c.args.numbers.now in
    let ls = limits_of c.args.low.now c.args.high.now in
    row-passes c.args.head.now c.args.low.now c.args.high.now ns c.requires.0 c.requires.1 line (sym (not-false _ c.if-not-starts_with.false-raw) ∙ c.starts_with.ensures.value ∙ begins-starts _ _) c.if-numbers-from.false (sym (not-false _ c.if-not-within_limits.false-raw) ∙ c.within_limits.ensures ∙ ap (each_within ls) (part-rest ns (length c.args.head.now)))
