use native.Mathlib.Omega.{arith}
use mathlib.Core.Path.{sym, ◌∙◌}
use borrow.Author.Tests.{not-true, not-false}
use Rattle.job.proofs.Tests.{not-both}
use Rattle.saw_text_lines.specs.SawKept.{lent}
use Rattle.saw_text_lines.proofs.KeptSound.{room-again, kept-sound}
use Rattle.saw_text_reader.proofs.SawSteps.{after-line-step}
use Rattle.saw_text_reader.proofs.saw.SawReader.numbers.Goals as goal

-- `numbers` takes the numbers of a line, and the text stands after it or is refused.
pub head_of-head-requires : goal.head_of-head-requires
head_of-head-requires c = omega (arith, c.requires.saw_ready.room.for-job)

pub returns-then-not-sound : goal.returns-then-not-sound
returns-then-not-sound c = record {
  ready = c.requires.saw_ready;
  kept = λ r k. absurd (not-both (kept-sound c.args.self.text.place r.state r.lines c.args.self.held _ k.text.stands k.held) (rw c.head_of-head.ensures.of-sizes at (sym c.sound.ensures ∙ not-true _ c.if-not-sound.true-raw)));
}

pub take_numbers-taken-requires : goal.take_numbers-taken-requires
take_numbers-taken-requires c = record { room = c.requires.saw_ready.room; line_nonzero = (omega arith, rw (← c.head_of-head.ensures.of-sizes) (sym c.sound.ensures ∙ not-false _ c.if-not-sound.false-raw)) }

pub returns : goal.returns
returns c =
    let a = c.args in
    let took = c.take_numbers-taken in
    after-line-step a.self (lent a.job.now a.plates.now a.cuts.now a.counts.now a.prices.now) _ a.numbers.now
    (room-again c.requires.saw_ready.room took.auto.job took.auto.plates took.auto.cuts took.auto.counts took.auto.prices)
    took.result
    (λ r k. took.ensures r.state r.lines k.text.stands (omega (arith, k.text.lines)) k.held)
    c.requires.lines_lt_max_lines
    c.after_line.ensures
