use native.Mathlib.Omega.{arith}
use mathlib.Core.Path.{ap, ◌∙◌}
use Rattle.job.specs.Job.{turned}
use Rattle.texts_reading.proofs.CodeTurns.{type-zero, type-past, turn-none, turn-may, turn-not}
use Rattle.texts_reading.proofs.turns.turn_row.Goals as goal

-- `turn_row` looks for the item type's words, and turns it where the turn is 1.
pub returns-then-i-eq0 : goal.returns-then-i-eq0
returns-then-i-eq0 c line = type-zero c.args.job.now c.args.i.0 c.args.turn c.requires.0 line c.if-i-eq0.true

pub returns-then-job-sizes : goal.returns-then-job-sizes
returns-then-job-sizes c line = type-past c.args.job.now c.args.i.0 c.args.turn c.requires.0 line c.if-i-eq0.false c.if-job-sizes.true

pub returns-then-turn-eq0 : goal.returns-then-turn-eq0
returns-then-turn-eq0 c line = turn-none c.args.job.now c.args.i.0 c.args.turn c.requires.0 (omega (arith, c.if-i-eq0.false)) c.if-job-sizes.false line c.if-turn-eq0.true

pub returns-then-p : goal.returns-then-p
returns-then-p c line =
    let p = c.turned-p.ensures ∙ ap turned c.item_at.ensures in
    turn-may c.args.job.now c.args.i.0 c.args.turn c.requires.0 (omega (arith, c.if-i-eq0.false)) c.if-job-sizes.false line c.if-turn-eq0.false p c.if-p.true

pub returns : goal.returns
returns c line =
    let p = c.turned-p.ensures ∙ ap turned c.item_at.ensures in
    turn-not c.args.job.now c.args.i.0 c.args.turn c.requires.0 (omega (arith, c.if-i-eq0.false)) c.if-job-sizes.false line c.if-turn-eq0.false p c.if-p.false
