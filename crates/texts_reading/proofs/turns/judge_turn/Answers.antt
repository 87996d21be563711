use Rattle.std.proofs.lemmas.Result.{err_from_is_err_and}
use native.Mathlib.Omega.{arith}
use Rattle.texts_reading.proofs.CodeTurns.{turning-refused, turning-row, turning-size, turning-at}
use Rattle.texts_reading.proofs.CodeJobLines.{said-passed, said-refused}
use Rattle.texts_reading.proofs.turns.judge_turn.Goals as goal

-- `judge_turn` judges the numbers by the head and the limits, then the turn.
pub returns-in_err-judge : goal.returns-in_err-judge
returns-in_err-judge c =
    let a = c.args in
    let p = err_from_is_err_and c.from_residual.result c.from_residual.ensures.1 in
    let e = c.in_err-judge.was in
    rw (p.1, p.2) (rw e at (turning-refused a.kind a.low.now a.high.now a.job.now a.i a.t a.numbers.now _ c.judge.ensures (said-refused e)))

pub bounds-numbers-i : goal.bounds-numbers-i
bounds-numbers-i c = omega (arith, c.requires.high_len, c.requires.i_bound, turning-size c.args.kind c.args.low.now c.args.high.now c.args.job.now c.args.i c.args.t c.args.numbers.now _ c.judge.ensures (said-passed c.in_ok-judge.was) c.requires.high_len.0)

pub overflow_cast-numbers : goal.overflow_cast-numbers
overflow_cast-numbers c = omega (arith, c.requires.high_len, c.requires.i_bound, turning-at c.args.kind c.args.low.now c.args.high.now c.args.job.now c.args.i c.args.t c.args.numbers.now _ c.judge.ensures (said-passed c.in_ok-judge.was) c.requires.high_len.0 c.args.i c.requires.high_len.1.0)

pub bounds-numbers-t : goal.bounds-numbers-t
bounds-numbers-t c = omega (arith, c.requires.high_len, c.requires.i_bound, turning-size c.args.kind c.args.low.now c.args.high.now c.args.job.now c.args.i c.args.t c.args.numbers.now _ c.judge.ensures (said-passed c.in_ok-judge.was) c.requires.high_len.0)

pub turn_row-requires : goal.turn_row-requires
turn_row-requires c = omega (arith, c.requires.high_len, c.requires.i_bound, turning-at c.args.kind c.args.low.now c.args.high.now c.args.job.now c.args.i c.args.t c.args.numbers.now _ c.judge.ensures (said-passed c.in_ok-judge.was) c.requires.high_len.0 c.args.t c.requires.high_len.1.1)

pub returns : goal.returns
returns c = turning-row c.args.kind c.args.low.now c.args.high.now c.args.job.now c.args.i c.args.t c.args.numbers.now _ c.judge.ensures (said-passed c.in_ok-judge.was) _ c.turn_row.ensures
