use native.Mathlib.Omega.{arith}
use Rattle.placement.proofs.Rows.{read-placed}
use Rattle.layouts_lines.proofs.CodeTurns.{first_read, next-read, turns-none, first-refused, first-passed, turns-end, turn-refused, turn-passed}
use Rattle.layouts_lines.proofs.turns.turns_row.Goals as goal

pub returns-then-lines-eq0 : goal.returns-then-lines-eq0
returns-then-lines-eq0 c = turns-none c.args.layouts.now c.args.lines c.args.k c.requires.0 c.if-lines-eq0.true

pub returns-then-not-same_turn : goal.returns-then-not-same_turn
returns-then-not-same_turn c = rw c.at.ensures (first-refused c.args.layouts.now c.args.lines c.args.k c.requires.0 (omega (arith, c.if-lines-eq0.false)) (first_read c.same_turn.ensures (read-placed c.placement_at-first.ensures)) c.if-not-same_turn.true-raw)

pub loop-c-init : goal.loop-c-init
loop-c-init c =
    first-passed c.args.layouts.now c.args.lines c.args.k c.requires.0 (omega (arith, c.if-lines-eq0.false)) (first_read c.same_turn.ensures (read-placed c.placement_at-first.ensures)) c.if-not-same_turn.false-raw

pub returns-then-not-follows : goal.returns-then-not-follows
returns-then-not-follows c =
    let l = c.loop-c in
    rw c.at-then-not-follows.ensures
    (turn-refused c.args.layouts.now c.args.lines c.args.k c.requires.0 l.c l.invariant c.loop-c-test.true (next-read c.follows.ensures (read-placed c.placement_at-last.ensures) (read-placed c.placement_at-line.ensures)) c.if-not-follows.true-raw)

pub loop-c-preserved : goal.loop-c-preserved
loop-c-preserved c =
    let l = c.loop-c in
    turn-passed c.args.layouts.now c.args.lines c.args.k c.requires.0 l.c l.invariant c.loop-c-test.true (next-read c.follows.ensures (read-placed c.placement_at-last.ensures) (read-placed c.placement_at-line.ensures)) c.if-not-follows.false-raw

pub returns : goal.returns
returns c =
    let l = c.loop-c in
    turns-end c.args.layouts.now c.args.lines c.args.k c.requires.0 l.c l.invariant c.loop-c-test.false
