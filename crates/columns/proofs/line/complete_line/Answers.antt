use Prim.Native.Nat.{◌+◌, ◌*◌, ◌≤◌}
use mathlib.Core.Path.{sym, ◌∙◌}
use native.Mathlib.Omega.{arith}
use lib.ListN.{length, length-set, get_or-eq_default}
use Rattle.columns.proofs.GroupLaws.{number_short}
use Rattle.columns.proofs.LineLaws.{reading-more, reading-not, reading-most, reading-end}
use Rattle.columns.specs.Widths.{group_bytes}
use Rattle.columns.proofs.line.complete_line.Goals as goal

pub returns-then-s-p-eq-END : goal.returns-then-s-p-eq-END
returns-then-s-p-eq-END c h =
    let l = c.loop-i in
    let a = c.args in
    let r = l.invariant.2 h in
    (omega arith, (r.read, reading-end a.s.now a.at l.i a.numbers.now l.numbers r (rw (← l.invariant.0) c.if-s-p-eq-END.true), r.held))

pub returns-then-i-eq-MOST_NUMBERS : goal.returns-then-i-eq-MOST_NUMBERS
returns-then-i-eq-MOST_NUMBERS c h =
    let l = c.loop-i in
    let a = c.args in
    reading-most a.s.now a.at l.i a.numbers.now l.numbers (l.invariant.2 h) c.if-i-eq-MOST_NUMBERS.true (rw (← l.invariant.0) c.if-s-p-eq-END.false)

pub returns-in_err-n : goal.returns-in_err-n
returns-in_err-n c h =
    let l = c.loop-i in
    let a = c.args in
    let none = sym c.number_at.ensures ∙ c.in_err-n.was in
    rw c.from_residual.ensures (λ k _. reading-not a.s.now a.at l.i a.numbers.now l.numbers (l.invariant.2 h) (rw (← l.invariant.0) c.if-s-p-eq-END.false) (rw (← l.invariant.0) none) k)

pub loop-i-preserved : goal.loop-i-preserved
loop-i-preserved c =
    let l = c.loop-i in
    let a = c.args in (
      omega arith,
      simp length-set l.invariant.1,
      λ h. reading-more a.s.now a.at l.i a.numbers.now l.numbers (l.invariant.2 h) _ (omega arith) (rw (← l.invariant.0) c.if-s-p-eq-END.false) (rw (← l.invariant.0) (sym c.number_at.ensures ∙ c.in_ok-n.was)),
    )

pub returns-then-s-p : goal.returns-then-s-p
returns-then-s-p c h =
    let l = c.loop-i in
    let a = c.args in
    let q : length a.s.now ≤ l.p = omega arith in
    λ k _. reading-not a.s.now a.at l.i a.numbers.now l.numbers (l.invariant.2 h) (λ e. omega (arith, e, rw l.invariant.0 at (get_or-eq_default a.s.now 0 q))) (number_short a.s.now (a.at + group_bytes * l.i) (omega (arith, q, l.invariant.0))) k
