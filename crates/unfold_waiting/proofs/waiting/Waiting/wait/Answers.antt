use mathlib.Core.Path.{sym, ◌∙◌}
use Rattle.unfold_waiting.specs.Meaning.{waiting_of}
use Rattle.unfold_waiting.proofs.CodeWaiting.{held_stage, wait-waste, wait-first, wait-second, wait-third}
use Rattle.unfold_waiting.proofs.waiting.Waiting.wait.Goals as goal

-- `wait` puts a kept residual into the place of its stage.
pub returns-then-j-eq0 : goal.returns-then-j-eq0
returns-then-j-eq0 c job l h =
    let a = c.args in sym (wait-waste l a.j.0 a.x a.y (waiting_of a.self) c.if-j-eq0.true)

pub returns-in-1 : goal.returns-in-1
returns-in-1 c job l h =
    let a = c.args in
    sym (wait-first l a.j.0 a.x a.y (waiting_of a.self) c.if-j-eq0.false
    (held_stage job l a.j.0 h c.plate_at-stage.ensures ∙ c.in-1.is))

pub returns-in-2 : goal.returns-in-2
returns-in-2 c job l h =
    let a = c.args in
    sym (wait-second l a.j.0 a.x a.y (waiting_of a.self) c.if-j-eq0.false
    (held_stage job l a.j.0 h c.plate_at-stage.ensures ∙ c.in-2.is))

pub returns-in_default : goal.returns-in_default
returns-in_default c job l h =
    let a = c.args in
    let s = held_stage job l a.j.0 h c.plate_at-stage.ensures in
    sym (wait-third l a.j.0 a.x a.y (waiting_of a.self) c.if-j-eq0.false
    (λ e. c.in_default.in_default-own.rest.0.1 (sym s ∙ e))
    (λ e. c.in_default.in_default-own.rest.1 (sym s ∙ e)))
