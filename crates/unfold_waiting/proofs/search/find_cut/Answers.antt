use Prim.Native.Nat.{◌+◌}
use native.Mathlib.Omega.{arith}
use Rattle.unfold_waiting.proofs.CodeBegins.{number-below, found_here, found_nowhere}
use Rattle.unfold_waiting.proofs.search.find_cut.Goals as goal

-- `find_cut` hands on the part of the plate type's cuts, and numbers what is found there from where they begin.
pub returns-in_default : goal.returns-in_default
returns-in_default c job l m b =
    let a = c.args in
    found_nowhere job l m a.begins.now a.counts.now a.j.0 c.requires b c.first_left.ensures c.in_default.is

pub overflow_add-result : goal.overflow_add-result
overflow_add-result c =
    let a = c.args in
    let below = number-below a.begins.now a.counts.now a.j.0 c.requires c.first_left.ensures _ c.in-Some.is in
    omega (arith, below, c.type_inv.begins (a.j.0 + 1))

pub overflow_add-result-2 : goal.overflow_add-result-2
overflow_add-result-2 c =
    let a = c.args in
    let below = number-below a.begins.now a.counts.now a.j.0 c.requires c.first_left.ensures _ c.in-Some.is in
    omega (arith, below, c.type_inv.begins (a.j.0 + 1))

pub overflow_cast-result : goal.overflow_cast-result
overflow_cast-result c =
    let a = c.args in
    let below = number-below a.begins.now a.counts.now a.j.0 c.requires c.first_left.ensures _ c.in-Some.is in
    omega (arith, below, c.type_inv.begins (a.j.0 + 1))

pub returns : goal.returns
returns c job l m b =
    let a = c.args in
    found_here job l m a.begins.now a.counts.now a.j.0 c.requires b c.first_left.ensures _ c.in-Some.is
