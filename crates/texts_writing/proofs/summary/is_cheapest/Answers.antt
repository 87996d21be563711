use Prim.Native.Nat.{◌-◌}
use native.Mathlib.Nat.{zero-mul}
use native.Mathlib.Omega.{arith}
use mathlib.Core.Path.{◌≡◌, refl}
use Rattle.plan.specs.Prices.{is_cheapest}
use Rattle.texts_writing.proofs.summary.is_cheapest.Goals as goal

-- `is_cheapest` compares the product, which 64 bits hold, with the sum.
pub returns-then-cost-eq0 : goal.returns-then-cost-eq0
unfolding is_cheapest
returns-then-cost-eq0 c =
    let a = c.args in
    let z : a.cost - 1 ≡ 0 = omega arith in
    rw (z, zero-mul)

pub returns : goal.returns
unfolding is_cheapest
returns c = refl
