-- What cuts leave, by computation.
use mathlib.Core.Path.{refl}
use Rattle.cases.specs.Calls.{plates, cuts, listing}
use Rattle.cases.specs.Leavings.{Leavings, low_strip, narrow_stack}
use Rattle.cases.proofs.Opened.{computed}

pub leavings : Leavings
unfolding computed plates cuts listing low_strip narrow_stack
leavings =
    record {
      two-stage-top = refl;
      stage-three-right = refl;
    }
