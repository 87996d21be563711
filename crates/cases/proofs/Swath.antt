-- Offcuts and the swath of the blade, by computation; that there is no swath without a blade, of any cut.
use mathlib.Core.Path.{refl}
use Rattle.listing.proofs.Waste.{no-swath}
use Rattle.cases.specs.Calls.{plates, cuts, placements, offcuts}
use Rattle.cases.specs.Offcuts.{left_over, shelves, areas}
use Rattle.cases.specs.Blade.{blade_a, one_item, stacks, plan_s, low_beside, trim_beside, trim_plan}
use Rattle.cases.specs.Swath.{Swaths, BladeOffcuts, BladeBalances}
use Rattle.cases.proofs.Opened.{computed}

pub swaths : Swaths
unfolding computed
swaths =
    record {
      stage-one = refl;
      two-stages = refl;
      whole-trim = refl;
      three-stages = refl;
      stage-three = refl;
      trim-beside = refl;
      no-blade = no-swath;
    }

pub blade_offcuts : BladeOffcuts
unfolding computed plates cuts placements offcuts left_over shelves blade_a one_item trim_beside trim_plan
blade_offcuts =
    record {
      past-blade = refl;
      narrow-stack = refl;
      none = refl;
      none-less = refl;
    }

pub blade_balances : BladeBalances
unfolding computed areas blade_a one_item stacks plan_s low_beside trim_beside trim_plan
blade_balances =
    record {
      clipped = refl;
      trim-above = refl;
      trim-beside = refl;
      stacked = refl;
      residual-wasted = refl;
      offcuts-left = refl;
      all-swath = refl;
    }
