-- The cases of the blade, by computation, and what a sum with gaps is.
use mathlib.Core.Path.{refl}
use Rattle.job.proofs.Sums.{gap_sum-none, gap_sum-one, gap_sum-more, gap_sum-zero}
use Rattle.cases.specs.Calls.{plates, cuts, counts, placements, offcuts, listing, unfolding', folding, succeeds, refuses}
use Rattle.cases.specs.Jobs.{plates_a, cuts_a}
use Rattle.cases.specs.Blade.{BladeLimits, BladeCuts, Gaps, BladeLayouts, BladeRules, blade_a, blade_t, one_item, stacks, plates_s, cuts_s, lines_s, lines_s-stack-first, plan_s, deep_stack, low_beside, narrow_over}
use Rattle.cases.proofs.Opened.{computed}

pub blade_limits : BladeLimits
unfolding computed plates cuts listing succeeds refuses one_item
blade_limits =
    record {
      greatest = refl;
      past = refl;
      past-before-type = refl;
      type-after = refl;
      no-blade = refl;
      before-types = refl;
      length-by-types = refl;
    }

pub blade_cuts : BladeCuts
unfolding computed plates cuts listing succeeds plates_a cuts_a blade_a blade_t one_item stacks plates_s cuts_s deep_stack
blade_cuts =
    record {
      wide-0 = refl;
      wide-1 = refl;
      wide-2 = refl;
      wide-3 = refl;
      wide-4 = refl;
      above-every-side = refl;
      three-stages = refl;
      stage-three = refl;
      turned = refl;
      equal-across = refl;
      equal-upwards = refl;
      less-across = refl;
      less-upwards = refl;
      more-across = refl;
      more-upwards = refl;
      less-than-blade = refl;
      whole-board = refl;
      two-beside = refl;
      one-alone = refl;
    }

pub gaps : Gaps
gaps = record { none = gap_sum-none; one = gap_sum-one; more = gap_sum-more; without = gap_sum-zero }

pub blade_layouts : BladeLayouts
unfolding computed plates cuts counts placements offcuts unfolding' folding succeeds refuses one_item stacks plates_s cuts_s lines_s lines_s-stack-first plan_s low_beside narrow_over
blade_layouts =
    record {
      beside = refl;
      stacked = refl;
      stacked-back = refl;
      stack-width = refl;
      wider-gap = refl;
      narrower-gap = refl;
      no_gap = refl;
      strips-too-close = refl;
      gap-in-height = refl;
      past-right = refl;
      past_top = refl;
      third-strip = refl;
      to-the-right = refl;
      to-the-top = refl;
      to-the-edges = refl;
      trim-above = refl;
      trim-beside = refl;
    }

pub blade_rules : BladeRules
unfolding computed one_item stacks lines_s
blade_rules =
    record {
      rules = refl;
      positions = refl;
      inside-board = refl;
      items_apart = refl;
      too-close-upwards = refl;
      too-close-across = refl;
      too-close-both = refl;
      further-apart = refl;
      two-boards = refl;
      past-width = refl;
      past-height = refl;
    }
