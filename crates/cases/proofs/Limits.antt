-- The limits of words, by computation.
use mathlib.Core.Path.{refl}
use Rattle.cases.specs.Calls.{plates, cuts, counts, placements, offcuts, listing, plan, prices, unfolding', folding}
use Rattle.cases.specs.Jobs.{job_a, alone}
use Rattle.cases.specs.Limits.{JobLimits, ModelLimits, PlanLimits, LayoutLimits, one_type, forty_types, full_demands, two_sizes_t}
use Rattle.cases.proofs.Opened.{computed}

pub job_limits : JobLimits
unfolding computed plates cuts listing one_type forty_types full_demands
job_limits =
    record {
      sides-greatest = refl;
      sides-least = refl;
      board-width-zero = refl;
      board-width-high = refl;
      board-height-zero = refl;
      board-height-high = refl;
      stages-low = refl;
      item-width-zero = refl;
      item-width-high = refl;
      item-height-zero = refl;
      item-height-high = refl;
      forty-types = refl;
      demand-zero = refl;
      demand-greatest = refl;
      demand-high = refl;
      demands-greatest = refl;
    }

pub model_limits : ModelLimits
unfolding computed cuts job_a
model_limits =
    record {
      limits = λ job. refl;
      at-both-limits = refl;
      types-met-first = refl;
      cuts-met-first = refl;
    }

pub plan_limits : PlanLimits
unfolding computed plates cuts placements offcuts plan prices unfolding' job_a alone
plan_limits =
    record {
      total-greatest = refl;
      total-high = refl;
      past-last-first = refl;
      past-last-unfolding = refl;
      price-greatest = refl;
      item-price-high = refl;
      residual-price-high = refl;
      denominator-high = refl;
      one-price-more = refl;
    }

pub layout_limits : LayoutLimits
unfolding computed plates cuts counts folding job_a two_sizes_t
layout_limits =
    record {
      values-greatest = refl;
      board-zero = refl;
      strip-zero = refl;
      stack-zero = refl;
      place-zero = refl;
      board-high = refl;
      strip-high = refl;
      stack-high = refl;
      place-high = refl;
      type-zero = refl;
      type-high = refl;
      size-high = refl;
      x-high = refl;
      y-high = refl;
      lines-most = refl;
      lines-many = refl;
    }
