-- The refusals of the calls, by computation.
use mathlib.Core.Path.{refl}
use Rattle.cases.specs.Calls.{plates, cuts, counts, placements, offcuts, listing, plan, prices, unfolding', folding, succeeds, refuses}
use Rattle.cases.specs.Jobs.{job_a, job_a2e, plan_a, lines_a, job_b, alone}
use Rattle.cases.specs.Refusals.{Refusals, short_plates, short_cuts, short_counts, short_placements, too_many, many_types}
use Rattle.cases.proofs.Opened.{computed}

pub refusals : Refusals
unfolding computed plates cuts counts placements offcuts listing plan prices unfolding' folding succeeds refuses job_a job_a2e plan_a lines_a job_b alone short_plates short_cuts short_counts short_placements too_many many_types
refusals =
    record {
      job-empty = refl;
      job-length = refl;
      job-one-more = refl;
      job-number = refl;
      job-many-types = refl;
      job-stages = refl;
      job-exact = refl;
      job-type = refl;
      type-before-size = refl;
      large-item = refl;
      size-before-demands = refl;
      demands = refl;
      job-before-buffer = refl;
      job-before-buffer-zero = refl;
      short-plates = refl;
      short-cuts = refl;
      short-counts = refl;
      short-placements = refl;
      short-lent-counts = refl;
      unchanged = refl;
      unchanged-placements = refl;
      types-enough = refl;
      cuts-enough = refl;
      cut-first = refl;
      past-last = refl;
      past-size = refl;
      total = refl;
      short-before-overdrawn = refl;
      unfold-refused = refl;
      price-word = refl;
      denominator = refl;
      surplus-price = refl;
      item-first = refl;
      buffer-before-prices = refl;
      no-prices = refl;
      one-price-less = refl;
      cut_short = refl;
      layout-value = refl;
      layout-before-size = refl;
      layout-limits = refl;
      no_lines = refl;
      first-turn = refl;
      next-turn = refl;
      stage-rule = refl;
      stage-rule-two = refl;
      stage-rule-three = refl;
      stage-before-past = refl;
      past-right = refl;
      past_top = refl;
      past-before-position = refl;
      wrong-x = refl;
      wrong-y = refl;
      layouts-short = refl;
      counts_zero = refl;
    }
