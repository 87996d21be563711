-- The full sizes of buffers, by computation.
use mathlib.Core.Path.{refl}
use Rattle.cases.specs.Jobs.{job_a, plan_a, prices_a, lines_a}
use Rattle.cases.specs.FullSizes.{FullSizes, sevens, counts_a}
use Rattle.cases.proofs.Opened.{computed}

pub full_sizes : FullSizes
unfolding computed job_a plan_a prices_a lines_a sevens counts_a
full_sizes =
    record {
      listing_full = refl;
      listing-plates = refl;
      listing-cuts = refl;
      plan-full = refl;
      plan-plates = refl;
      plan-cuts = refl;
      plan-counts = refl;
      prices-full = refl;
      prices-plates = refl;
      prices-cuts = refl;
      unfolding-full = refl;
      unfolding-plates = refl;
      unfolding-cuts = refl;
      unfolding-counts = refl;
      unfolding-placements = refl;
      unfolding-offcuts = refl;
      folding-full = refl;
      folding-plates = refl;
      folding-cuts = refl;
      folding-counts = refl;
      past-size = refl;
      longer-plates = refl;
      longer-cuts = refl;
      longer-placements = refl;
      longer-offcuts = refl;
      longer-counts = refl;
    }
