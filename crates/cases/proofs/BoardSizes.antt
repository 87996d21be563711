-- The cases of several board sizes, by computation.
use mathlib.Core.Path.{refl}
use Rattle.cases.specs.Calls.{plates, cuts, counts, placements, offcuts, listing, plan, prices, unfolding', folding, succeeds, refuses}
use Rattle.cases.specs.Offcuts.{left_over, shelves, areas}
use Rattle.cases.specs.BoardSizes.{SizeLimits, SizesListed, SizePlans, SizeLayouts, SizePrices, stock_a, two_sizes, plates_two, cuts_two, plan_two, lines_two, lines_two-other-order, none_fits, plates_none, cuts_none, equal_sizes, dear_and_cheap, dearest, turned_on_second, neither_alone, six_sizes}
use Rattle.cases.proofs.Opened.{computed}

pub size_limits : SizeLimits
unfolding computed plates cuts counts placements offcuts listing plan prices unfolding' folding succeeds refuses left_over shelves areas stock_a two_sizes plates_two cuts_two plan_two lines_two lines_two-other-order none_fits plates_none cuts_none equal_sizes dear_and_cheap dearest turned_on_second neither_alone six_sizes
size_limits =
    record {
      six = refl;
      no_size = refl;
      seven = refl;
      words-less = refl;
      size-more = refl;
      length-first = refl;
      cost-zero = refl;
      cost-high = refl;
      width-zero = refl;
      height-high = refl;
      before-types = refl;
      fits-second = refl;
      fits-none = refl;
      turned-on-second = refl;
      not-turned = refl;
    }

pub sizes_listed : SizesListed
unfolding computed plates cuts counts placements offcuts listing plan prices unfolding' folding succeeds refuses left_over shelves areas stock_a two_sizes plates_two cuts_two plan_two lines_two lines_two-other-order none_fits plates_none cuts_none equal_sizes dear_and_cheap dearest turned_on_second neither_alone six_sizes
sizes_listed =
    record {
      same-sides = refl;
      none-fits = refl;
      equal = refl;
      at-both-limits = refl;
      sizes-counted = refl;
    }

pub size_plans : SizePlans
unfolding computed plates cuts counts placements offcuts listing plan prices unfolding' folding succeeds refuses left_over shelves areas stock_a two_sizes plates_two cuts_two plan_two lines_two lines_two-other-order none_fits plates_none cuts_none equal_sizes dear_and_cheap dearest turned_on_second neither_alone six_sizes
size_plans =
    record {
      cost = refl;
      size-by-size = refl;
      folded_back = refl;
      other-order = refl;
      residual-drawn = refl;
      left_over_is = refl;
      left-over-second = refl;
      balance-first = refl;
      balance-last = refl;
      dearest-plan = refl;
      sixth = refl;
      sixth-laid = refl;
    }

pub size_layouts : SizeLayouts
unfolding computed plates cuts counts placements offcuts listing plan prices unfolding' folding succeeds refuses left_over shelves areas stock_a two_sizes plates_two cuts_two plan_two lines_two lines_two-other-order none_fits plates_none cuts_none equal_sizes dear_and_cheap dearest turned_on_second neither_alone six_sizes
size_layouts =
    record {
      two-sizes = refl;
      size-differs = refl;
      lowest-line = refl;
      lowest-line-size = refl;
      size-past = refl;
      limits-first = refl;
      own-sides = refl;
      larger-size = refl;
      own-height = refl;
      sheets-of-first = refl;
      sheets-of-second = refl;
      set-cost = refl;
      rules = refl;
      rules-own-size = refl;
      rules-size-past = refl;
      inside-own-size = refl;
      past-own-size = refl;
    }

pub size_prices : SizePrices
unfolding computed plates cuts counts placements offcuts listing plan prices unfolding' folding succeeds refuses left_over shelves areas stock_a two_sizes plates_two cuts_two plan_two lines_two lines_two-other-order none_fits plates_none cuts_none equal_sizes dear_and_cheap dearest turned_on_second neither_alone six_sizes
size_prices =
    record {
      accepted = refl;
      at-limit = refl;
      times-cost = refl;
      each-size = refl;
      over = refl;
      sum = refl;
      not-cheapest = refl;
      product-wraps = refl;
      is-cheapest = refl;
      one_more = refl;
    }
