-- The cases of a plate type's own cuts, by computation.
use mathlib.Core.Path.{refl}
use Rattle.cases.specs.Jobs.{plan_a}
use Rattle.cases.specs.Offcuts.{offcuts_a}
use Rattle.cases.specs.BoardSizes.{stock_a, none_fits}
use Rattle.cases.specs.OwnCuts.{numbers, beginnings, parts, found_on, by_parts, none_between, none_last, OwnCutsCases}
use Rattle.cases.proofs.Opened.{computed}

pub own_cuts_cases : OwnCutsCases
unfolding computed plan_a offcuts_a stock_a none_fits numbers beginnings parts found_on by_parts none_between none_last
own_cuts_cases =
    record {
      begins-first = refl;
      parts_first = refl;
      begins-between = refl;
      parts-between = refl;
      parts_last = refl;
      first-of-part = refl;
      last-of-part = refl;
      none-in-part = refl;
      none_in_empty = refl;
      unfolded-past-empty = refl;
      left-past-empty = refl;
    }
