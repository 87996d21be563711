-- The blade in texts, by computation.
use mathlib.Core.Path.{refl}
use Rattle.cases.specs.BladeTexts.{BladeTexts, one_item_lines, two_cuts, two_laid}
use Rattle.cases.proofs.Opened.{computed}

pub blade_texts : BladeTexts
unfolding computed one_item_lines two_cuts two_laid
blade_texts =
    record {
      saw = refl;
      fold = refl;
      no-plate = refl;
      past-right = refl;
      wider-gap = refl;
      no_gap = refl;
      greatest = refl;
      past = refl;
      past-fold = refl;
      past_word = refl;
      no-blade = refl;
      no-blade-fold = refl;
      one_more = refl;
      last-number = refl;
    }
