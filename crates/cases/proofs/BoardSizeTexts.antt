-- The texts of several board sizes, by computation.
use mathlib.Core.Path.{refl}
use Rattle.cases.specs.BoardSizes.{dearest}
use Rattle.cases.specs.BoardSizeTexts.{BoardSizeTexts, line_one, type_lines, first_size, second_size, two_lines, plan_lines, laid, item_prices, plate_price}
use Rattle.cases.proofs.Opened.{computed}

pub board_size_texts : BoardSizeTexts
unfolding computed dearest line_one type_lines first_size second_size two_lines plan_lines laid item_prices plate_price
board_size_texts =
    record {
      saw = refl;
      fold = refl;
      prices = refl;
      price-of-size = refl;
      second-first = refl;
      number-outside = refl;
      missing = refl;
      surplus = refl;
      none = refl;
      after-types = refl;
      short-line = refl;
      size-differs = refl;
      size-past = refl;
      residual-drawn = refl;
      wide-product = refl;
      product-wraps = refl;
    }
