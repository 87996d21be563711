-- Plan lines that show their plate, by computation.
use mathlib.Core.Path.{refl}
use Rattle.cases.specs.Bytes.{bytes}
use Rattle.cases.specs.TextsA.{job_lines_a}
use Rattle.cases.specs.TextFaults.{large_lines, many_lines, prices_at}
use Rattle.cases.specs.ShownPlates.{ShownPlates, ShownOrder, shows, blade_lines, blade_laid}
use Rattle.cases.proofs.Opened.{computed}

pub shown_plates : ShownPlates
unfolding computed bytes job_lines_a shows blade_lines blade_laid
shown_plates =
    record {
      shown = refl;
      width = refl;
      height = refl;
      stage = refl;
      exchanged = refl;
      item-sides = refl;
      other-list = refl;
      width-zero = refl;
      height-zero = refl;
      stage-zero = refl;
      width-greatest = refl;
      height-greatest = refl;
      stage-greatest = refl;
      width-narrowed = refl;
      height-narrowed = refl;
      stage-narrowed = refl;
      stage-byte = refl;
      folded = refl;
      sawn = refl;
      stage-alone = refl;
    }

pub shown_order : ShownOrder
unfolding computed bytes job_lines_a large_lines many_lines prices_at shows
shown_order =
    record {
      cut_twice = refl;
      before-nine = refl;
      no_cut = refl;
      eight-first = refl;
      lowest = refl;
      before-total = refl;
      before-prices = refl;
      size-first = refl;
      demands-first = refl;
      limit-first = refl;
      form-first = refl;
      turn-first = refl;
      none-shown = refl;
      no-stage = refl;
      turn_last = refl;
      after-count = refl;
    }
