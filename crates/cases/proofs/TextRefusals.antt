-- The refusals of texts, by computation.
use mathlib.Core.Path.{refl}
use Rattle.cases.specs.Bytes.{bytes}
use Rattle.cases.specs.TextsA.{job_lines_a, plan_lines_a, price_lines_a}
use Rattle.cases.specs.TextRefusals.{TextRefusals}
use Rattle.cases.proofs.Opened.{computed}

pub text_refusals : TextRefusals
unfolding computed bytes job_lines_a plan_lines_a price_lines_a
text_refusals =
    record {
      empty = refl;
      empty-fold = refl;
      blank-line = refl;
      no_end = refl;
      no-end-short = refl;
      too_long = refl;
      leading-zero = refl;
      sign = refl;
      tab = refl;
      blank-after = refl;
      blank-group = refl;
      return = refl;
      one-more-number = refl;
      one-number-less = refl;
      second-job = refl;
      kind-seven = refl;
      kind-eight = refl;
      kind-three = refl;
      missing-type = refl;
      not-a-type = refl;
      type-too-many = refl;
      type-not-next = refl;
      type-outside = refl;
      price-first = refl;
      plate-price-early = refl;
      plan-after-prices = refl;
      second-prices = refl;
      prices-missing = refl;
      price-too-many = refl;
      stages = refl;
      exact = refl;
      plan-item = refl;
      plan-none = refl;
      plan-count = refl;
      plan-plate = refl;
      plan-wide = refl;
      prices-types = refl;
      prices-residuals = refl;
      prices-denominator = refl;
      line-by-line = refl;
      same_line = refl;
      form-before-size = refl;
      size = refl;
      no-plan = refl;
      no-layouts = refl;
      no-such-cut = refl;
      cut_twice = refl;
      cut-lower = refl;
      eight-first = refl;
      total = refl;
      overdrawn = refl;
      other-n = refl;
      other-m = refl;
      cut-over = refl;
      turn = refl;
      stage = refl;
      past = refl;
      position = refl;
      layout-type = refl;
      layout-board = refl;
      layout-x = refl;
    }
