-- Texts with several faults, by computation.
use mathlib.Core.Path.{refl}
use Rattle.cases.specs.Bytes.{bytes}
use Rattle.cases.specs.TextsA.{job_lines_a, plan_lines_a, printed_a}
use Rattle.cases.specs.TextFaults.{TextFaults, large_lines, many_lines, prices_at, prices_one_six}
use Rattle.cases.proofs.Opened.{computed}

pub text_faults : TextFaults
unfolding computed bytes job_lines_a plan_lines_a printed_a large_lines many_lines prices_at prices_one_six
text_faults =
    record {
      size-before-cut = refl;
      size-before-turn = refl;
      demands-before-cut = refl;
      demands-before-turn = refl;
      rising-before-total = refl;
      lowest-no-cut = refl;
      lowest-not-rising = refl;
      plan-before-prices = refl;
      types-and-residuals = refl;
      not-cheapest = refl;
      not-cheapest-equal = refl;
    }
