-- Job A's output and its fold, by computation.
use mathlib.Core.Path.{refl}
use Rattle.cases.specs.Bytes.{bytes}
use Rattle.cases.specs.Calls.{plates, cuts, counts, placements, offcuts, unfolding', folding, succeeds}
use Rattle.cases.specs.Jobs.{job_a, plates_a, cuts_a, plan_a, lines_a}
use Rattle.cases.specs.TextsA.{job_lines_a, plan_lines_a, price_lines_a, printed_a, result_a, result_plain}
use Rattle.cases.specs.Output.{Output}
use Rattle.cases.proofs.Opened.{computed}

pub output : Output
unfolding computed bytes plates cuts counts placements offcuts unfolding' folding succeeds job_a plates_a cuts_a plan_a lines_a job_lines_a plan_lines_a price_lines_a printed_a result_a result_plain
output =
    record {
      printed = refl;
      without-prices = refl;
      folded_back = refl;
      unfolded = refl;
      folded = refl;
      rules = refl;
      demands = refl;
      positions = refl;
      inside-board = refl;
      items_apart = refl;
    }
