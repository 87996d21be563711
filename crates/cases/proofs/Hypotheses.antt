-- What demand 3 speaks of, at job A, by computation.
use mathlib.Core.Path.{refl}
use native.Mathlib.Omega.{arith}
use Rattle.cases.specs.Jobs.{job_a, plan_a, prices_a, lines_a}
use Rattle.cases.specs.Hypotheses.{Hypotheses}
use Rattle.cases.proofs.Opened.{computed}

pub hypotheses : Hypotheses
unfolding computed job_a plan_a prices_a lines_a
hypotheses =
    record {
      listed = refl;
      accepted = record { counted = omega arith; passed = refl };
      named = record { rules = refl; demands = refl; pieces = omega arith };
      priced = refl;
    }
