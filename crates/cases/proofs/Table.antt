-- The table of cases (a) to (m), by computation.
use mathlib.Core.Path.{refl}
use Rattle.cases.specs.Calls.{plates, cuts, counts, placements, offcuts, listing, plan, prices, unfolding', succeeds, refuses}
use Rattle.cases.specs.Jobs.{job_a, plates_a, cuts_a, plan_a, prices_a, job_a2e, plates_a2e, cuts_a2e, job_b, plates_b, cuts_b, plan_b, lines_b, alone}
use Rattle.cases.specs.Table.{Table}
use Rattle.cases.proofs.Opened.{computed}

pub table : Table
unfolding computed plates cuts counts placements offcuts listing plan prices unfolding' succeeds refuses job_a plates_a cuts_a plan_a prices_a job_a2e plates_a2e cuts_a2e job_b plates_b cuts_b plan_b lines_b alone
table =
    record {
      a = refl;
      b = refl;
      c = refl;
      d = refl;
      e = refl;
      f = refl;
      g = refl;
      h = refl;
      i = refl;
      j = refl;
      k = refl;
      l = refl;
      m = refl;
      m-larger = refl;
    }
