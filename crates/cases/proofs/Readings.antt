-- The wrong readings, shut out by computation.
use mathlib.Core.Path.{refl}
use Rattle.cases.specs.Calls.{plates, cuts, counts, placements, offcuts, listing, plan, prices, unfolding', folding, succeeds, refuses}
use Rattle.cases.specs.Jobs.{job_a, plan_a, plates_a, cuts_a, alone}
use Rattle.cases.specs.Readings.{Readings, job_c, plates_c, cuts_c, job_d, job_n, plates_n, cuts_n, job_e, plates_e, cuts_e, job_f, lines_f, job_g, lines_a-low-first}
use Rattle.cases.proofs.Opened.{computed}

pub readings : Readings
unfolding computed plates cuts counts placements offcuts listing plan prices unfolding' folding succeeds refuses job_a plan_a plates_a cuts_a alone job_c plates_c cuts_c job_d job_n plates_n cuts_n job_e plates_e cuts_e job_f lines_f job_g lines_a-low-first
readings =
    record {
      strip-height = refl;
      strip-height-plan = refl;
      type-by-type = refl;
      type-by-type-spent = refl;
      three-stages = refl;
      three-exact = refl;
      lowest-cut = refl;
      residual-limit = refl;
      both-residuals = refl;
      half-board = refl;
      not-rounded = refl;
      bound-met = refl;
      not-turned = refl;
      by_height = refl;
      by_width = refl;
      equal-keep-order = refl;
      more-than-demanded = refl;
    }
