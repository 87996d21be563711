-- Turned items, by computation.
use mathlib.Core.Path.{refl}
use Rattle.cases.specs.Calls.{plates, cuts, counts, placements, offcuts, listing, plan, prices, unfolding', folding, succeeds, refuses}
use Rattle.cases.specs.Jobs.{job_a, job_t}
use Rattle.cases.specs.Turned.{TurnedCuts, TurnedPlans, TurnedLayouts, TurnedRules, tall, square_job, small, line_one, plates_t, cuts_t, plan_t, three_squares, lines_t, lines_t-low-first, exact_height, exact_width, both_turns, same_sides}
use Rattle.cases.proofs.Opened.{computed}

pub turned_cuts : TurnedCuts
unfolding computed plates cuts listing succeeds refuses job_t tall plates_t cuts_t exact_height exact_width same_sides
turned_cuts =
    record {
      only-turned = refl;
      no-leave = refl;
      leave-limit = refl;
      with_leave = refl;
      height-turned = refl;
      width-turned = refl;
      two-types = refl;
    }

pub turned_plans : TurnedPlans
unfolding computed plates cuts placements offcuts plan prices unfolding' succeeds refuses job_t tall plates_t cuts_t plan_t three_squares lines_t
turned_plans =
    record {
      both-turns = refl;
      lies-turned = refl;
      turned-price = refl;
      one-price = refl;
    }

pub turned_layouts : TurnedLayouts
unfolding computed plates cuts counts folding succeeds refuses job_t tall square_job small line_one plates_t cuts_t plan_t three_squares lines_t lines_t-low-first both_turns
turned_layouts =
    record {
      folded_back = refl;
      by-turned-height = refl;
      both-in-stack = refl;
      square = refl;
      without-leave = refl;
      limits-first = refl;
      turn-limit = refl;
      laid-unturned = refl;
      laid-turned = refl;
    }

pub turned_rules : TurnedRules
unfolding computed job_a job_t
turned_rules =
    record {
      with_leave = refl;
      without-leave = refl;
      square = refl;
      turned-inside = refl;
      turned-past = refl;
    }
