-- Offcuts, the two lengths and the area balance, by computation; the most offcuts by their number, which demand 3 gives.
use Prim.Native.Nat.{ℕ}
use native.Mathlib.Omega.{arith}
use mathlib.Core.Path.{◌≡◌, refl}
use mathlib.Core.List.{List}
use lib.ListN.{length}
use Rattle.job.specs.Sizes.{max_pieces, max_offcuts}
use Rattle.plan.specs.Plan.{count_of, boards, total}
use Rattle.layouts.specs.Offcuts.{offcuts_of}
use Rattle.layouts.specs.Balance.{keeps_top, keeps_right}
use Rattle.layouts.specs.Demand3.{J, L, Listed, Accepted}
use Rattle.layouts.proofs.demand.Demand3.{demand3}
use Rattle.cases.specs.Calls.{plates, cuts, placements, offcuts}
use Rattle.cases.specs.Jobs.{job_a, plan_a, job_b, plan_b, job_t, alone}
use Rattle.cases.specs.Readings.{job_c}
use Rattle.cases.specs.Turned.{plan_t}
use Rattle.cases.specs.Offcuts.{Shelved, Lengths, Balances, left_over, shelves, shelves_none, short_offcuts, offcuts_a, no_demand, wide_item, each_stage, narrow_above, narrow_plan, ones, apart, areas}
use Rattle.cases.proofs.Opened.{computed}

-- 4,000 boards of one piece each: the plan is accepted, and each of its cuts keeps both residuals
abbrev most : List ℕ
most = ones max_pieces

listed-most : Listed most
unfolding computed ones
listed-most = refl

accepted-most : Accepted (J most) (L most) (apart max_pieces)
unfolding computed ones apart
accepted-most = record { counted = omega arith; passed = refl }

sums-most :
    (boards (L most) (apart max_pieces) ≡ max_pieces)
    × (total (apart max_pieces) ≡ max_pieces)
    × (count_of keeps_top (L most).cuts (apart max_pieces) ≡ max_pieces)
    × (count_of keeps_right (L most).cuts (apart max_pieces) ≡ max_pieces)
unfolding computed ones apart
sums-most = (refl, refl, refl, refl)

reached : length (offcuts_of (J most) (L most) (apart max_pieces)) ≡ max_offcuts
unfolding offcuts_of
reached = omega (arith, ((demand3.every-listed most listed-most).unfolds (apart max_pieces) accepted-most).unfolds-to.balance.offcuts-number, sums-most)

pub shelved : Shelved
unfolding computed plates cuts placements offcuts left_over shelves job_a plan_a job_b plan_b job_c job_t plan_t offcuts_a each_stage narrow_above narrow_plan ones apart
shelved =
    record {
      listed = refl;
      highest-first = refl;
      plate-height = refl;
      plate-width = refl;
      reaches = refl;
      width-short = refl;
      height-short = refl;
      first-is-width = refl;
      not-swapped = refl;
      not-turned = refl;
      none = refl;
      most = refl;
      reached = reached;
    }

pub lengths : Lengths
unfolding computed plates cuts placements offcuts left_over shelves shelves_none job_a plan_a alone short_offcuts offcuts_a no_demand wide_item
lengths =
    record {
      least = refl;
      greatest = refl;
      first-none = refl;
      second_none = refl;
      first_past = refl;
      second_past = refl;
      job-first = refl;
      job-length-first = refl;
      before-job-row = refl;
      before-buffers = refl;
      unchanged = refl;
      cleared = refl;
    }

pub balances : Balances
unfolding computed areas job_a plan_a job_c job_t plan_t narrow_above narrow_plan
balances =
    record {
      first-board = refl;
      second-board = refl;
      above_low = refl;
      beside-narrow = refl;
      turned = refl;
    }
