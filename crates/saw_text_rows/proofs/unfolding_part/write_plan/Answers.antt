use native.Mathlib.Omega.{arith}
use mathlib.Core.Path.{refl}
use Rattle.listing.proofs.CodeHolds.{cleared}
use Rattle.saw_text_rows.proofs.UnfoldPart.{pieces-fit, plan-written}
use Rattle.saw_text_rows.proofs.unfolding_part.write_plan.Goals as goal

-- `write_plan` unfolds the plan, and writes its placements and its result.
pub unfold_plan-ran-requires : goal.unfold_plan-ran-requires
unfold_plan-ran-requires c =
    record {
      model_lent = c.requires.model_lent;
      counts_size_in_bounds = c.requires.counts_size_in_bounds;
      holds = (c.requires.holds.0, (c.requires.holds.1.0, cleared 1 refl));
    }

pub write_unfolding-requires : goal.write_unfolding-requires
write_unfolding-requires c =
    let a = c.args in
    let p = pieces-fit a.job.now a.plates.now a.cuts.now a.counts.now a.k.0 c.requires.model_lent c.requires.counts_size_in_bounds.1 _ _ _ c.unfold_plan-ran.ensures.result_value in
    let kept = c.unfold_plan-ran.auto.placements in
    let placed = c.requires.holds.1.0 in
    let room = c.requires.holds.1.1 in
    (omega (arith, p, room), omega (arith, p, kept, placed))

pub returns : goal.returns
returns c =
    let a = c.args in
    let held = c.unfold_plan-ran.ensures.holds_2 in
    record {
      wrote = plan-written a.job.now a.plates.now a.cuts.now a.counts.now a.k.0 c.requires.model_lent c.requires.counts_size_in_bounds.1 _ _ _ c.unfold_plan-ran.ensures.result_value a.cost a.sum a.d held c.write_unfolding.ensures;
      holds_2 = held;
    }
