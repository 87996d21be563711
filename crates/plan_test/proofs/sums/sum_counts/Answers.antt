use mathlib.Core.Path.{◌∙◌}
use Rattle.listing.specs.CutRead.{cut_in}
use Rattle.listing.proofs.CodeCuts.{cut-behind}
use Rattle.plan_test.specs.Sums.{SumRoom}
use Rattle.plan_test.proofs.CodePass.{sum_room, turn-fits, turn-sums, turns-end}
use Rattle.plan_test.proofs.sums.sum_counts.Goals as goal

pub add_cut-requires : goal.add_cut-requires
add_cut-requires c =
    let l = c.loop-c in
    let r = c.requires in
    let read = c.cut_at-cut.ensures ∙ cut-behind c.args.cuts.now l.c in
    let room : SumRoom l.items l.on l.left = sum_room r.sum_room l.auto.items l.auto.on l.auto.left in
    let turn = turn-fits _ _ _ _ _ _ l.c c.loop-c-test.true r.k_in_bounds_2.0 l.invariant in
    let fits = turn r.k_in_bounds_2.1 r.k_in_bounds.1 room (cut_in c.cut_at-cut.result) read in
    record { fit = fits.0; fit_2 = fits.1.0; fit_3 = fits.1.1 }

pub loop-c-preserved : goal.loop-c-preserved
loop-c-preserved c =
    let l = c.loop-c in
    let read = c.cut_at-cut.ensures ∙ cut-behind c.args.cuts.now l.c in
    let counts = c.requires.k_in_bounds_2.0 in
    turn-sums _ _ _ _ _ _ l.c c.loop-c-test.true counts l.invariant (cut_in c.cut_at-cut.result) read c.add_cut.ensures

pub returns : goal.returns
returns c =
    let l = c.loop-c in
    turns-end _ _ _ _ _ _ l.c l.auto.c-end c.loop-c-test.false l.invariant
