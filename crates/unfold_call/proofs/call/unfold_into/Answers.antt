use mathlib.Core.Path.{sym, ap, ◌∙◌}
use native.Mathlib.Omega.{arith}
use lib.ListN.{length}
use Rattle.std.proofs.lemmas.Result.{err_from_is_err_and}
use Rattle.job.proofs.CodeEnds.{given-pass}
use Rattle.listing.proofs.CodeHolds.{cleared}
use Rattle.listing_call.specs.ListSays.{says_of as listing_says}
use Rattle.listing_call.proofs.CodeEnding.{zeros, listing_results}
use Rattle.plan_test.specs.PlanSays.{says_of as plan_says}
use Rattle.layouts.specs.Demand3.{J, L}
use Rattle.plan_test.proofs.CodeListed.{listed-ready}
use Rattle.unfold_call.proofs.CodeAccepted.{job-words, listed-given, listed-passes, listed-lent}
use Rattle.unfold_call.proofs.CodeEnding.{planned, list-refused, plan-refused, accepted}
use Rattle.unfold_call.proofs.call.unfold_into.Goals as goal

-- the model row refuses
pub returns-in_err-listed : goal.returns-in_err-listed
returns-in_err-listed c =
    let a = c.args in
    let ws = a.job.now in
    let x = c.list_into in
    let p = err_from_is_err_and c.from_residual.result c.from_residual.ensures.1 in
    let says = sym (ap (listing_says (J ws)) c.in_err-listed.was) ∙ x.ensures.result_value in
    let first = a.lengths.first in
    let second = a.lengths.second in
    let ns = a.counts.now in
    let os = a.offcuts.now in
    let rs = listing_results ws in
    let ends = list-refused ws first second ns a.plates.now a.cuts.now a.placements.now os _ _ _ _ rs says in
    rw (p.1, p.2) (ends x.ensures.plates_after x.ensures.cuts_after c.clear.ensures c.clear-2.ensures)

pub new-requires : goal.new-requires
new-requires c = job-words c.args.job.now c.requires.job_value

pub invariant_of-listed_job : goal.invariant_of-listed_job
invariant_of-listed_job c =
    let x = c.list_into.ensures in
    let full = c.requires.plates_size_in_bounds.1.0 in
    let listed = listed-ready c.args.job.now _ _ c.requires.job_value c.new.ensures.head in
    let r = listed c.in_ok-listed.was x.sizes_listed x.result_value x.cuts_after c.list_into.auto.cuts full in
    record { lent = rw c.new.ensures.words_same r.lent }

pub plan_rows-requires : goal.plan_rows-requires
plan_rows-requires c =
    let x = c.list_into.ensures in
    let size = c.requires.plates_size_in_bounds in
    let listed = listed-ready c.args.job.now _ _ c.requires.job_value c.new.ensures.head in
    let r = listed c.in_ok-listed.was x.sizes_listed x.result_value x.cuts_after c.list_into.auto.cuts size.1.0 in
    omega (arith, r.lent.few-cuts, size.1.1.0)

pub returns-in-Err : goal.returns-in-Err
returns-in-Err c =
    let a = c.args in
    let ws = a.job.now in
    let x = c.list_into in
    let e = x.ensures in
    let full = c.requires.plates_size_in_bounds.1.0 in
    let listed = listed-ready ws _ _ c.requires.job_value c.new.ensures.head in
    let r = listed c.in_ok-listed.was e.sizes_listed e.result_value e.cuts_after x.auto.cuts full in
    let rows = c.plan_rows.ensures (L ws) r.sizes r.types r.listed in
    let says = sym (ap plan_says c.in-Err.is) ∙ (rw c.new.ensures.words_same at rows) in
    let passes = listed-passes ws c.requires.job_value c.in_ok-listed.was e.result_value in
    let plates = c.clear-in-Err.ensures ∙ ap zeros x.auto.plates in
    let cuts = c.clear-in-Err-2.ensures ∙ ap zeros x.auto.cuts in
    let first = a.lengths.first in
    let second = a.lengths.second in
    let ns = a.counts.now in
    let os = a.offcuts.now in
    let refused = plan-refused ws first second ns a.plates.now a.cuts.now a.placements.now os _ _ _ _ passes _ says in
    refused plates cuts c.clear.ensures c.clear-2.ensures

pub unfold_plan-requires : goal.unfold_plan-requires
unfold_plan-requires c =
    let a = c.args in
    let ws = a.job.now in
    let x = c.list_into in
    let e = x.ensures in
    let size = c.requires.plates_size_in_bounds in
    let listed = listed-ready ws _ _ c.requires.job_value c.new.ensures.head in
    let r = listed c.in_ok-listed.was e.sizes_listed e.result_value e.cuts_after x.auto.cuts size.1.0 in
    let rows = c.plan_rows.ensures (L ws) r.sizes r.types r.listed in
    let says = sym (ap plan_says c.in-Ok.is) ∙ (rw c.new.ensures.words_same at rows) in
    let given = listed-given ws c.requires.job_value c.in_ok-listed.was e.result_value in
    let lent = listed-lent ws c.requires.job_value a.plates.now a.cuts.now _ _ _ _ given in
    record {
      model_lent = lent e.plates_after e.cuts_after x.auto.plates x.auto.cuts;
      counts_size_in_bounds = (size.1.1.0, given-pass (planned ws a.counts.now) _ says);
      holds = (
        cleared (length a.placements.now) c.clear.ensures,
        (omega (arith, c.clear.auto.buffer, size.1.1.1.0), cleared (length a.offcuts.now) c.clear-2.ensures),
      );
    }

pub returns-in-Ok : goal.returns-in-Ok
returns-in-Ok c =
    let a = c.args in
    let ws = a.job.now in
    let x = c.list_into in
    let e = x.ensures in
    let y = c.unfold_plan in
    let size = c.requires.plates_size_in_bounds in
    let listed = listed-ready ws _ _ c.requires.job_value c.new.ensures.head in
    let r = listed c.in_ok-listed.was e.sizes_listed e.result_value e.cuts_after x.auto.cuts size.1.0 in
    let rows = c.plan_rows.ensures (L ws) r.sizes r.types r.listed in
    let says = sym (ap plan_says c.in-Ok.is) ∙ (rw c.new.ensures.words_same at rows) in
    let passes = listed-passes ws c.requires.job_value c.in_ok-listed.was e.result_value in
    let plan = given-pass (planned ws a.counts.now) _ says in
    let placements = y.auto.placements ∙ c.clear.auto.buffer in
    let list = y.ensures.holds_3 (omega (arith, c.clear-2.auto.buffer, size.1.1.1.1)) in
    let offcuts = y.auto.offcuts ∙ c.clear-2.auto.buffer in
    let first = a.lengths.first in
    let second = a.lengths.second in
    let ns = a.counts.now in
    let os = a.offcuts.now in
    let ends = accepted ws first second ns a.plates.now a.cuts.now a.placements.now os _ _ _ _ passes plan in
    ends y.ensures.result_value e.plates_after e.cuts_after y.ensures.holds_2 placements list offcuts
