use mathlib.Core.Path.{◌≡◌, refl, sym, ap, ◌∙◌}
use native.Mathlib.Omega.{arith}
use lib.ListN.{get_or}
use Rattle.job.specs.Verdict.{pass}
use Rattle.job.specs.Job.{job_of}
use Rattle.job.specs.Refused.{row_verdict}
use Rattle.job.proofs.CodeEnds.{given-pass}
use Rattle.listing.specs.Listing.{model_row}
use Rattle.listing_call.specs.ListSays.{says_of as listing_says}
use Rattle.listing_call.proofs.CodeEnding.{zeros, sizes-listed}
use Rattle.plan_test.proofs.CodeListed.{Ready, ready}
use Rattle.fold_call.proofs.Passed.{words-passed, job-passed, listed-cuts}
use Rattle.fold_call.proofs.CodeEnding.{list-refused, row-refused, row-passed}
use Rattle.fold_call.proofs.call.fold_listed.Goals as goal

pub fold_set-requires-clause-cuts_lent : goal.fold_set-requires-clause-cuts_lent
fold_set-requires-clause-cuts_lent c =
    let ws = c.args.job.now in
    let words = words-passed ws c.args.layouts.now c.requires.job_value in
    let job = job-passed ws c.args.layouts.now c.requires.job_value in
    let x = c.list_into in
    let says = sym (ap (listing_says (job_of ws)) c.in-Ok.is) ∙ x.ensures.result_value in
    let size = c.requires.plates_size_in_bounds.1.0 in
    let r : Ready ws x.new.cuts (get_or ws 2 0) (get_or ws 3 0) c.in-Ok.listed.plates.0 c.in-Ok.listed.cuts.0 = ready ws c.args.cuts.now x.new.cuts (get_or ws 2 0) (get_or ws 3 0) _ _ words job refl refl says (sizes-listed (job_of ws) c.in-Ok.is x.ensures.sizes_listed) x.ensures.cuts_after x.auto.cuts size in
    let room = c.requires.plates_size_in_bounds.1.1 in
    (listed-cuts ws words job (given-pass (model_row (job_of ws)) _ says) r, omega (arith, r.lent.few-cuts))

-- the model row refuses
pub returns-in-Err : goal.returns-in-Err
returns-in-Err c =
    let a = c.args in
    let x = c.list_into.ensures in
    list-refused a.job.now a.layouts.now a.plates.now a.cuts.now a.counts.now _ _ _ _ (sym (ap (listing_says (job_of a.job.now)) c.in-Err.is) ∙ x.result_value) x.plates_after x.cuts_after c.clear.ensures

-- the layouts row refuses
pub returns-in-Err-layouts_row : goal.returns-in-Err-layouts_row
returns-in-Err-layouts_row c =
    let a = c.args in
    let x = c.list_into in
    let modelled : model_row (job_of a.job.now) ≡ pass = given-pass (model_row (job_of a.job.now)) _ (sym (ap (listing_says (job_of a.job.now)) c.in-Ok.is) ∙ x.ensures.result_value) in
    row-refused a.job.now a.layouts.now a.plates.now a.cuts.now a.counts.now _ _ _ modelled (sym c.layouts_row.ensures ∙ ap row_verdict c.in-Err-layouts_row.is)
    (c.clear-in-Err-layouts_row.ensures ∙ ap zeros x.auto.plates)
    (c.clear-in-Err-layouts_row-2.ensures ∙ ap zeros x.auto.cuts)
    c.clear-in-Err-layouts_row-3.ensures

-- every row passes
pub returns-in-Ok-layouts_row : goal.returns-in-Ok-layouts_row
returns-in-Ok-layouts_row c =
    let a = c.args in
    let x = c.list_into.ensures in
    let y = c.fold_set.ensures in
    let modelled : model_row (job_of a.job.now) ≡ pass = given-pass (model_row (job_of a.job.now)) _ (sym (ap (listing_says (job_of a.job.now)) c.in-Ok.is) ∙ x.result_value) in
    row-passed a.job.now a.layouts.now a.plates.now a.cuts.now a.counts.now _ _ _ modelled (sym c.layouts_row.ensures ∙ ap row_verdict c.in-Ok-layouts_row.is) y.number_value.0 y.number_value.1 x.plates_after x.cuts_after y.counts_after
