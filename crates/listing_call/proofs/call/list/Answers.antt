use mathlib.Core.Path.{sym, ap, ◌∙◌}
use Rattle.job.specs.Refused.{row_verdict}
use Rattle.listing.specs.ListCall.{list_answer}
use Rattle.listing_call.proofs.CodeEnding.{before-refuses, before-pass, list-rows, before-admitted, before-passed, listed-is, rows_before, listing_results}
use Rattle.job.specs.Job.{job_of}
use Rattle.listing.specs.Listing.{model_row}
use Rattle.listing_call.proofs.call.list.Goals as goal

-- `list` checks the job and the lent buffers, and then lists.
pub list_into-requires : goal.list_into-requires
list_into-requires c =
    let a = c.args in
    let passed = sym c.list_checks.ensures ∙ ap row_verdict c.in-Ok.is in
    let e = before-passed a.job.now a.plates.now a.cuts.now passed in
    record { job_value = e.0; plates_size_in_bounds = e.1 }

pub returns-in-Err : goal.returns-in-Err
unfolding list_answer
returns-in-Err c =
    let a = c.args in
    let before = rows_before a.job.now a.plates.now a.cuts.now in
    let refuses = sym c.list_checks.ensures ∙ ap row_verdict c.in-Err.is in
    let e = rw (← list-rows a.job.now a.plates.now a.cuts.now) at
    (before-refuses a.job.now a.plates.now a.cuts.now before (model_row (job_of a.job.now)) (listing_results a.job.now) _ _
    refuses c.end.ensures c.end-in-Err.ensures) in
    record { sizes_listed = tt; on_listed = tt; result_value = e.0; plates_after = e.1.0; cuts_after = e.1.1 }

pub returns-in-Ok : goal.returns-in-Ok
unfolding list_answer
returns-in-Ok c =
    let a = c.args in
    let l = c.list_into.ensures in
    let passed = sym c.list_checks.ensures ∙ ap row_verdict c.in-Ok.is in
    let e = rw (← list-rows a.job.now a.plates.now a.cuts.now) at
    (before-pass a.job.now a.plates.now a.cuts.now _ _ _ passed (l.result_value, (l.plates_after, l.cuts_after))) in
    record {
      sizes_listed = l.sizes_listed;
      on_listed = listed-is a.job.now c.list_into.result (before-admitted a.job.now a.plates.now a.cuts.now passed) l.result_value;
      result_value = e.0;
      plates_after = e.1.0;
      cuts_after = e.1.1;
    }
