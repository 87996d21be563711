use mathlib.Core.Path.{sym, ap, ◌∙◌}
use Rattle.job.specs.Refused.{row_verdict}
use Rattle.listing_call.proofs.CodeEnding.{before-refuses, before-pass}
use Rattle.plan_test.specs.PlanSays.{says_of}
use Rattle.std.specs.Prelude.{Err}
use Rattle.plan_test.proofs.CodePlanCall.{plan-rows, before-passed, with-exactly}
use Rattle.job.proofs.Parts.{parts2, parts4}
use Rattle.plan_test.proofs.call.test_plan.Goals as goal

-- `test_plan` checks the job and the lent buffers, and then `plan_into` decides.
pub plan_into-requires : goal.plan_into-requires
plan_into-requires c =
    let a = c.args in parts2 (λ the_job_value the_plates_size_in_bounds. record { job_value = the_job_value; plates_size_in_bounds = the_plates_size_in_bounds }) (before-passed a.job.now a.counts.now a.plates.now a.cuts.now (sym c.plan_checks.ensures ∙ ap row_verdict c.in-Ok.is))

pub returns-in-Err : goal.returns-in-Err
returns-in-Err c =
    let a = c.args in parts4 (λ the_result_value the_plates_after the_cuts_after the_variant. record { result_value = the_result_value; plates_after = the_plates_after; cuts_after = the_cuts_after; variant = the_variant }) (with-exactly a.job.now a.counts.now a.plates.now a.cuts.now (says_of (Err c.in-Err.refused))
    (rw (plan-rows a.job.now a.counts.now a.plates.now a.cuts.now) (before-refuses a.job.now a.plates.now a.cuts.now _ _ _ _ _ (sym c.plan_checks.ensures ∙ ap row_verdict c.in-Err.is) c.end.ensures c.end-in-Err.ensures)))

pub returns-in-Ok : goal.returns-in-Ok
returns-in-Ok c =
    let a = c.args in parts4 (λ the_result_value the_plates_after the_cuts_after the_variant. record { result_value = the_result_value; plates_after = the_plates_after; cuts_after = the_cuts_after; variant = the_variant }) (with-exactly a.job.now a.counts.now a.plates.now a.cuts.now (says_of c.plan_into.result)
    (rw (plan-rows a.job.now a.counts.now a.plates.now a.cuts.now) (before-pass a.job.now a.plates.now a.cuts.now _ _ _ (sym c.plan_checks.ensures ∙ ap row_verdict c.in-Ok.is) (c.plan_into.ensures.result_value, (c.plan_into.ensures.plates_after, c.plan_into.ensures.cuts_after)))))
