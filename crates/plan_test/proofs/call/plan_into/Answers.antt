use mathlib.Core.Path.{sym, ap, ◌∙◌}
use native.Mathlib.Omega.{arith}
use Rattle.job.specs.Job.{job_of, job_words}
use Rattle.job.proofs.Verdicts.{then-first}
use Rattle.listing.specs.Listing.{model_row, listing_of}
use Rattle.listing_call.specs.ListSays.{says_of as list_says}
use Rattle.listing_call.proofs.CodeEnding.{listing_results}
use Rattle.plan_test.specs.PlanSays.{says_of}
use Rattle.plan_test.proofs.CodeCall.{zeros, both-passed, second-refused}
use Rattle.plan_test.proofs.CodeListed.{listed-ready}
use Rattle.plan_test.proofs.CodePlanCall.{plan-not5}
use Rattle.plan_test.proofs.call.plan_into.Goals as goal

pub new-requires : goal.new-requires
new-requires c = then-first (job_words c.args.job.now) _ c.requires.job_value

pub invariant_of-listed_job : goal.invariant_of-listed_job
invariant_of-listed_job c =
    let x = c.list_into.ensures in
    let full = c.requires.plates_size_in_bounds.1.0 in
    let listed = listed-ready c.args.job.now _ _ c.requires.job_value c.new.ensures.head in
    let r = listed c.in_ok-listed.was x.sizes_listed x.result_value x.cuts_after c.list_into.auto.cuts full in
    record { lent = rw c.new.ensures.words_same r.lent }

pub plan_rows-requires : goal.plan_rows-requires
plan_rows-requires c =
    let x = c.list_into.ensures in
    let full = c.requires.plates_size_in_bounds.1.0 in
    let listed = listed-ready c.args.job.now _ _ c.requires.job_value c.new.ensures.head in
    let r = listed c.in_ok-listed.was x.sizes_listed x.result_value x.cuts_after c.list_into.auto.cuts full in
    omega (arith, r.lent.few-cuts, c.requires.plates_size_in_bounds)

pub returns-in-Ok : goal.returns-in-Ok
returns-in-Ok c =
    let ws = c.args.job.now in
    let x = c.list_into.ensures in
    let full = c.requires.plates_size_in_bounds.1.0 in
    let listed = listed-ready ws _ _ c.requires.job_value c.new.ensures.head in
    let r = listed c.in_ok-listed.was x.sizes_listed x.result_value x.cuts_after c.list_into.auto.cuts full in
    let done = sym (ap (list_says (job_of ws)) c.in_ok-listed.was) ∙ x.result_value in
    let rows = c.plan_rows.ensures (listing_of (job_of ws)) r.sizes r.types r.listed in
    let says = sym (ap says_of c.in-Ok.is) ∙ (rw c.new.ensures.words_same at rows) in
    let e = both-passed ws _ _ _ _ (model_row (job_of ws)) _ (listing_results ws) _ done says x.plates_after x.cuts_after in
    record { result_value = e.0; plates_after = e.1.0; cuts_after = e.1.1 }

pub returns-in-Err : goal.returns-in-Err
returns-in-Err c =
    let ws = c.args.job.now in
    let x = c.list_into.ensures in
    let full = c.requires.plates_size_in_bounds.1.0 in
    let listed = listed-ready ws _ _ c.requires.job_value c.new.ensures.head in
    let r = listed c.in_ok-listed.was x.sizes_listed x.result_value x.cuts_after c.list_into.auto.cuts full in
    let done = sym (ap (list_says (job_of ws)) c.in_ok-listed.was) ∙ x.result_value in
    let rows = c.plan_rows.ensures (listing_of (job_of ws)) r.sizes r.types r.listed in
    let says = sym (ap says_of c.in-Err.is) ∙ (rw c.new.ensures.words_same at rows) in
    let not5 = plan-not5 (job_of ws) (listing_of (job_of ws)) c.args.counts.now in
    let plates = c.clear.ensures ∙ ap zeros c.list_into.auto.plates in
    let cuts = c.clear-in-Err.ensures ∙ ap zeros c.list_into.auto.cuts in
    let e = second-refused ws _ _ _ _ (model_row (job_of ws)) _ (listing_results ws) _ done says not5 plates cuts in
    record { result_value = e.0; plates_after = e.1.0; cuts_after = e.1.1 }
