use mathlib.Core.Path.{sym, ap, ◌∙◌}
use Rattle.job.specs.Job.{job_of}
use Rattle.listing.specs.Listing.{model_row, listing_of}
use Rattle.listing_call.specs.ListSays.{says_of as list_says}
use Rattle.listing_call.proofs.CodeEnding.{listing_results}
use Rattle.plan.specs.Prices.{prices_of}
use Rattle.plan_test.proofs.CodeCall.{zeros, both-passed, second-refused}
use Rattle.plan_test.proofs.CodeListed.{listed-ready}
use Rattle.price_test.specs.PriceSays.{says_of}
use Rattle.price_test.proofs.CodePriceCall.{words-and-job, prices-not5}
use Rattle.price_test.proofs.call.price_into.Goals as goal

pub invariant_of-listed_job : goal.invariant_of-listed_job
invariant_of-listed_job c =
    let x = c.list_into.ensures in
    let full = c.requires.plates_size_in_bounds.1 in
    let admitted = words-and-job c.args.job.now c.args.prices.now c.requires.job_value in
    let listed = listed-ready c.args.job.now _ _ admitted c.new.ensures.head in
    let r = listed c.in_ok-listed.was x.sizes_listed x.result_value x.cuts_after c.list_into.auto.cuts full in
    record { lent = rw c.new.ensures.words_same r.lent }

pub returns-in-Ok : goal.returns-in-Ok
returns-in-Ok c =
    let ws = c.args.job.now in
    let x = c.list_into.ensures in
    let full = c.requires.plates_size_in_bounds.1 in
    let admitted = words-and-job ws c.args.prices.now c.requires.job_value in
    let listed = listed-ready ws _ _ admitted c.new.ensures.head in
    let r = listed c.in_ok-listed.was x.sizes_listed x.result_value x.cuts_after c.list_into.auto.cuts full in
    let done = sym (ap (list_says (job_of ws)) c.in_ok-listed.was) ∙ x.result_value in
    let rows = c.price_rows.ensures (listing_of (job_of ws)) r.sizes r.types r.listed in
    let says = sym (ap says_of c.in-Ok.is) ∙ (rw c.new.ensures.words_same at rows) in
    let both = both-passed ws _ _ _ _ (model_row (job_of ws)) _ (listing_results ws) _ done says in
    let e = both x.plates_after x.cuts_after in
    record { result_value = e.0; plates_after = e.1.0; cuts_after = e.1.1 }

pub returns-in-Err : goal.returns-in-Err
returns-in-Err c =
    let ws = c.args.job.now in
    let ps = c.args.prices.now in
    let x = c.list_into.ensures in
    let full = c.requires.plates_size_in_bounds.1 in
    let admitted = words-and-job ws ps c.requires.job_value in
    let listed = listed-ready ws _ _ admitted c.new.ensures.head in
    let r = listed c.in_ok-listed.was x.sizes_listed x.result_value x.cuts_after c.list_into.auto.cuts full in
    let done = sym (ap (list_says (job_of ws)) c.in_ok-listed.was) ∙ x.result_value in
    let rows = c.price_rows.ensures (listing_of (job_of ws)) r.sizes r.types r.listed in
    let says = sym (ap says_of c.in-Err.is) ∙ (rw c.new.ensures.words_same at rows) in
    let not5 = prices-not5 (job_of ws) (listing_of (job_of ws)) ps (prices_of (job_of ws) ps) in
    let plates = c.clear.ensures ∙ ap zeros c.list_into.auto.plates in
    let cuts = c.clear-in-Err.ensures ∙ ap zeros c.list_into.auto.cuts in
    let e = second-refused ws _ _ _ _ (model_row (job_of ws)) _ (listing_results ws) _ done says not5 plates cuts in
    record { result_value = e.0; plates_after = e.1.0; cuts_after = e.1.1 }
