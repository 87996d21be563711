use mathlib.Core.Path.{sym, ap, ◌∙◌}
use Rattle.std.specs.Prelude.{Err}
use Rattle.job.specs.Refused.{row_verdict}
use Rattle.listing_call.proofs.CodeEnding.{before-refuses, before-pass}
use Rattle.price_test.proofs.CodePriceCall.{price-rows, before-passed}
use Rattle.price_test.proofs.CodeBound.{with_bound}
use Rattle.job.proofs.Parts.{parts5}
use Rattle.price_test.proofs.call.test_prices.Goals as goal

-- `test_prices` checks the words, the job and the lent buffers, and then `price_into` decides.
pub price_into-requires : goal.price_into-requires
price_into-requires c =
    let a = c.args in
    let passed = sym c.price_checks.ensures ∙ ap row_verdict c.in-Ok.is in
    let r = before-passed a.job.now a.prices.now a.plates.now a.cuts.now passed in
    record { job_value = r.0; plates_size_in_bounds = r.1 }

pub returns-in-Err : goal.returns-in-Err
returns-in-Err c =
    let a = c.args in
    let refused = sym c.price_checks.ensures ∙ ap row_verdict c.in-Err.is in
    let ends = before-refuses a.job.now a.plates.now a.cuts.now _ _ _ _ _ refused c.end.ensures c.end-in-Err.ensures in
    let rows = price-rows a.job.now a.prices.now a.plates.now a.cuts.now in
    let r = with_bound a.job.now a.prices.now a.plates.now a.cuts.now (Err c.in-Err.refused) (rw rows ends) in
    parts5
    (λ value plates cuts right accepted.
    record { result_value = value; plates_after = plates; cuts_after = cuts; variant = right; on_accepted = accepted })
    r

pub returns-in-Ok : goal.returns-in-Ok
returns-in-Ok c =
    let a = c.args in
    let x = c.price_into.ensures in
    let passed = sym c.price_checks.ensures ∙ ap row_verdict c.in-Ok.is in
    let rows = price-rows a.job.now a.prices.now a.plates.now a.cuts.now in
    let pass = before-pass a.job.now a.plates.now a.cuts.now _ _ _ passed in
    let ends = pass (x.result_value, (x.plates_after, x.cuts_after)) in
    let r = with_bound a.job.now a.prices.now a.plates.now a.cuts.now c.price_into.result (rw rows ends) in
    parts5
    (λ value plates cuts right accepted.
    record { result_value = value; plates_after = plates; cuts_after = cuts; variant = right; on_accepted = accepted })
    r
