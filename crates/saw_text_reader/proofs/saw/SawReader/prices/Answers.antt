use mathlib.Core.Path.{sym}
use borrow.Author.Tests.{not-false}
use Rattle.saw_text_reader.specs.PriceRun.{InPrices}
use Rattle.saw_text_reader.proofs.PriceSteps.{read-prices}
use Rattle.saw_text_reader.proofs.saw.SawReader.prices.Goals as goal

pub price_run-run-requires : goal.price_run-run-requires
price_run-run-requires c =
    let tested : InPrices c.args.self c.head_of.result.sizes c.in-PlatePrices.j = c.goes_on.ensures (not-false _ c.if-not-goes_on.false-raw) in record { from_in_bounds = (c.requires.from_in_bounds.0, c.requires.from_in_bounds.1.few); plate_within = (tested.plate, c.requires.longest_job_in_bounds.1) }

pub returns : goal.returns
returns c plates cuts counts =
    let tested : InPrices c.args.self c.head_of.result.sizes c.in-PlatePrices.j = c.goes_on.ensures (not-false _ c.if-not-goes_on.false-raw) in
    let a = c.args in
    let run = c.price_run-run in
    rw c.in_prices.ensures (read-prices a.part.now a.from a.self a.job.now a.prices.now _ _ run.result _ c.in-PlatePrices.is tested (sym c.head_of.ensures.of-sizes) run.ensures plates cuts counts)
