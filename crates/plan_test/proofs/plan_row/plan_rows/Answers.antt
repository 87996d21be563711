use Rattle.std.proofs.lemmas.Result.{err_from_is_err_and}
use mathlib.Core.Path.{◌≡◌}
use lib.ListN.{length}
use Rattle.job.specs.Job.{job_of}
use Rattle.listing.proofs.CodeCuts.{length-cuts_from}
use Rattle.plan_test.proofs.CodePlan.{past-refused, total-refused, total-passed}
use Rattle.plan_test.proofs.plan_row.plan_rows.Goals as goal

-- `plan_rows` takes 8 and 10 first, and then what `balance` says.
pub returns-in_err-past_cuts : goal.returns-in_err-past_cuts
returns-in_err-past_cuts c l z p e =
    let k = c.args.listed.now.last.0 in
    let cuts : length l.cuts ≡ k = rw (e, length-cuts_from) in
    let f = err_from_is_err_and c.from_residual.result c.from_residual.ensures.1 in
    rw (f.1, f.2) (past-refused (job_of c.args.listed.now.job.words.now) l k c.args.counts.now cuts _ c.past_cuts.ensures c.in_err-past_cuts.was)

pub returns-then-total : goal.returns-then-total
returns-then-total c l z p e =
    let k = c.args.listed.now.last.0 in
    let cuts : length l.cuts ≡ k = rw (e, length-cuts_from) in
    rw c.at.ensures (total-refused (job_of c.args.listed.now.job.words.now) l k c.args.counts.now cuts _ c.past_cuts.ensures c.in_ok-past_cuts.was (rw (← c.total.ensures) c.if-total.true))

pub returns : goal.returns
returns c l z p e =
    let k = c.args.listed.now.last.0 in
    let cuts : length l.cuts ≡ k = rw (e, length-cuts_from) in
    total-passed (job_of c.args.listed.now.job.words.now) l k c.args.counts.now cuts _ c.past_cuts.ensures c.in_ok-past_cuts.was (rw (← c.total.ensures) c.if-total.false) (c.balance.ensures l z p e)
