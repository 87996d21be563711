use Rattle.std.proofs.lemmas.Result.{err_from_is_err_and}
use Prim.Native.Nat.{◌+◌, ◌≤◌}
use native.Mathlib.Omega.{arith}
use lib.ListN.{length}
use Rattle.job.specs.Sizes.{max_types, max_plates}
use Rattle.job.specs.Job.{job_of}
use Rattle.listing.specs.CutRead.{cuts_read}
use Rattle.listing.proofs.CodeCuts.{length-cuts_from}
use Rattle.listing.proofs.CodeLent.{lent-sizes, lent-items}
use Rattle.plan_test.specs.Sums.{Sums}
use Rattle.plan_test.proofs.CodePlan.{sums_none, zeros-room, sums-small, short-refused, overdrawn-refused, balance-accepted}
use Rattle.plan_test.proofs.plan_row.balance.Goals as goal

-- `balance` adds up the counts, and then compares the sums with the demands and with each other.
pub sum_counts-requires-clause-sums : goal.sum_counts-requires-clause-sums
sum_counts-requires-clause-sums c = sums_none c.args.counts.now (max_types + 1) max_plates max_plates

pub boards_opened-opening-requires-clause-by_index : goal.boards_opened-opening-requires-clause-by_index
boards_opened-opening-requires-clause-by_index c =
    let lent = c.args.listed.now.lent in
    let call = c.sum_counts in
    let room = zeros-room call.auto.items call.auto.on call.auto.left in
    let few : c.args.listed.now.job.head.sizes.0 ≤ max_plates = omega (arith, lent.few-sizes) in
    let cuts = cuts_read c.args.listed.now.last.0 c.args.listed.now.cuts.now in
    let small = sums-small cuts c.args.counts.now call.new.on c.args.listed.now.last.0 call.ensures.by-plate in
    λ j h. small (rw length-cuts_from (omega arith)) c.requires.k_in_bounds.1 j (omega (arith, few, room.for-plates))

pub returns-in_err-types_short : goal.returns-in_err-types_short
returns-in_err-types_short c l z p e =
    let job = job_of c.args.listed.now.job.words.now in
    let ns = c.args.counts.now in
    let call = c.sum_counts in
    let sums : Sums l.cuts ns call.new.items call.new.on call.new.left = rw e call.ensures in
    let room = zeros-room call.auto.items call.auto.on call.auto.left in
    let few : length job.items ≤ max_types = rw (lent-items c.args.listed.now.lent) c.args.listed.now.lent.few-items in
    let plates : length l.plates ≤ max_plates = rw p c.args.listed.now.lent.few-plates in
    let f = err_from_is_err_and c.from_residual.result c.from_residual.ensures.1 in
    rw (f.1, f.2) (short-refused job l ns _ _ _ sums room few plates c.types_short.ensures c.in_err-types_short.was)

pub returns-in_err-types_overdrawn : goal.returns-in_err-types_overdrawn
returns-in_err-types_overdrawn c l z p e =
    let job = job_of c.args.listed.now.job.words.now in
    let ns = c.args.counts.now in
    let call = c.sum_counts in
    let sums : Sums l.cuts ns call.new.items call.new.on call.new.left = rw e call.ensures in
    let room = zeros-room call.auto.items call.auto.on call.auto.left in
    let few : length job.items ≤ max_types = rw (lent-items c.args.listed.now.lent) c.args.listed.now.lent.few-items in
    let plates : length l.plates ≤ max_plates = rw p c.args.listed.now.lent.few-plates in
    let f = err_from_is_err_and c.from_residual-in_err-types_overdrawn.result c.from_residual-in_err-types_overdrawn.ensures.1 in
    rw (f.1, f.2) (overdrawn-refused job l ns _ _ _ sums room few plates c.types_short.ensures c.in_ok-types_short.was (rw z (c.types_overdrawn.ensures l.plates p)) c.in_err-types_overdrawn.was)

pub returns : goal.returns
returns c l z p e =
    let job = job_of c.args.listed.now.job.words.now in
    let ns = c.args.counts.now in
    let call = c.sum_counts in
    let sums : Sums l.cuts ns call.new.items call.new.on call.new.left = rw e call.ensures in
    let room = zeros-room call.auto.items call.auto.on call.auto.left in
    let few : length job.items ≤ max_types = rw (lent-items c.args.listed.now.lent) c.args.listed.now.lent.few-items in
    let plates : length l.plates ≤ max_plates = rw p c.args.listed.now.lent.few-plates in
    let said = balance-accepted job l ns _ _ _ sums room few plates c.types_short.ensures c.in_ok-types_short.was in
    let lent = c.args.listed.now.lent in
    let opened = c.boards_opened-opening.ensures in
    said (rw z (c.types_overdrawn.ensures l.plates p)) c.in_ok-types_overdrawn.was _ _ _
    (omega (arith, lent.few-sizes, room.for-plates)) z (lent-sizes lent) opened.boards_value opened.cost_value
