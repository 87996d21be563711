use native.Mathlib.Omega.{arith}
use Rattle.job.specs.Job.{job_of}
use Rattle.listing_positions.proofs.Tables.{past-last, table-start, table-all}
use Rattle.listing_positions.proofs.table.learn.Goals as goal

pub loop-q-init : goal.loop-q-init
loop-q-init c = table-start (job_of c.args.job.now.words.now) c.args.table.now

pub returns : goal.returns
returns c =
    let l = c.loop-q in
    table-all (job_of c.args.job.now.words.now) l.q (past-last _ c.args.job.now.read (omega (arith, c.loop-q-test.false))) l.invariant
