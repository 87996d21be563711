use Rattle.job.specs.Job.{job_of}
use Rattle.listing_positions.specs.Table.{TableTo}
use Rattle.listing_positions.proofs.table.learn.Given as goal

-- `learn` writes the positions in rising number.
abbrev pub invariant-loop-q : goal.invariant-loop-q
invariant-loop-q l = TableTo (job_of l.job.words.now) l.q l.table
