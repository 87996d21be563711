use native.Mathlib.Omega.{arith}
use borrow.Author.Rules.{rules}
use Rattle.job.specs.Job.{job_of}
use Rattle.layouts_row.proofs.CodeRows.{passed-whole, passed-lent, too_many, by_rows}
use Rattle.layouts_row.proofs.rows.layouts_row.Goals as goal

-- `layouts_row` counts the lines first, and then makes three checks, one after the other.
pub returns-then-number : goal.returns-then-number
returns-then-number c = rw c.at.ensures (too_many c.args.k (job_of c.args.job.now) c.args.layouts.now c.requires.job_value.1 c.if-number.true)

pub turns_row-requires : goal.turns_row-requires
turns_row-requires c = (passed-whole (job_of c.args.job.now) c.args.layouts.now c.requires.job_value.1, omega (arith, c.requires.k_bound, c.if-number.false))

pub invariant_of-lines : goal.invariant_of-lines
invariant_of-lines c = record { lent = passed-lent c.args.job.now c.args.layouts.now c.requires.job_value.0 c.requires.job_value.1 c.if-number.false }

pub strip_rows-requires : goal.strip_rows-requires
strip_rows-requires c = omega (arith, c.requires.k_bound, c.if-number.false)

pub lacking_row-requires : goal.lacking_row-requires
lacking_row-requires c = record { job_value = c.requires.job_value; layouts_len = (passed-whole (job_of c.args.job.now) c.args.layouts.now c.requires.job_value.1, c.if-number.false) }

pub returns-in_err-turns_row : goal.returns-in_err-turns_row
returns-in_err-turns_row c = by_rows c.args.k (job_of c.args.job.now) c.args.layouts.now c.requires.job_value.1 c.if-number.false (search rules)

pub returns-in_err-strip_rows : goal.returns-in_err-strip_rows
returns-in_err-strip_rows c = by_rows c.args.k (job_of c.args.job.now) c.args.layouts.now c.requires.job_value.1 c.if-number.false (search rules)

pub returns : goal.returns
returns c = by_rows c.args.k (job_of c.args.job.now) c.args.layouts.now c.requires.job_value.1 c.if-number.false (search rules)
