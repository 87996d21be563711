use mathlib.Core.Path.{sym, ◌∙◌}
use native.Mathlib.Omega.{arith}
use borrow.Author.Tests.{not-true, not-false}
use Rattle.job.proofs.CodeAdmission.{other_length, head-wrong, size-wrong, by-types, head_few}
use Rattle.job.proofs.admit.job_words.Goals as goal

-- `job_words` checks the length, the words of the head, those of the sizes, and then the item types.
pub returns-then-job-lt-HEAD_WORDS : goal.returns-then-job-lt-HEAD_WORDS
returns-then-job-lt-HEAD_WORDS c = rw c.at.ensures (other_length c.args.job.now (λ e. omega (arith, c.if-job-lt-HEAD_WORDS.true)))

pub returns-then-job-words : goal.returns-then-job-words
returns-then-job-words c = rw c.at-then-job-words.ensures (other_length c.args.job.now c.if-job-words.true)

pub returns-then-not-head_right : goal.returns-then-not-head_right
returns-then-not-head_right c = rw c.at-then-not-head_right.ensures (head-wrong c.args.job.now c.if-job-words.false (sym c.head_right.ensures ∙ not-true _ c.if-not-head_right.true-raw))

pub returns-then-not-sizes_right : goal.returns-then-not-sizes_right
returns-then-not-sizes_right c = rw c.at-then-not-sizes_right.ensures (size-wrong c.args.job.now c.if-job-words.false (sym c.head_right.ensures ∙ not-false _ c.if-not-head_right.false-raw) (sym c.sizes_right.ensures ∙ not-true _ c.if-not-sizes_right.true-raw))

pub types_right-requires : goal.types_right-requires
types_right-requires c = (c.if-job-words.false, head_few _ (sym c.head_right.ensures ∙ not-false _ c.if-not-head_right.false-raw))

pub returns : goal.returns
returns c = by-types c.args.job.now c.if-job-words.false (sym c.head_right.ensures ∙ not-false _ c.if-not-head_right.false-raw) (sym c.sizes_right.ensures ∙ not-false _ c.if-not-sizes_right.false-raw) c.types_right.ensures
