use mathlib.Core.Path.{◌≡◌}
use mathlib.Core.Bool.{Bool}
use borrow.Author.Tests.{not-true, not-false}
use Rattle.job.specs.declared.size.Size.{Size}
use Rattle.job.specs.Job.{job_of, no_size, size_at, size_right}
use Rattle.job.proofs.SizeWords.{sizes-length}
use Rattle.job.proofs.CodeOver.{all_end, all-failed, all-next}
use Rattle.job.proofs.admit.sizes_right.Goals as goal

-- what the test says of the size read it says of that size
tested : {r t : Bool} {z z' : Size} → r ≡ size_right z → z ≡ z' → r ≡ t → size_right z' ≡ t
tested e i t = cc

pub returns-then-not-size_right : goal.returns-then-not-size_right
unfolding size_at
returns-then-not-size_right c = all-failed (job_of c.args.job.now).sizes no_size size_right c.loop-j.j c.loop-j.invariant (rw (sizes-length _ c.requires) c.loop-j-test.true) (tested c.size_right.ensures c.size_at-size.ensures (not-true _ c.if-not-size_right.true-raw))

pub loop-j-preserved : goal.loop-j-preserved
unfolding size_at
loop-j-preserved c = all-next (job_of c.args.job.now).sizes no_size size_right c.loop-j.j c.loop-j.invariant (rw (sizes-length _ c.requires) c.loop-j-test.true) (tested c.size_right.ensures c.size_at-size.ensures (not-false _ c.if-not-size_right.false-raw))

pub returns : goal.returns
returns c = all_end (job_of c.args.job.now).sizes no_size size_right c.loop-j.j c.loop-j.invariant (rw (sizes-length _ c.requires) c.loop-j-test.false)
