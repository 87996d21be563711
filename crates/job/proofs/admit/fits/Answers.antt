use mathlib.Core.Path.{◌≡◌, refl}
use mathlib.Core.Bool.{Bool}
use Rattle.job.specs.declared.item.Position.{Position}
use Rattle.job.specs.declared.size.Size.{Size}
use Rattle.job.specs.Job.{job_of, no_size, size_at, fits_in, fits}
use Rattle.job.proofs.SizeWords.{sizes-length}
use Rattle.job.proofs.CodeOver.{any-end, any_found, any_next}
use Rattle.job.proofs.admit.fits.Goals as goal

-- what the test says of the size read it says of that size
tested : {r t : Bool} (p : Position) {z z' : Size} → r ≡ fits_in p z → z ≡ z' → r ≡ t → fits_in p z' ≡ t
tested p e i t = cc

pub loop-j-init : goal.loop-j-init
unfolding fits
loop-j-init c = refl

pub returns-then-fits_in : goal.returns-then-fits_in
unfolding size_at
returns-then-fits_in c = any_found (job_of c.args.job.now).sizes no_size (fits_in c.args.position) c.loop-j.j c.loop-j.invariant (rw (sizes-length _ c.requires) c.loop-j-test.true) (tested c.args.position c.fits_in.ensures c.size_at-size.ensures c.if-fits_in.true)

pub loop-j-preserved : goal.loop-j-preserved
unfolding size_at
loop-j-preserved c = any_next (job_of c.args.job.now).sizes no_size (fits_in c.args.position) c.loop-j.j c.loop-j.invariant (rw (sizes-length _ c.requires) c.loop-j-test.true) (tested c.args.position c.fits_in.ensures c.size_at-size.ensures c.if-fits_in.false)

pub returns : goal.returns
returns c = any-end (job_of c.args.job.now).sizes no_size (fits_in c.args.position) c.loop-j.j c.loop-j.invariant (rw (sizes-length _ c.requires) c.loop-j-test.false)
