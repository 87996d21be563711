use mathlib.Core.Path.{◌≡◌}
use Prim.Native.Nat.{ℕ, ◌<◌}
use lib.ListN.{length, get_or}
use Rattle.job.specs.Job.{job_of, size_at}
use Rattle.listing.specs.Plate.{board}
use Rattle.listing_positions.specs.Least.{least_of}
use Rattle.listing_call.proofs.sizes.put_leasts.Given as goal

-- `put_leasts` writes the least sides of the sizes in rising number.
abbrev pub invariant-loop-j : goal.invariant-loop-j
invariant-loop-j l = (length l.leasts ≡ length l.initial.leasts) × ((i : ℕ) → i < l.j → get_or l.leasts i 0 ≡ least_of (job_of l.job.words.now) (board (size_at (job_of l.job.words.now) i)))
