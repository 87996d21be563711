use mathlib.Core.Path.{◌≡◌}
use Prim.Native.Nat.{◌-◌, ◌≤◌}
use lib.ListN.{length}
use Rattle.job.specs.Job.{job_of}
use Rattle.listing.specs.Listing.{listing_of}
use Rattle.fold_counts.proofs.CodeFold.{FoldAt}
use Rattle.fold_counts.proofs.fold.fold_into.Given as goal

-- `fold_into` goes over the strips: those cut, and those of the lines that are left, make the set.
abbrev pub invariant-loop-a : goal.invariant-loop-a
invariant-loop-a l = (l.a ≤ l.lines)
    × (length l.counts ≡ length l.initial.counts)
    × FoldAt (job_of l.job) (listing_of (job_of l.job)) l.layouts l.k.0 l.a l.board.0 l.counts

abbrev pub decreases-loop-a : goal.decreases-loop-a
decreases-loop-a l = l.lines - l.a
