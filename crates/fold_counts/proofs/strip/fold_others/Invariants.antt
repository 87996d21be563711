use mathlib.Core.Bool.{false}
use Prim.Native.Nat.{◌-◌, ◌≤◌, ◌<◌}
use lib.ListN.{drop}
use Rattle.job.specs.Job.{job_of}
use Rattle.listing.specs.Listing.{listing_of}
use Rattle.layouts.specs.Lines.{rows_of}
use Rattle.layouts.specs.Fold.{strip_cuts}
use Rattle.layouts_strips.specs.First.{strip_of}
use Rattle.fold_counts.specs.Strip.{others}
use Rattle.fold_counts.proofs.CodeStrip.{OthersAt}
use Rattle.fold_counts.proofs.strip.fold_others.Given as goal

-- `fold_others` goes over the stacks: those cut, and those that are left, make the whole.
abbrev pub invariant-loop-k : goal.invariant-loop-k
invariant-loop-k l = (l.p < l.lines.number)
    × (l.a ≤ l.p)
    × OthersAt (job_of l.lines.job.now) (listing_of (job_of l.lines.job.now)) l.height l.k.0 l.initial.counts (strip_cuts (listing_of (job_of l.lines.job.now)) l.initial.at.strip.0 (others (job_of l.lines.job.now) l.height false (strip_of (drop l.a (rows_of l.lines.layouts.now))))) l.at.strip.0 l.at.passed (strip_of (drop l.p (rows_of l.lines.layouts.now))) (l.p - l.a) l.counts

abbrev pub decreases-loop-k : goal.decreases-loop-k
decreases-loop-k l = l.lines.number - l.p
