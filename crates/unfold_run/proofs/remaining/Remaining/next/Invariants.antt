use mathlib.Core.Path.{◌≡◌}
use Prim.Native.Nat.{◌+◌}
use Rattle.job.specs.Job.{Job}
use Rattle.listing.specs.Listing.{Listing}
use Rattle.listing.specs.Model.{Model}
use Rattle.unfold_waiting.specs.Begins.{Begins}
use Rattle.unfold_run.specs.Opening.{OpensFrom}
use Rattle.unfold_run.proofs.remaining.Remaining.next.Given as goal

-- `next` goes up from size to size while none of its boards is left.
abbrev pub invariant-loop-j : goal.invariant-loop-j
invariant-loop-j l = (l.left.size.0 + 1 ≡ l.j)
    × ((job : Job) (m : Listing)
    → Model job m
    → Begins m.cuts l.begins
    → OpensFrom m l.fn.sizes.0 l.initial.left l.counts
    → OpensFrom m l.fn.sizes.0 l.left l.counts)
