use mathlib.Core.Path.{◌≡◌}
use Prim.Native.Nat.{◌-◌, ◌≤◌}
use lib.ListN.{length}
use Rattle.job.specs.Job.{Job}
use Rattle.listing.specs.Listing.{Listing}
use Rattle.listing.specs.Model.{Model}
use Rattle.listing.specs.Records.{cut_words}
use Rattle.listing.specs.Holds.{Holds}
use Rattle.unfold_waiting.proofs.CodeBegins.{Passed, Written}
use Rattle.unfold_waiting.proofs.begins.cut_begins.Given as goal

-- `cut_begins` goes up with the plate types: the words below j are written, and c cuts are passed, which come before j begins.
abbrev pub invariant-loop-j : goal.invariant-loop-j
invariant-loop-j l = (l.c ≤ l.k.0)
    × (length l.begins ≡ length l.initial.begins)
    × ((job : Job) (m : Listing) → Model job m → length m.cuts ≡ l.k.0 → Holds l.cuts (cut_words m.cuts) → Written
    m.cuts l.begins l.j × Passed m.cuts l.c l.j)

-- and for each with the cuts
abbrev pub invariant-loop-c : goal.invariant-loop-c
invariant-loop-c l = (l.c ≤ l.k.0)
    × ((job : Job) (m : Listing) → Model job m → length m.cuts ≡ l.k.0 → Holds l.cuts (cut_words m.cuts) → Passed
    m.cuts l.c l.j)

abbrev pub decreases-loop-c : goal.decreases-loop-c
decreases-loop-c l = l.k.0 - l.c
