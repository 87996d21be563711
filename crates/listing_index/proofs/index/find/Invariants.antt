use mathlib.Core.Path.{◌≡◌}
use Prim.Native.Nat.{ℕ, ◌≤◌}
use mathlib.Core.List.{List}
use lib.ListN.{length}
use Rattle.job.specs.Job.{Job}
use Rattle.listing.specs.declared.plate.Plate.{Plate}
use Rattle.listing.specs.Records.{plate_words}
use Rattle.listing.specs.Holds.{Holds}
use Rattle.listing_index.specs.Index.{Indexed}
use Rattle.listing_index.proofs.Searching.{At}
use Rattle.listing_index.proofs.index.find.Given as goal

-- `find` looks at the plate types of a bucket in falling number.
-- of whatever plate types the buffer holds and the index is, p is none from number k on
abbrev pub Sought : List ℕ → List ℕ → ℕ → Plate → ℕ → Type 0
Sought plates index m p k = (t : ℕ) (job : Job) (ps : List Plate) → length ps ≡ m → Holds plates (plate_words job ps) → Indexed t ps index → At t ps p k

abbrev pub invariant-loop-k : goal.invariant-loop-k
invariant-loop-k l = (l.k ≤ l.m.0) × Sought l.plates l.index l.m.0 l.p l.k

abbrev pub decreases-loop-k : goal.decreases-loop-k
decreases-loop-k l = l.k
