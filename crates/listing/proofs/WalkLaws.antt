-- The statements about the walk hold for any limits that leave room for the sizes.
use Prim.Native.Nat.{ℕ, ◌≤◌}
use lib.ListN.{length}
use Rattle.job.specs.Job.{Job}
use Rattle.listing.specs.WalkLaws.{WalkLaws}
use Rattle.listing.proofs.Fuel.{fuel-any}
use Rattle.listing.proofs.Limits.{larger-same, larger-cuts, larger-plates}
use Rattle.listing.proofs.Origin.{walk-left}

pub walk-laws : (P C : ℕ) (job : Job) → length job.sizes ≤ P → WalkLaws P C job
walk-laws P C job some =
    record {
      left = walk-left job P C some;
      larger-same = λ P' C' p c. larger-same P C P' C' job some p c;
      larger-cuts = λ P' C' p c. larger-cuts P C P' C' job some p c;
      larger-plates = λ P' C' p c. larger-plates P C P' C' job some p c;
      visits = λ more. fuel-any P C job more some;
    }
