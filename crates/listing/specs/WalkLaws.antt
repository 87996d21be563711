-- What the walk does within its limits, as statements: what 6 and 7 mean, where each residual type comes from, and that the limits are the only bounds.
use Rattle.std.specs.Prelude.{ℕ, ◌+◌, ◌≤◌, ◌<◌, ◌≡◌, length}
use Rattle.job.specs.Job.{Job}
use Rattle.listing.specs.Listing.{Listing, going, stopped, walk_start, over_plates, walk_within}
use Rattle.listing.specs.Numbering.{Left}

-- a walk within P plate types, which leave room for the sizes, and C cuts
pub record WalkLaws (P C : ℕ) (job : Job) : Type 0 where
  -- every residual type is left by a cut on a plate type with a lower number
  pub left : (l : Listing) → walk_within P C job ≡ going l → (k : ℕ) → length job.sizes ≤ k → k < length l.plates → Left l k
  -- a walk that is not refused is the same within larger limits
  pub larger-same : (P' C' : ℕ) → P ≤ P' → C ≤ C' → (l : Listing) → walk_within P C job ≡ going l → walk_within P' C' job ≡ going l
  -- one that is refused with 7 has more cuts within larger limits; one that is refused with 6, more plate types
  pub larger-cuts : (P' C' : ℕ) → P ≤ P' → C ≤ C' → (l : Listing) → walk_within P C job ≡ stopped 7 → walk_within P' C' job ≡ going l → C < length l.cuts
  pub larger-plates : (P' C' : ℕ) → P ≤ P' → C ≤ C' → (l : Listing) → walk_within P C job ≡ stopped 6 → walk_within P' C' job ≡ going l → P < length l.plates
  -- visiting more plate types than the limit changes nothing
  pub visits : (more : ℕ) → over_plates P C job (more + P) 0 (walk_start job) ≡ walk_within P C job
