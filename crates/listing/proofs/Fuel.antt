-- The walk's fuel is enough: with more of it the walk is the same, since the plate types never pass their limit.
use Prim.Native.Nat.{ℕ, zero, suc, ◌+◌, ◌≤◌, ◌<◌}
use native.Mathlib.Omega.{arith}
use mathlib.Core.Path.{◌≡◌, refl, sym, ◌∙◌, ap}
use mathlib.Core.Logic.{◌⊎◌, inl, inr}
use lib.ListN.{length, length-map}
use Rattle.job.specs.Job.{Job, positions}
use Rattle.job.proofs.Tests.{at-most-or-above}
use Rattle.listing.specs.Plate.{board}
use Rattle.listing.specs.Listing.{Listing, Walk, going, stopped, plate_at, over_items, over_plates, walk_within, walk_start}
use Rattle.listing.proofs.Steps.{plates-going, plates-stopped, plates-end}
use Rattle.listing.proofs.Along.{items-few}

module _ (P C : ℕ) (job : Job) where
  -- one more unit of fuel changes nothing
  pub fuel-enough :
      (fuel j : ℕ) (l : Listing)
      → length l.plates ≤ P
      → P ≤ fuel + j
      → over_plates P C job (suc fuel) j l ≡ over_plates P C job fuel j l
  fuel-enough zero j l h f = plates-end P C job 1 j l (omega arith) ∙ sym (plates-end P C job 0 j l (omega arith))
  fuel-enough (suc fuel) j l h f =
      go (at-most-or-above (length l.plates) j) (over_items P C job j (plate_at l j) 1 (positions job) l) refl
      (λ l' h'. fuel-enough fuel (suc j) l' h' (omega arith))
    where
      go :
          (length l.plates ≤ j) ⊎ (j < length l.plates)
          → (w : Walk)
          → over_items P C job j (plate_at l j) 1 (positions job) l ≡ w
          → ((l' : Listing) → length l'.plates ≤ P → over_plates P C job (suc fuel) (suc j) l' ≡ over_plates P C job fuel (suc j) l')
          → over_plates P C job (suc (suc fuel)) j l ≡ over_plates P C job (suc fuel) j l
      go (inl b) w e ih = plates-end P C job (suc (suc fuel)) j l b ∙ sym (plates-end P C job (suc fuel) j l b)
      go (inr b) (going l') e ih =
          plates-going P C job (suc fuel) j l l' b e
          ∙ ih l' (items-few P C job j (plate_at l j) 1 (positions job) l l' h e)
          ∙ sym (plates-going P C job fuel j l l' b e)
      go (inr b) (stopped n) e ih = plates-stopped P C job (suc fuel) j l n b e ∙ sym (plates-stopped P C job fuel j l n b e)

  -- any fuel from the limit of plate types on gives the walk
  pub fuel-any : (more : ℕ) → length job.sizes ≤ P → over_plates P C job (more + P) 0 (walk_start job) ≡ walk_within P C job
  unfolding walk_within
  fuel-any zero h = let e : 0 + P ≡ P = omega arith in ap (λ (fuel : ℕ). over_plates P C job fuel 0 (walk_start job)) e
  fuel-any (suc more) h =
      let e : suc more + P ≡ suc (more + P) = omega arith in
      ap (λ (fuel : ℕ). over_plates P C job fuel 0 (walk_start job)) e
      ∙ fuel-enough (more + P) 0 (walk_start job) (omega (arith, length-map job.sizes board)) (omega arith)
      ∙ fuel-any more h
