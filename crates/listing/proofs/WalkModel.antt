-- The main theorem: the walk of document 01, where it is not refused, makes the model.
use Prim.Native.Nat.{ℕ, ◌≤◌}
use native.Mathlib.Omega.{arith}
use mathlib.Core.Path.{◌≡◌}
use mathlib.Core.Logic.{inl}
use lib.ListN.{length}
use Rattle.job.specs.Verdict.{pass}
use Rattle.job.specs.Job.{Job}
use Rattle.job.specs.Admitted.{Sided, Stocked}
use Rattle.listing.specs.Listing.{Listing, going, plate_at, walk_within, walk, model_row, listing_of, max_plates, max_cuts}
use Rattle.listing.specs.Model.{Model}
use Rattle.listing.proofs.Steps.{row-listing}
use Rattle.listing.proofs.Walked.{Walked}
use Rattle.listing.proofs.Reached.{reached-walked}
use Rattle.listing.proofs.Ends.{walk-complete}

-- a listing whose plate types are all done, within the limits, is the model
pub walked-model :
    (job : Job) (l : Listing)
    → Walked job (length l.plates) 1 l
    → length l.plates ≤ max_plates
    → length l.cuts ≤ max_cuts
    → Model job l
unfolding plate_at
walked-model job l v p c =
    record {
      few-plates = p;
      few-cuts = c;
      sized = v.sizes-ok;
      some_size = v.plates-ok.some_size;
      size-plates = v.plates-ok.size-plates;
      first = v.plates-ok.first;
      distinct = v.plates-ok.distinct;
      all-kept = v.plates-ok.all-kept;
      staged = v.plates-ok.staged;
      on-plate = λ k h. (v.cuts-ok k h).on-plate;
      of-item = λ k h. ((v.cuts-ok k h).fits.from_one, (v.cuts-ok k h).fits.to_last);
      permitted = λ k h. (v.cuts-ok k h).fits.allowed;
      top-numbered = λ k h. (v.cuts-ok k h).top-numbered;
      right-numbered = λ k h. (v.cuts-ok k h).right-numbered;
      each = λ j i h a b m. v.each j i h (inl h) (record { from_one = a; to_last = b; allowed = m });
      rising = v.rising;
    }

module _ (job : Job) (sided : Sided job) (stocked : Stocked job) where
  -- a walk within any limits ends with every plate type done
  pub walk-walked : (P C : ℕ) → length job.sizes ≤ P → (l : Listing) → walk_within P C job ≡ going l → Walked job (length l.plates) 1 l
  walk-walked P C h l e =
      let c = walk-complete P C job h l e in
      let v = reached-walked job sided stocked c.reached in
      let s : c.place ≡ length l.plates = omega (arith, c.none_left, v.here) in
      rw s at v

  -- a walk within limits that are at most those of document 01 makes the model
  pub walk-model-within : (P C : ℕ) → length job.sizes ≤ P → P ≤ max_plates → C ≤ max_cuts → (l : Listing) → walk_within P C job ≡ going l → Model job l
  walk-model-within P C h p c l e =
      let few = (walk-complete P C job h l e).few in
      walked-model job l (walk-walked P C h l e) (omega (arith, few.few-plates)) (omega (arith, few.few-cuts))

  -- the walk of document 01 makes the model
  pub walk-model : (l : Listing) → walk job ≡ going l → Model job l
  unfolding walk
  walk-model l e = walk-model-within max_plates max_cuts (omega (arith, stocked.1)) (omega arith) (omega arith) l e

  -- where the model row passes, the job's listing is the model
  pub row-model : model_row job ≡ pass → Model job (listing_of job)
  row-model h = walk-model (listing_of job) (row-listing job h)
