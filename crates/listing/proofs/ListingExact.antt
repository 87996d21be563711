-- There is exactly one listing of a job, and the walk makes it; where there is none within the limits, the walk is refused.
use Prim.Native.Nat.{ℕ, suc, ◌≤◌, ◌<◌}
use native.Mathlib.Omega.{arith}
use mathlib.Core.Path.{◌≡◌, refl, sym, ◌∙◌, ap}
use mathlib.Core.Logic.{◌⊎◌, inl, inr}
use lib.ListN.{length}
use lib.Seq.{ext_get_or}
use Rattle.job.specs.Verdict.{pass}
use Rattle.job.specs.Job.{Job, job_of, position_at}
use Rattle.job.specs.Admitted.{Sided, Stocked}
use Rattle.job.proofs.Admission.{admitted-words, admitted-job, admitted-sided, admitted-stocked}
use Rattle.job.proofs.Tests.{at-most-or-above}
use Rattle.listing.specs.Plate.{waste, leaves}
use Rattle.listing.specs.Listing.{Listing, Walk, going, stopped, no_cut, plate_at, cut_at, walk_within, walk, model_row, listing_of, max_plates, max_cuts}
use Rattle.listing.specs.Numbering.{IsListing, OneListing, ListingExact}
use Rattle.listing.specs.Reached.{done, after}
use Rattle.listing.proofs.Growth.{Grown, done-count}
use Rattle.listing.proofs.Steps.{going-one, going-not-stopped, walk-limits, row-going, row-listing, listing-going}
use Rattle.listing.proofs.Walked.{Walked}
use Rattle.listing.proofs.Ends.{Over, by-cut, by-plate, Halted, walk-complete, walk-halted}
use Rattle.listing.proofs.WalkModel.{walk-model, walk-walked}
use Rattle.listing.proofs.Origin.{walk-left}
use Rattle.listing.proofs.FirstMet.{reached-as-met}
use Rattle.listing.proofs.Prefix.{passed-listed, met-below, reached-begins}

module _ (job : Job) (sided : Sided job) (stocked : Stocked job) where
  -- there is room for the sizes
  room : length job.sizes ≤ max_plates
  room = omega (arith, stocked.1)

  -- the walk makes the job's listing
  walk_is : (l : Listing) → walk job ≡ going l → IsListing job l
  walk_is l e =
      let w = sym (walk-limits job) ∙ e in
      record {
        model = walk-model job sided stocked l e;
        each_left = λ k a b. walk-left job max_plates max_cuts room l w k (omega (arith, (walk-model job sided stocked l e).sized)) b;
        as-met = reached-as-met job (walk-complete max_plates max_cuts job room l w).reached;
      }

  module _ (m : Listing) (is : IsListing job m) where
    -- a listing with every plate type done that begins the job's is all of it
    module _ (l : Listing) (v : Walked job (length l.plates) 1 l) (begins : Grown l m) where
      all-plates : length m.plates ≡ length l.plates
      all-plates = go (at-most-or-above (length m.plates) (length l.plates))
        where
          go : (length m.plates ≤ length l.plates) ⊎ (length l.plates < length m.plates) → length m.plates ≡ length l.plates
          go (inl h) = omega (arith, begins.plates-longer.no-fewer)
          go (inr h) =
              let x = is.each_left (length l.plates) (omega (arith, v.plates-ok.size-plates, is.model.sized)) h in
              let c = passed-listed job m is (length l.plates) 1 l v begins x.cut x.listed x.lower (inl x.lower) in
              absurd (omega (arith, met-below job m is (length l.plates) 1 l v begins (length l.plates) (x.cut, c, x.either)))

      all-cuts : length m.cuts ≡ length l.cuts
      all-cuts = go (at-most-or-above (length m.cuts) (length l.cuts))
        where
          go : (length m.cuts ≤ length l.cuts) ⊎ (length l.cuts < length m.cuts) → length m.cuts ≡ length l.cuts
          go (inl h) = omega (arith, begins.cuts-longer.no-fewer)
          go (inr h) =
              let p : (cut_at m (suc (length l.cuts))).plate < length l.plates = omega (arith, all-plates, is.model.on-plate (length l.cuts) h) in
              absurd (omega (arith, passed-listed job m is (length l.plates) 1 l v begins (length l.cuts) h p (inl p)))

      is_whole : l ≡ m
      is_whole =
          let p : l.plates ≡ m.plates = ext_get_or waste l.plates m.plates (sym all-plates) (λ k h. sym (begins.plates-longer.keeps k h)) in
          let c : l.cuts ≡ m.cuts = ext_get_or no_cut l.cuts m.cuts (sym all-cuts) (λ k h. sym (begins.cuts-longer.keeps k h)) in
          let s : l.sizes ≡ m.sizes = v.sizes-ok ∙ sym is.model.sized in
          λ t. record { sizes = s t; plates = p t; cuts = c t }

    -- the walk meets no limit: the pair with which it would pass one is a cut of the job's listing
    no-halt : (n : ℕ) → Halted max_plates max_cuts job n → ⊥
    no-halt n h = go h.passed
      where
        next : Listing
        next = after job h.plate h.item h.listing

        begins : Grown next m
        begins = reached-begins job m is sided stocked (done h.reached h.on-plate h.of-item h.allowed)

        more : length next.cuts ≡ suc (length h.listing.cuts)
        more = done-count job h.plate h.item (leaves job.mode job.blade (position_at job h.item) (plate_at h.listing h.plate)) h.listing

        go : Over max_plates max_cuts n h.listing next → ⊥
        go (by-cut e c) = omega (arith, more, begins.cuts-longer.no-fewer, is.model.few-cuts)
        go (by-plate e c p) = omega (arith, begins.plates-longer.no-fewer, is.model.few-plates)

    -- the job's listing is what the walk ends with
    is-walk : walk job ≡ going m
    is-walk = walk-limits job ∙ go (walk_within max_plates max_cuts job) refl
      where
        go : (w : Walk) → walk_within max_plates max_cuts job ≡ w → w ≡ going m
        go (going l) e =
            let r = (walk-complete max_plates max_cuts job room l e).reached in
            ap going (is_whole l (walk-walked job sided stocked max_plates max_cuts room l e) (reached-begins job m is sided stocked r))
        go (stopped n) e = absurd (no-halt n (walk-halted max_plates max_cuts job room n e))

  -- where there is none, the walk is refused
  none-refused : ((l : Listing) → IsListing job l → ⊥) → (n : ℕ) × (walk job ≡ stopped n)
  none-refused f = go (walk job) refl
    where
      go : (w : Walk) → walk job ≡ w → (n : ℕ) × (walk job ≡ stopped n)
      go (going l) e = absurd (f l (walk_is l e))
      go (stopped n) e = (n, e)

  row_is : model_row job ≡ pass → (l : Listing) × IsListing job l
  row_is e = (listing_of job, walk_is (listing_of job) (row-listing job e))

  one-listing : OneListing job
  one-listing =
      record {
        only = λ l l' a b. going-one (is-walk l a) (is-walk l' b);
        walked = λ l. (walk_is l, is-walk l);
        listed = λ l a. listing-going job l (is-walk l a);
        passed = (row_is, λ x. row-going job x.0 (is-walk x.0 x.1));
        refused = (λ x l a. going-not-stopped (is-walk l a) x.1, none-refused);
      }

pub listing-exact : ListingExact
listing-exact =
    record {
      sided = one-listing;
      admitted = λ ws e.
          let a = admitted-job ws ((admitted-words ws).0 e) in
          one-listing (job_of ws) (admitted-sided (job_of ws) a) (admitted-stocked (job_of ws) a);
    }
