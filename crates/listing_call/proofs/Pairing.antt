-- One pair of the walk, on plain values: what the definition gives in each case that the code tells apart, from buffers that hold a listing.
use mathlib.Core.Path.{◌≡◌, sym, ap, ◌∙◌}
use Prim.Native.Nat.{ℕ, ◌+◌, ◌≤◌, ◌<◌}
use mathlib.Core.Bool.{true, false}
use mathlib.Core.List.{List, [], ◌∷◌, ◌++◌}
use native.Mathlib.Omega.{arith}
use lib.ListN.{length, length-append}
use Rattle.job.specs.declared.item.Position.{Position}
use Rattle.job.specs.Sizes.{max_plates, max_cuts}
use Rattle.job.specs.Job.{Job}
use Rattle.listing.specs.declared.plate.Plate.{Plate}
use Rattle.listing.specs.declared.plate.Residuals.{Residuals}
use Rattle.listing.specs.Plate.{may_cut, leaves}
use Rattle.listing.specs.Listing.{Listing, Walk, going, stopped, Entry, entered, cut_done, limited, pair}
use Rattle.listing.specs.Records.{cut_words}
use Rattle.listing.specs.Holds.{Holds, cut_of_words}
use Rattle.listing.proofs.Steps.{limited-cuts, limited-plates, limited-going, pair-skipped, pair-cut}
use Rattle.listing_call.specs.Steps.{Rep, Here, Known, Holding, EnteredIn}
use Rattle.listing_call.proofs.Entering.{entered-more}

-- what a pair makes of the walk, as the buffers hold it
pub record Paired (job : Job) (w : Walk) (plates index leasts cuts : List ℕ) (m k : ℕ) : Type 0 where
  pub here : Here job going w plates cuts m k
  pub known : Known job here.l.plates index leasts

module _ (job : Job) (j : ℕ) (p : Plate) (i : ℕ) (item : Position) (l : Listing) {plates index leasts cuts : List ℕ} {m k : ℕ} (h : Rep job l plates cuts m k) (n : Known job l.plates index leasts) where
  abbrev of_pair : Walk
  of_pair = pair max_plates max_cuts job j p i item l

  -- the plate types as they are held and known
  pub all_held : Holding job l.plates plates index leasts m
  all_held = record { count = h.plate-count; sizes = h.some-plates; few = h.few-plates; held = h.of-plates; known = n }

  -- the pair is not permitted
  pub step-none : may_cut job.mode item p ≡ false → Paired job of_pair plates index leasts cuts m k
  step-none e = record { here = record { l = l; rep = h; goes_on = sym (pair-skipped max_plates max_cuts job j p i item l e) }; known = n }

  -- the pair is permitted, and leaves `left`
  module _ (e : may_cut job.mode item p ≡ true) (left : Residuals) (el : left ≡ leaves job.mode job.blade item p) where
    abbrev top : Entry
    top = entered job left.top l.plates

    abbrev right : Entry
    right = entered job left.right top.plates

    abbrev after : Listing
    after = record { sizes = l.sizes; plates = right.plates; cuts = l.cuts ++ cut_of_words j i top.number right.number ∷ [] }

    permitted : limited max_plates max_cuts job after ≡ of_pair
    unfolding cut_done
    permitted =
        ap (λ (x : Residuals). limited max_plates max_cuts job (cut_done job j i x l)) el
        ∙ sym (pair-cut max_plates max_cuts job j p i item l e)

    -- one cut more
    one_more : length after.cuts ≡ k + 1
    one_more = rw length-append (omega arith)

    -- an 8,193rd cut
    pub step-cuts-full : max_cuts ≤ k → of_pair ≡ stopped 7
    step-cuts-full full = sym permitted ∙ limited-cuts max_plates max_cuts job after (omega (arith, one_more))

    module _ (few : k < max_cuts) where
      -- a 2,049th plate type, at the right residual or already at the top one
      pub step-right-full : max_plates < length right.plates → of_pair ≡ stopped 6
      step-right-full full = sym permitted ∙ limited-plates max_plates max_cuts job after (omega (arith, one_more)) full

      pub step-top-full : max_plates < length top.plates → of_pair ≡ stopped 6
      step-top-full full = step-right-full (omega (arith, entered-more job left.right top.plates))

      -- both residuals are entered, and the cut is written
      pub step-next : {t m₁ r m₂ : ℕ} {plates₁ index₁ leasts₁ plates₂ index₂ leasts₂ cuts₂ : List ℕ} → EnteredIn job top t m₁ plates₁ index₁ leasts₁ → EnteredIn job right r m₂ plates₂ index₂ leasts₂ → Holds cuts₂ (cut_words (l.cuts ++ cut_of_words j i t r ∷ [])) → Paired job of_pair plates₂ index₂ leasts₂ cuts₂ m₂ (k + 1)
      step-next a b c = record {
        here = record {
          l = after;
          rep = record {
            of-sizes = h.of-sizes;
            of-plates = b.holding.held;
            of-cuts = rw (← a.number, ← b.number) c;
            plate-count = b.holding.count;
            cut-count = one_more;
            few-plates = b.holding.few;
            few-cuts = omega arith;
            some-plates = b.holding.sizes;
          };
          goes_on = sym (limited-going max_plates max_cuts job after (omega (arith, one_more)) (omega (arith, b.holding.count, b.holding.few))) ∙ permitted;
        };
        known = b.holding.known;
      }
