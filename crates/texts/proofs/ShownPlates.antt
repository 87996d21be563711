-- Lines 3 that show their plates (request Five) are just those that 20 passes; and every plate type of a listing fits the columns of a line.
use Prim.Native.Nat.{ℕ, zero, suc, ◌+◌, ◌≤◌, ◌<◌}
use native.Mathlib.Omega.{arith}
use mathlib.Core.Path.{◌≡◌, refl}
use mathlib.Core.Logic.{◌⊎◌, inl, inr}
use mathlib.Core.List.{List, [], ◌∷◌}
use lib.ListN.{length}
use borrow.Author.Tests.{not-false}
use Rattle.job.specs.Verdict.{pass, lowest}
use Rattle.job.specs.Job.{Job, max_side}
use Rattle.job.specs.Admitted.{Admitted}
use Rattle.job.proofs.Tests.{at-most-or-above}
use Rattle.job.proofs.Admission.{admitted-sided, admitted-stocked}
use Rattle.listing.specs.declared.plate.Plate.{Plate}
use Rattle.listing.specs.Plate.{same}
use Rattle.listing.specs.Listing.{Cut, Listing, plate_at, cut_at, model_row, listing_of}
use Rattle.listing.specs.Model.{Numbered, item_of, left_by, Model}
use Rattle.listing.specs.Numbering.{LeavesType, IsListing}
use Rattle.listing.proofs.Plates.{may-cut, same-equal, equal-same}
use Rattle.listing.proofs.Residuals.{sides, residuals-smaller}
use Rattle.listing.proofs.Steps.{row-listing}
use Rattle.listing.proofs.ListingExact.{listing-exact}
use Rattle.columns.specs.Line.{Fit}
use Rattle.texts.specs.SawText.{Counted, misshown, plates_shown}
use Rattle.texts.specs.Shown.{Shows}
use Rattle.texts.proofs.Basics.{lowest-parts}

module _ (l : Listing) where
  -- such lines pass 20
  pub shows-pass : (k : ℕ) (rs : List Counted) → Shows (plate_at l) rs → plates_shown l k rs ≡ pass
  unfolding plates_shown lowest misshown
  shows-pass k [] h = refl
  shows-pass k (r ∷ rs) h = rw (equal-same r.shown (plate_at l r.plate) h.0, lowest) (shows-pass (suc k) rs h.1)

  -- and lines that pass 20 are such
  pub pass-shows : (k : ℕ) (rs : List Counted) → plates_shown l k rs ≡ pass → Shows (plate_at l) rs
  unfolding plates_shown misshown
  pass-shows k [] h = tt
  pass-shows k (r ∷ rs) h =
      let p = lowest-parts 20 (λ _ s. misshown l s) k r rs h in
      (same-equal r.shown (plate_at l r.plate) (not-false (same r.shown (plate_at l r.plate)) p.0), pass-shows (suc k) rs p.1)

-- each residual type is left by a cut on a lower plate type and is smaller than it, so no plate type is larger than the sizes
module _ (job : Job) (a : Admitted job) (row : model_row job ≡ pass) where
  abbrev l : Listing
  l = listing_of job

  -- the most that two sides of a size come to
  abbrev most : ℕ
  most = max_side + max_side

  is : IsListing job l
  is = ((listing-exact.sided job (admitted-sided job a) (admitted-stocked job a)).walked l).0 (row-listing job row)

  -- a residual that is numbered k is plate type k
  numbered-sides : (q : Plate) (r k : ℕ) → Numbered job l q r → r ≡ k → 1 ≤ k → sides q ≤ most → sides (plate_at l k) ≤ most
  numbered-sides q r k (inl h) e p s = absurd (omega (arith, h.1))
  numbered-sides q r k (inr h) e p s = rw (← e, h.3) s

  plate-sides : (n k : ℕ) → k < n → k < length l.plates → sides (plate_at l k) ≤ most
  plate-sides zero k h u = absurd (omega arith)
  plate-sides (suc n) k h u = go (at-most-or-above (length job.sizes) k) (plate-sides n)
    where
      m : Model job l
      m = is.model

      go :
          (length job.sizes ≤ k) ⊎ (k < length job.sizes)
          → ((j : ℕ) → j < n → j < length l.plates → sides (plate_at l j) ≤ most)
          → sides (plate_at l k) ≤ most
      go (inr b) ih = let z = a.each-size k b in rw (m.first k b) (omega arith)
      go (inl b) ih =
          let x = is.each_left k (omega (arith, m.sized)) u in
          let c : Cut = cut_at l (suc x.cut) in
          let below = ih c.plate (omega (arith, x.lower)) (m.on-plate x.cut x.listed) in
          let may = may-cut job.mode (item_of job c) (plate_at l c.plate) (m.permitted x.cut x.listed) in
          let s = admitted-sided job a c.item may.allowed in
          let smaller = residuals-smaller job.mode job.blade (item_of job c) (plate_at l c.plate) s.0 s.1 may.in-width may.in-height in
          by x.cut x.listed x.either (omega (arith, smaller.0)) (omega (arith, smaller.1))
        where
          by :
              (d : ℕ)
              → d < length l.cuts
              → LeavesType (cut_at l (suc d)) k
              → sides (left_by job l (cut_at l (suc d))).top ≤ most
              → sides (left_by job l (cut_at l (suc d))).right ≤ most
              → sides (plate_at l k) ≤ most
          by d h (inl e) p q = numbered-sides (left_by job l (cut_at l (suc d))).top (cut_at l (suc d)).top k (m.top-numbered d h) e (omega (arith, b, m.some_size)) p
          by d h (inr e) p q = numbered-sides (left_by job l (cut_at l (suc d))).right (cut_at l (suc d)).right k (m.right-numbered d h) e (omega (arith, b, m.some_size)) q

  -- the sides and the stage of each plate type of an admitted job fit nine columns
  pub plate-fits : (j : ℕ) → j < length l.plates → let p = plate_at l j in Fit (p.width ∷ p.height ∷ p.stage ∷ [])
  unfolding Fit
  plate-fits j h = omega (arith, plate-sides (suc j) j (omega arith) h, is.model.staged j h)
