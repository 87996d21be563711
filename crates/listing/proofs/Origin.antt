-- Where residual types come from: each is the top or the right of a cut on a plate type with a lower number.
use Prim.Native.Nat.{ℕ, suc, ◌≤◌, ◌<◌}
use native.Mathlib.Omega.{arith}
use mathlib.Core.Path.{◌≡◌, ap}
use mathlib.Core.Logic.{◌⊎◌, inl, inr}
use mathlib.Core.List.{List}
use lib.ListN.{length, length-append, length-map}
use Rattle.job.specs.Job.{Job, position_at}
use Rattle.job.proofs.Tests.{at-most-or-above}
use Rattle.listing.specs.declared.plate.Plate.{Plate}
use Rattle.listing.specs.declared.plate.Residuals.{Residuals}
use Rattle.listing.specs.Plate.{board, leaves}
use Rattle.listing.specs.Listing.{Listing, going, plate_at, entered, walk_within}
use Rattle.listing.specs.Numbering.{Left}
use Rattle.listing.specs.Reached.{Reached, start, skipped, done, row, after}
use Rattle.listing.proofs.Numbers.{Entering, not-kept, met, fresh, entering}
use Rattle.listing.proofs.Steps.{done-plates}
use Rattle.listing.proofs.Growth.{done-count, done-cut, done-last}
use Rattle.listing.proofs.Ends.{walk-complete}

-- a plate type that is added with a residual is the residual's
pub entered-last :
    (job : Job) (p : Plate) (ps : List Plate) (k : ℕ)
    → length ps ≤ k
    → k < length (entered job p ps).plates
    → (entered job p ps).number ≡ k
entered-last job p ps k a b = go (entering job p ps)
  where
    go : Entering job p ps → (entered job p ps).number ≡ k
    go (not-kept h e) = absurd (omega (arith, rw e at b))
    go (met n h t l g e) = absurd (omega (arith, rw e at b))
    go (fresh h f e) = rw e (omega (arith, simp length-append at (rw e at b)))

module _ (job : Job) where
  pub reached-left : {j i : ℕ} {l : Listing} → Reached job j i l → (k : ℕ) → length job.sizes ≤ k → k < length l.plates → Left l k
  reached-left start k a b = absurd (omega (arith, length-map job.sizes board))
  reached-left (skipped r p q s) k a b = reached-left r k a b
  reached-left (row r p q) k a b = reached-left r k a b
  reached-left (done {j = j} {i = i} {l = l} r p q s) k a b = go (at-most-or-above (length l.plates) k) (λ h. reached-left r k a h)
    where
      left : Residuals
      left = leaves job.mode job.blade (position_at job i) (plate_at l j)

      next : Listing
      next = after job j i l

      ps : List Plate
      ps = (entered job left.top l.plates).plates

      n : length next.cuts ≡ suc (length l.cuts)
      n = done-count job j i left l

      more : length next.plates ≡ length (entered job left.right ps).plates
      more = ap length (done-plates job j i left l)

      new : length l.plates ≤ k → ((entered job left.top l.plates).number ≡ k) ⊎ ((entered job left.right ps).number ≡ k) → Left next k
      new h e =
          record {
            cut = length l.cuts;
            listed = omega (arith, n);
            lower = rw (done-last job j i left l) (omega arith);
            either = rw (done-last job j i left l) e;
          }

      go : (length l.plates ≤ k) ⊎ (k < length l.plates) → (k < length l.plates → Left l k) → Left next k
      go (inl h) f = by (at-most-or-above (length ps) k)
        where
          by : (length ps ≤ k) ⊎ (k < length ps) → Left next k
          by (inl c) = new h (inr (entered-last job left.right ps k c (omega (arith, more))))
          by (inr c) = new h (inl (entered-last job left.top l.plates k h c))
      go (inr h) f =
          let x = f h in
          let e = done-cut job j i left l x.cut x.listed in
          record {
            cut = x.cut;
            listed = omega (arith, n, x.listed);
            lower = rw e x.lower;
            either = rw e x.either;
          }

  -- of every walk that is not refused
  pub walk-left : (P C : ℕ) → length job.sizes ≤ P → (l : Listing) → walk_within P C job ≡ going l → (k : ℕ) → length job.sizes ≤ k → k < length l.plates → Left l k
  walk-left P C h l e = reached-left (walk-complete P C job h l e).reached
