-- The walk numbers residual types as it first meets them.
use Prim.Native.Nat.{ℕ, suc, ◌≤◌, ◌<◌}
use native.Mathlib.Omega.{arith}
use mathlib.Core.Path.{◌≡◌, ◌∙◌}
use mathlib.Core.Logic.{◌⊎◌, inl, inr}
use mathlib.Core.List.{List}
use lib.ListN.{length}
use Rattle.job.specs.Job.{Job, position_at}
use Rattle.job.proofs.Tests.{at-most-or-above}
use Rattle.listing.specs.declared.plate.Plate.{Plate}
use Rattle.listing.specs.declared.plate.Residuals.{Residuals}
use Rattle.listing.specs.Plate.{leaves}
use Rattle.listing.specs.Listing.{Listing, plate_at, cut_at, entered}
use Rattle.listing.specs.Numbering.{Met, AsMet}
use Rattle.listing.specs.Reached.{Reached, start, skipped, done, row, after}
use Rattle.listing.proofs.Numbers.{Entering, not-kept, met, fresh, entering}
use Rattle.listing.proofs.Growth.{done-count, done-cut, done-last}
use Rattle.listing.proofs.Steps.{done-sizes}
use Rattle.listing.proofs.Reached.{reached-sizes}
use Rattle.listing.proofs.Origin.{entered-last, reached-left}

-- a residual's number is that of a plate type or the next
entered-at-most : (job : Job) (p : Plate) (ps : List Plate) → (entered job p ps).number ≤ length ps
entered-at-most job p ps = go (entering job p ps)
  where
    go : Entering job p ps → (entered job p ps).number ≤ length ps
    go (not-kept h e) = rw e (omega arith)
    go (met k h t l g e) = rw e (omega arith)
    go (fresh h f e) = rw e (omega arith)

module _ (job : Job) where
  -- every residual type of a place has been met there
  reached-met : {j i : ℕ} {l : Listing} → Reached job j i l → (k : ℕ) → length job.sizes ≤ k → k < length l.plates → Met l (length l.cuts) k
  reached-met r k a b = let x = reached-left job r k a b in (x.cut, x.listed, x.either)

  -- a cut that is done, where the residual types so far are numbered as met
  module _ (j i : ℕ) (l : Listing) (r : Reached job j i l) (before : AsMet l) where
    abbrev left : Residuals
    left = leaves job.mode job.blade (position_at job i) (plate_at l j)

    abbrev next : Listing
    next = after job j i l

    abbrev ps : List Plate
    ps = (entered job left.top l.plates).plates

    n : length next.cuts ≡ suc (length l.cuts)
    n = done-count job j i left l

    -- the sizes are the job's
    sizes-before : l.sizes ≡ length job.sizes
    sizes-before = reached-sizes job r

    sizes-after : next.sizes ≡ length job.sizes
    sizes-after = done-sizes job j i left l ∙ sizes-before

    still : {c k : ℕ} → c ≤ length l.cuts → Met l c k → Met next c k
    still h (b, g, e) = (b, g, rw (done-cut job j i left l b (omega arith)) e)

    top : (c k : ℕ) → c < length next.cuts → next.sizes ≤ k → (cut_at next (suc c)).top ≡ suc k → Met next c k
    top c k h z e = go (at-most-or-above (length l.cuts) c)
      where
        go : (length l.cuts ≤ c) ⊎ (c < length l.cuts) → Met next c k
        go (inl a) =
            let m : c ≡ length l.cuts = omega (arith, n) in
            let t : (entered job left.top l.plates).number ≡ suc k = rw (m, done-last job j i left l) at e in
            still (omega arith) (rw m (reached-met r k (omega (arith, sizes-after)) (omega (arith, entered-at-most job left.top l.plates))))
        go (inr a) = still (omega arith) (before.top-after c k a (omega (arith, sizes-before, sizes-after)) (rw (done-cut job j i left l c a) at e))

    right : (c k : ℕ) → c < length next.cuts → next.sizes ≤ k → (cut_at next (suc c)).right ≡ suc k → Met next c k ⊎ ((cut_at next (suc c)).top ≡ k)
    right c k h z e = go (at-most-or-above (length l.cuts) c) (at-most-or-above (length l.plates) k)
      where
        old : Met l c k ⊎ ((cut_at l (suc c)).top ≡ k) → c < length l.cuts → Met next c k ⊎ ((cut_at next (suc c)).top ≡ k)
        old (inl m) a = inl (still (omega arith) m)
        old (inr m) a = inr (rw (done-cut job j i left l c a) m)

        go :
            (length l.cuts ≤ c) ⊎ (c < length l.cuts)
            → (length l.plates ≤ k) ⊎ (k < length l.plates)
            → Met next c k ⊎ ((cut_at next (suc c)).top ≡ k)
        go (inl a) (inl b) =
            let m : c ≡ length l.cuts = omega (arith, n) in
            let t : (entered job left.right ps).number ≡ suc k = rw (m, done-last job j i left l) at e in
            inr (rw (m, done-last job j i left l) (entered-last job left.top l.plates k b (omega (arith, entered-at-most job left.right ps))))
        go (inl a) (inr b) =
            let m : c ≡ length l.cuts = omega (arith, n) in
            inl (still (omega arith) (rw m (reached-met r k (omega (arith, sizes-after)) b)))
        go (inr a) b = old (before.right-after c k a (omega (arith, sizes-before, sizes-after)) (rw (done-cut job j i left l c a) at e)) a

    done-as-met : AsMet next
    done-as-met = record { top-after = top; right-after = right }

  pub reached-as-met : {j i : ℕ} {l : Listing} → Reached job j i l → AsMet l
  reached-as-met start = record { top-after = λ c k h. absurd (omega arith); right-after = λ c k h. absurd (omega arith) }
  reached-as-met (skipped r p q s) = reached-as-met r
  reached-as-met (row r p q) = reached-as-met r
  reached-as-met (done {j = j} {i = i} {l = l} r p q s) = done-as-met j i l r (reached-as-met r)
