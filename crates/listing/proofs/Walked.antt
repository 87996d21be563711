-- What is true of the listing at every place of the walk: before position i of plate type j.
use Prim.Native.Nat.{ℕ, suc, ◌≤◌, ◌<◌}
use native.Mathlib.Omega.{arith}
use mathlib.Core.Path.{◌≡◌, refl, sym, ◌∙◌}
use mathlib.Core.Logic.{◌⊎◌, inl, inr}
use mathlib.Core.List.{[], map}
use lib.ListN.{length}
use Rattle.job.specs.Job.{Job, positions, position_at}
use Rattle.job.specs.Admitted.{Sided}
use Rattle.job.proofs.Tests.{at-most-or-above, equal_or_not}
use Rattle.listing.specs.declared.plate.Plate.{Plate}
use Rattle.listing.specs.declared.plate.Residuals.{Residuals}
use Rattle.listing.specs.Plate.{board, waste, leaves}
use Rattle.listing.specs.Listing.{Cut, Listing, plate_at, cut_at, entered, cut_done}
use Rattle.listing.specs.Model.{Numbered, Before, left_by}
use Rattle.listing.proofs.Kept.{CutFrom, top-staged, right-staged}
use Rattle.listing.proofs.Steps.{cut_made, done-sizes, done-plates}
use Rattle.listing.proofs.Growth.{Longer, longer-same, entered-longer, done-longer, done-plate, done-count, done-cut, done-last}
use Rattle.listing.proofs.PlateTypes.{PlatesOk, boards-ok, entered-ok, entered-numbered}

-- pair (k, x) comes before pair (j, i) in the walk
abbrev pub Passed : ℕ → ℕ → ℕ → ℕ → Type 0
Passed j i k x = (k < j) ⊎ ((k ≡ j) × (x < i))

pub passed-next : {j i k x : ℕ} → Passed j i k x → Passed j (suc i) k x
passed-next (inl h) = inl h
passed-next (inr h) = inr (h.0, omega (arith, h.1))

-- the pair of plate type k and position x is a cut of the listing
abbrev pub IsCut : Listing → ℕ → ℕ → Type 0
IsCut l k x = (c : ℕ) × (c < length l.cuts) × ((cut_at l (suc c)).plate ≡ k) × ((cut_at l (suc c)).item ≡ x)

module _ (job : Job) where
  -- a cut of the listing: a permitted pair, with the numbers of its residuals
  pub record CutOk (l : Listing) (c : Cut) : Type 0 where
    pub on-plate : c.plate < length l.plates
    pub fits : CutFrom job (plate_at l c.plate) c.item
    pub top-numbered : Numbered job l (left_by job l c).top c.top
    pub right-numbered : Numbered job l (left_by job l c).right c.right

  numbered-longer : (l l' : Listing) → Longer waste l.plates l'.plates → (q : Plate) (r : ℕ) → Numbered job l q r → Numbered job l' q r
  unfolding plate_at
  numbered-longer l l' m q r (inl z) = inl z
  numbered-longer l l' m q r (inr z) = inr (z.0, z.1, omega (arith, z.2, m.no-fewer), m.keeps r z.2 ∙ z.3, z.4)

  -- more plate types change nothing of a cut
  pub cut-longer : (l l' : Listing) → Longer waste l.plates l'.plates → (c : Cut) → CutOk l c → CutOk l' c
  unfolding plate_at
  cut-longer l l' m c k =
      let e : plate_at l' c.plate ≡ plate_at l c.plate = m.keeps c.plate k.on-plate in
      record {
        on-plate = omega (arith, k.on-plate, m.no-fewer);
        fits = rw e k.fits;
        top-numbered = rw e (numbered-longer l l' m _ c.top k.top-numbered);
        right-numbered = rw e (numbered-longer l l' m _ c.right k.right-numbered);
      }

  -- the plate types before j are done, and of plate type j the positions before i
  pub record Walked (j i : ℕ) (l : Listing) : Type 0 where
    pub sizes-ok : l.sizes ≡ length job.sizes
    pub plates-ok : PlatesOk job l.plates
    pub here : j ≤ length l.plates
    pub cuts-ok : (c : ℕ) → c < length l.cuts → CutOk l (cut_at l (suc c))
    pub passed : (c : ℕ) → c < length l.cuts → Passed j i (cut_at l (suc c)).plate (cut_at l (suc c)).item
    pub each : (k x : ℕ) → k < length l.plates → Passed j i k x → CutFrom job (plate_at l k) x → IsCut l k x
    pub rising : (c d : ℕ) → c < d → d < length l.cuts → Before (cut_at l (suc c)) (cut_at l (suc d))

  -- the sizes alone, before the first pair
  pub walked_start : 0 < length job.sizes → Walked 0 1 (record { sizes = length job.sizes; plates = map board job.sizes; cuts = [] })
  walked_start some =
      record {
        sizes-ok = refl;
        plates-ok = boards-ok job some;
        here = omega arith;
        cuts-ok = λ c h. absurd (omega arith);
        passed = λ c h. absurd (omega arith);
        each = λ k x h p f. absurd (none p f);
        rising = λ c d h g. absurd (omega arith);
      }
    where
      none : {k x : ℕ} {q : Plate} → Passed 0 1 k x → CutFrom job q x → ⊥
      none (inl h) f = omega arith
      none (inr h) f = omega (arith, h.1, f.from_one)

  -- a pair that is not permitted
  pub walked_skip : (j i : ℕ) (l : Listing) → Walked j i l → (CutFrom job (plate_at l j) i → ⊥) → Walked j (suc i) l
  walked_skip j i l v not-fit =
      record {
        sizes-ok = v.sizes-ok;
        plates-ok = v.plates-ok;
        here = v.here;
        cuts-ok = v.cuts-ok;
        passed = λ c h. passed-next (v.passed c h);
        each = find;
        rising = v.rising;
      }
    where
      find : (k x : ℕ) → k < length l.plates → Passed j (suc i) k x → CutFrom job (plate_at l k) x → IsCut l k x
      find k x h (inl p) f = v.each k x h (inl p) f
      find k x h (inr p) f = go (equal_or_not x i)
        where
          go : (x ≡ i) ⊎ (x ≡ i → ⊥) → IsCut l k x
          go (inl e) = absurd (not-fit (rw (p.0, e) at f))
          go (inr e) = v.each k x h (inr (p.0, omega (arith, p.1))) f

  -- the end of a plate type's positions
  pub walked_row : (j i : ℕ) (l : Listing) → Walked j i l → length (positions job) < i → j < length l.plates → Walked (suc j) 1 l
  walked_row j i l v n b =
      record {
        sizes-ok = v.sizes-ok;
        plates-ok = v.plates-ok;
        here = b;
        cuts-ok = v.cuts-ok;
        passed = λ c h. inl (up (v.passed c h));
        each = find;
        rising = v.rising;
      }
    where
      up : {k x : ℕ} → Passed j i k x → k < suc j
      up (inl h) = omega arith
      up (inr h) = omega (arith, h.0)

      find : (k x : ℕ) → k < length l.plates → Passed (suc j) 1 k x → CutFrom job (plate_at l k) x → IsCut l k x
      find k x h (inr p) f = absurd (omega (arith, p.1, f.from_one))
      find k x h (inl p) f = go (equal_or_not k j)
        where
          go : (k ≡ j) ⊎ (k ≡ j → ⊥) → IsCut l k x
          go (inl e) = v.each k x h (inr (e, omega (arith, f.to_last))) f
          go (inr e) = v.each k x h (inl (omega arith)) f

  module _ (sided : Sided job) (j i : ℕ) (l : Listing) (v : Walked j i l) (b : j < length l.plates) (f : CutFrom job (plate_at l j) i) where
    abbrev left : Residuals
    left = leaves job.mode job.blade (position_at job i) (plate_at l j)

    abbrev next : Listing
    next = cut_done job j i left l

    -- the plate types with the top among them
    top-ok : PlatesOk job (entered job left.top l.plates).plates
    top-ok =
        entered-ok job left.top l.plates v.plates-ok
        (top-staged job sided (plate_at l j) (position_at job i))

    -- and then the right
    right-ok : PlatesOk job next.plates
    right-ok =
        rw (done-plates job j i left l)
        (entered-ok job left.right (entered job left.top l.plates).plates top-ok
        (right-staged job sided (plate_at l j) (position_at job i)))

    -- the cut that is added
    abbrev added : Cut
    added = cut_made job j i left l.plates

    added-ok : CutOk next added
    added-ok =
        let e : plate_at next j ≡ plate_at l j = done-plate job j i left l j b in
        let ps = (entered job left.top l.plates).plates in
        let top : Numbered job next left.top added.top
        = entered-numbered job left.top l.plates v.plates-ok
        (top-staged job sided (plate_at l j) (position_at job i))
        next (rw (done-plates job j i left l) (entered-longer job left.right ps)) in
        let right : Numbered job next left.right added.right
        = entered-numbered job left.right ps top-ok
        (right-staged job sided (plate_at l j) (position_at job i))
        next (rw (done-plates job j i left l) (longer-same waste (entered job left.right ps).plates)) in
        record {
          on-plate = omega (arith, (done-longer job j i left l).no-fewer);
          fits = rw e f;
          top-numbered = rw e top;
          right-numbered = rw e right;
        }

    n : length next.cuts ≡ suc (length l.cuts)
    n = done-count job j i left l

    -- what holds of the cuts before and of the cut that is added holds of all
    every :
        (Q : Cut → Type 0)
        → ((c : ℕ) → c < length l.cuts → Q (cut_at l (suc c)))
        → Q added
        → (c : ℕ)
        → c < length next.cuts
        → Q (cut_at next (suc c))
    every Q g a c h = go (at-most-or-above (length l.cuts) c)
      where
        go : (length l.cuts ≤ c) ⊎ (c < length l.cuts) → Q (cut_at next (suc c))
        go (inl p) =
            let e : c ≡ length l.cuts = omega (arith, n) in
            rw (e, done-last job j i left l) a
        go (inr p) = rw (done-cut job j i left l c p) (g c p)

    still : {k x : ℕ} → IsCut l k x → IsCut next k x
    still (c, h, p, q) = (c, omega (arith, n), rw (done-cut job j i left l c h) p, rw (done-cut job j i left l c h) q)

    find : (k x : ℕ) → k < length next.plates → Passed j (suc i) k x → CutFrom job (plate_at next k) x → IsCut next k x
    find k x h (inl p) g =
        let m : k < length l.plates = omega (arith, v.here) in
        still (v.each k x m (inl p) (rw (done-plate job j i left l k m) at g))
    find k x h (inr p) g = go (equal_or_not x i)
      where
        m : k < length l.plates
        m = omega (arith, p.0)

        go : (x ≡ i) ⊎ (x ≡ i → ⊥) → IsCut next k x
        go (inl e) = (length l.cuts, omega (arith, n), rw (done-last job j i left l) (sym p.0), rw (done-last job j i left l) (sym e))
        go (inr e) = still (v.each k x m (inr (p.0, omega (arith, p.1))) (rw (done-plate job j i left l k m) at g))

    rises : (c d : ℕ) → c < d → d < length next.cuts → Before (cut_at next (suc c)) (cut_at next (suc d))
    rises c d h g = rw (done-cut job j i left l c p) (go (at-most-or-above (length l.cuts) d))
      where
        p : c < length l.cuts
        p = omega (arith, n)

        go : (length l.cuts ≤ d) ⊎ (d < length l.cuts) → Before (cut_at l (suc c)) (cut_at next (suc d))
        go (inl q) =
            let e : d ≡ length l.cuts = omega (arith, n) in
            rw (e, done-last job j i left l) (v.passed c p)
        go (inr q) = rw (done-cut job j i left l d q) (v.rising c d h q)

    -- a permitted pair
    pub walked-cut : Walked j (suc i) next
    walked-cut =
        record {
          sizes-ok = rw (done-sizes job j i left l) v.sizes-ok;
          plates-ok = right-ok;
          here = omega (arith, (done-longer job j i left l).no-fewer);
          cuts-ok = every (CutOk next) (λ c h. cut-longer l next (done-longer job j i left l) (cut_at l (suc c)) (v.cuts-ok c h)) added-ok;
          passed = every (λ z. Passed j (suc i) z.plate z.item) (λ c h. passed-next (v.passed c h)) (inr (refl, omega arith));
          each = find;
          rising = rises;
        }
