-- A cut pattern of a plate of stage 1, 2 or 3, taken apart: what is asked of its first item, and the plates of its branch and its rest.
use Prim.Native.Nat.{ℕ, ◌-◌, ◌≤◌}
use native.Mathlib.Omega.{arith}
use mathlib.Core.Path.{◌≡◌, refl}
use mathlib.Core.Logic.{◌↔◌}
use mathlib.Core.Bool.{true, false}
use Rattle.job.specs.Mode.{three, exact}
use Rattle.job.specs.Job.{Job, position_at}
use Rattle.job.specs.Admitted.{Sided}
use Rattle.job.proofs.Tests.{not-both}
use Rattle.job.proofs.Positions.{permitted-range, permitted-lies, lies-permitted}
use Rattle.listing.specs.declared.plate.Plate.{Plate}
use Rattle.listing.specs.Plate.{plate, waste, leaves}
use Rattle.listing.proofs.Plates.{may-cut, cut-may}
use Rattle.listing.proofs.Kept.{CutFrom}
use Rattle.layouts.specs.Layout.{width_of, height_of}
use Rattle.layouts.specs.Rules.{OfJob}
use Rattle.layouts.proofs.trees.Tree.{Tree, leaf, node}
use Rattle.layouts.proofs.trees.Pattern.{Pattern}

-- an item type of the job in a permitted position that is at most w wide and h high
pub record Within (job : Job) (w h i : ℕ) : Type 0 where
  pub type : OfJob job i
  pub wide : width_of job i ≤ w
  pub high : height_of job i ≤ h

module _ (job : Job) where
  -- an item that lies in a permitted position has sides of at least 1
  pub laid-sides : Sided job → (i : ℕ) → OfJob job i → (1 ≤ width_of job i) × (1 ≤ height_of job i)
  unfolding width_of height_of
  laid-sides sided i t = sided i (lies-permitted job i t)

  -- an item type that may be cut from a plate is within its sides
  cut-within : (p : Plate) (i : ℕ) → CutFrom job p i → Within job p.width p.height i
  unfolding width_of height_of
  cut-within p i f =
      let r = may-cut job.mode (position_at job i) p f.allowed in
      record { type = permitted-lies job i r.allowed; wide = r.in-width; high = r.in-height }

  -- and one within them may be cut if it fits as exactly as the mode asks
  within-cut :
      (p : Plate) (i : ℕ)
      → Within job p.width p.height i
      → (exact job.mode ≡ true → three job.mode ≡ false → p.stage ≡ 2 → height_of job i ≡ p.height)
      → (exact job.mode ≡ true → three job.mode ≡ true → p.stage ≡ 3 → width_of job i ≡ p.width)
      → CutFrom job p i
  unfolding width_of height_of
  within-cut p i q high wide =
      record {
        from_one = omega (arith, (permitted-range job i (lies-permitted job i q.type)).0);
        to_last = (permitted-range job i (lies-permitted job i q.type)).1;
        allowed = cut-may job.mode (position_at job i) p (record { allowed = lies-permitted job i q.type; in-width = q.wide; in-height = q.high; just-height = high; just-width = wide });
      }

  -- stage 1: a strip beside the item, and further strips above
  pub cut-1 :
      (w h i : ℕ) (a b : Tree)
      → Pattern job (plate w h 1) (node i a b)
      ↔ (Within job w h i × Pattern job (plate (w - width_of job i - job.blade) (height_of job i) 2) a × Pattern job (plate w (h - height_of job i - job.blade) 1) b)
  unfolding leaves width_of height_of
  cut-1 w h i a b = (
    λ p. (cut-within (plate w h 1) i p.0, p.1, p.2),
    λ q. (within-cut (plate w h 1) i q.0 (λ e t s. absurd (omega arith)) (λ e t s. absurd (omega arith)), q.1, q.2),
  )

  -- stage 2 of three: further items of the stack above, and further stacks beside
  pub cut-2-three :
      (w h i : ℕ) (a b : Tree)
      → three job.mode ≡ true
      → Pattern job (plate w h 2) (node i a b)
      ↔ (Within job w h i × Pattern job (plate (width_of job i) (h - height_of job i - job.blade) 3) a × Pattern job (plate (w - width_of job i - job.blade) h 2) b)
  unfolding leaves width_of height_of
  cut-2-three w h i a b t = (
    λ p. (cut-within (plate w h 2) i p.0, rw t at p.1, rw t at p.2),
    λ q. (
      within-cut (plate w h 2) i q.0 (λ e u s. absurd (not-both t u)) (λ e u s. absurd (omega arith)),
      rw t q.1,
      rw t q.2,
    ),
  )

  -- stage 2 of two: waste above, and further items beside, no higher than this one
  pub cut-2-two :
      (w h i : ℕ) (a b : Tree)
      → three job.mode ≡ false
      → Pattern job (plate w h 2) (node i a b)
      ↔ (Within job w h i
      × (exact job.mode ≡ true → height_of job i ≡ h)
      × Pattern job waste a
      × Pattern job (plate (w - width_of job i - job.blade) (height_of job i) 2) b)
  unfolding leaves width_of height_of
  cut-2-two w h i a b t = (
    λ p.
        let r = may-cut job.mode (position_at job i) (plate w h 2) p.0.allowed in
        (cut-within (plate w h 2) i p.0, (λ e. r.just-height e t refl), rw t at p.1, rw t at p.2),
    λ q. (within-cut (plate w h 2) i q.0 (λ e u s. q.1 e) (λ e u s. absurd (omega arith)), rw t q.2, rw t q.3),
  )

  -- stage 3: waste beside, and further items of the stack above, no wider than this one
  pub cut-3 :
      (w h i : ℕ) (a b : Tree)
      → three job.mode ≡ true
      → Pattern job (plate w h 3) (node i a b)
      ↔ (Within job w h i
      × (exact job.mode ≡ true → width_of job i ≡ w)
      × Pattern job waste a
      × Pattern job (plate (width_of job i) (h - height_of job i - job.blade) 3) b)
  unfolding leaves width_of height_of
  cut-3 w h i a b t = (
    λ p.
        let r = may-cut job.mode (position_at job i) (plate w h 3) p.0.allowed in
        (cut-within (plate w h 3) i p.0, (λ e. r.just-width e t refl), p.1, p.2),
    λ q. (within-cut (plate w h 3) i q.0 (λ e u s. absurd (omega arith)) (λ e u s. q.1 e), q.2, q.3),
  )

  -- nothing is cut from waste, where every item is at least 1 wide
  pub waste-leaf : Sided job → (x : Tree) → Pattern job waste x → x ≡ leaf
  waste-leaf sided leaf p = refl
  waste-leaf sided (node i a b) p =
      let f = cut-within waste i p.0 in absurd (omega (arith, f.wide, (laid-sides sided i f.type).0))
