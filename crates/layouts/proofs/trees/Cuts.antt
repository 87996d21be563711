-- What a model says of a cut by its number: its item fits its plate, its residuals have their numbers and are smaller, and its pair is its own.
use Prim.Native.Nat.{ℕ, zero, suc, ◌+◌, ◌≤◌, ◌<◌}
use native.Mathlib.Omega.{arith}
use mathlib.Core.Path.{◌≡◌, refl, sym, ◌∙◌, ap}
use mathlib.Core.Bool.{Bool, true, false, cond}
use lib.Dec.{eqb}
use lib.ListN.{length}
use borrow.Author.Tests.{eqb-true}
use Rattle.job.specs.Job.{Job, position_at}
use Rattle.job.specs.Admitted.{Sided}
use Rattle.job.proofs.Sums.{bit, bit_or}
use Rattle.listing.specs.declared.plate.Plate.{Plate}
use Rattle.listing.specs.Plate.{kept}
use Rattle.listing.specs.Listing.{Listing, plate_at, cut_at}
use Rattle.listing.specs.Model.{Model, Numbered, left_by}
use Rattle.listing.proofs.ModelLaws.{numbered-kept, kept-numbered, one-cut as one_place}
use Rattle.listing.proofs.Residuals.{sides, stages-differ}
use Rattle.listing.proofs.Kept.{top-smaller, right-smaller, CutFrom}
use Rattle.plan.specs.Plan.{leaves_plate}
use Rattle.layouts.proofs.trees.Pattern.{branch, rest, branch_of, rest_of}

-- c is the number of a cut
abbrev pub IsCut : Listing → ℕ → Type 0
IsCut l c = (1 ≤ c) × (c ≤ length l.cuts)

-- the plate that a cut is on
abbrev pub plate_of : Listing → ℕ → Plate
plate_of l c = plate_at l (cut_at l c).plate

-- the sides of a plate type, added up
abbrev pub size_of : Listing → ℕ → ℕ
size_of l j = sides (plate_at l j)

-- what holds at each place holds of each number
of_number : (l : Listing) (P : ℕ → Type 0) → ((d : ℕ) → d < length l.cuts → P (suc d)) → (c : ℕ) → IsCut l c → P c
of_number l P h zero p = absurd (omega arith)
of_number l P h (suc d) p = h d (omega arith)

module _ (job : Job) (l : Listing) (m : Model job l) where
  -- the item of a cut may be cut from its plate
  pub cut_fits : (c : ℕ) → IsCut l c → CutFrom job (plate_of l c) (cut_at l c).item
  cut_fits =
      of_number l (λ c. CutFrom job (plate_of l c) (cut_at l c).item)
      (λ d p. record { from_one = (m.of-item d p).0; to_last = (m.of-item d p).1; allowed = m.permitted d p })

  -- the plate type of a cut is one of the listing
  pub cut-plate : (c : ℕ) → IsCut l c → (cut_at l c).plate < length l.plates
  cut-plate = of_number l (λ c. (cut_at l c).plate < length l.plates) m.on-plate

  -- top and right have their numbers
  pub top-number : (c : ℕ) → IsCut l c → Numbered job l (left_by job l (cut_at l c)).top (cut_at l c).top
  top-number = of_number l (λ c. Numbered job l (left_by job l (cut_at l c)).top (cut_at l c).top) m.top-numbered

  pub right-number : (c : ℕ) → IsCut l c → Numbered job l (left_by job l (cut_at l c)).right (cut_at l c).right
  right-number = of_number l (λ c. Numbered job l (left_by job l (cut_at l c)).right (cut_at l c).right) m.right-numbered

  -- the residual of the next stage and that of the cut's own stage have their numbers
  pub branch-number : (c : ℕ) → IsCut l c → Numbered job l (branch job (plate_of l c) (cut_at l c).item) (branch_of l c)
  branch-number c p = go (eqb (plate_of l c).stage 2)
    where
      go : (t : Bool) → Numbered job l (cond t (left_by job l (cut_at l c)).top (left_by job l (cut_at l c)).right) (cond t (cut_at l c).top (cut_at l c).right)
      go true = top-number c p
      go false = right-number c p

  pub rest-number : (c : ℕ) → IsCut l c → Numbered job l (rest job (plate_of l c) (cut_at l c).item) (rest_of l c)
  rest-number c p = go (eqb (plate_of l c).stage 2)
    where
      go : (t : Bool) → Numbered job l (cond t (left_by job l (cut_at l c)).right (left_by job l (cut_at l c)).top) (cond t (cut_at l c).right (cut_at l c).top)
      go true = right-number c p
      go false = top-number c p

  -- a number from 1 on is that of a kept plate
  pub number-kept : (q : Plate) (r : ℕ) → Numbered job l q r → 0 < r → (kept job q ≡ true) × (r < length l.plates) × (plate_at l r ≡ q) × (l.sizes ≤ r)
  number-kept q r n h =
      let k = numbered-kept job l q r n h in
      let z = kept-numbered job l q r n k in
      (k, z.1, z.2, omega (arith, z.3, m.sized))

  -- the numbers of kept residuals are above those of the sizes
  pub branch-above : (c : ℕ) → IsCut l c → 0 < branch_of l c → l.sizes ≤ branch_of l c
  branch-above c p h = (number-kept _ (branch_of l c) (branch-number c p) h).3

  pub rest-above : (c : ℕ) → IsCut l c → 0 < rest_of l c → l.sizes ≤ rest_of l c
  rest-above c p h = (number-kept _ (rest_of l c) (rest-number c p) h).3

  -- top and right are never one residual type, so a cut leaves each type once at most
  pub leaves-once : (k : ℕ) → 0 < k → (c : ℕ) → IsCut l c → bit (leaves_plate k (cut_at l c)) ≡ bit (eqb (branch_of l c) k) + bit (eqb (rest_of l c) k)
  unfolding leaves_plate
  leaves-once k h c p =
      bit_or (eqb (cut_at l c).top k) (eqb (cut_at l c).right k) both ∙ swapped (eqb (plate_of l c).stage 2)
    where
      both : eqb (cut_at l c).top k ≡ true → eqb (cut_at l c).right k ≡ true → ⊥
      both a b =
          let e = eqb-true (cut_at l c).top k a in
          let f = eqb-true (cut_at l c).right k b in
          let t = number-kept _ (cut_at l c).top (top-number c p) (omega arith) in
          let r = number-kept _ (cut_at l c).right (right-number c p) (omega arith) in
          let s : (left_by job l (cut_at l c)).top ≡ (left_by job l (cut_at l c)).right
          = sym t.2 ∙ ap (plate_at l) (e ∙ sym f) ∙ r.2 in
          stages-differ job.mode job.blade (position_at job (cut_at l c).item) (plate_of l c) (ap (λ (q : Plate). q.stage) s)

      swapped : (t : Bool) → bit (eqb (cut_at l c).top k) + bit (eqb (cut_at l c).right k)
          ≡ bit (eqb (cond t (cut_at l c).top (cut_at l c).right) k) + bit (eqb (cond t (cut_at l c).right (cut_at l c).top) k)
      swapped true = refl
      swapped false = omega arith

  -- a pair of a plate type and a position is one cut only
  pub one-cut : (c d : ℕ) → IsCut l c → IsCut l d → (cut_at l c).plate ≡ (cut_at l d).plate → (cut_at l c).item ≡ (cut_at l d).item → c ≡ d
  one-cut zero d p q e f = absurd (omega arith)
  one-cut (suc c) zero p q e f = absurd (omega arith)
  one-cut (suc c) (suc d) p q e f = ap suc (one_place job l m c d (omega arith) (omega arith) e f)

  -- residual types are smaller than the plate type that they are left of
  module _ (sided : Sided job) where
    smaller : (c : ℕ) → IsCut l c → (sides (left_by job l (cut_at l c)).top < size_of l (cut_at l c).plate) × (sides (left_by job l (cut_at l c)).right < size_of l (cut_at l c).plate)
    smaller c p =
        let f = cut_fits c p in
        (top-smaller job sided (plate_of l c) (cut_at l c).item f, right-smaller job sided (plate_of l c) (cut_at l c).item f)

    pub branch-smaller : (c : ℕ) → IsCut l c → 0 < branch_of l c → size_of l (branch_of l c) < size_of l (cut_at l c).plate
    branch-smaller c p h =
        omega (arith, ap sides (number-kept _ (branch_of l c) (branch-number c p) h).2, go (eqb (plate_of l c).stage 2))
      where
        go : (t : Bool) → sides (cond t (left_by job l (cut_at l c)).top (left_by job l (cut_at l c)).right) < size_of l (cut_at l c).plate
        go true = (smaller c p).0
        go false = (smaller c p).1

    pub rest-smaller : (c : ℕ) → IsCut l c → 0 < rest_of l c → size_of l (rest_of l c) < size_of l (cut_at l c).plate
    rest-smaller c p h =
        omega (arith, ap sides (number-kept _ (rest_of l c) (rest-number c p) h).2, go (eqb (plate_of l c).stage 2))
      where
        go : (t : Bool) → sides (cond t (left_by job l (cut_at l c)).right (left_by job l (cut_at l c)).top) < size_of l (cut_at l c).plate
        go true = (smaller c p).1
        go false = (smaller c p).0
