-- What follows from the model: a pair is one cut, the cuts on a plate type are numbered in a row, and no residual has the number of a size.
use Prim.Native.Nat.{ℕ, suc, ◌≤◌, ◌<◌}
use native.Mathlib.Omega.{arith}
use mathlib.Core.Path.{◌≡◌, sym}
use mathlib.Core.Logic.{◌⊎◌, inl, inr}
use mathlib.Core.Bool.{true}
use lib.ListN.{length}
use Rattle.job.specs.Job.{Job}
use Rattle.job.proofs.Tests.{not-both, at-most-or-above}
use Rattle.listing.specs.declared.plate.Plate.{Plate}
use Rattle.listing.specs.Plate.{kept}
use Rattle.listing.specs.Listing.{Cut, Listing, plate_at, cut_at}
use Rattle.listing.specs.Model.{Model, Numbered, Before}

-- a cut does not come before one of the same pair
pub before-not : (c d : Cut) → c.plate ≡ d.plate → c.item ≡ d.item → Before c d → ⊥
before-not c d e f (inl h) = omega arith
before-not c d e f (inr h) = omega (arith, h.1)

-- a cut that comes before another is on a plate type that is no higher
pub before-plate : (c d : Cut) → Before c d → c.plate ≤ d.plate
before-plate c d (inl h) = omega arith
before-plate c d (inr h) = omega (arith, h.0)

-- the number of a residual is that of a plate type, or 0, which is a size's
pub numbered_below : (job : Job) (l : Listing) (q : Plate) (r : ℕ) → 0 < length l.plates → Numbered job l q r → r < length l.plates
numbered_below job l q r h (inl z) = omega (arith, z.1)
numbered_below job l q r h (inr z) = z.2

-- it is 0 exactly where it is not kept
pub numbered-kept : (job : Job) (l : Listing) (q : Plate) (r : ℕ) → Numbered job l q r → 0 < r → kept job q ≡ true
numbered-kept job l q r (inl z) h = absurd (omega (arith, z.1))
numbered-kept job l q r (inr z) h = z.0

pub kept-numbered :
    (job : Job) (l : Listing) (q : Plate) (r : ℕ)
    → Numbered job l q r
    → kept job q ≡ true
    → (0 < r) × (r < length l.plates) × (plate_at l r ≡ q) × (length job.sizes ≤ r)
kept-numbered job l q r (inl z) h = absurd (not-both h z.0)
kept-numbered job l q r (inr z) h = (z.1, z.2, z.3, z.4)

module _ (job : Job) (l : Listing) (m : Model job l) where
  -- a pair is one cut only
  pub one-cut :
      (c d : ℕ)
      → c < length l.cuts
      → d < length l.cuts
      → (cut_at l (suc c)).plate ≡ (cut_at l (suc d)).plate
      → (cut_at l (suc c)).item ≡ (cut_at l (suc d)).item
      → c ≡ d
  one-cut c d p q e f = go (at-most-or-above c d) (at-most-or-above d c)
    where
      go : (c ≤ d) ⊎ (d < c) → (d ≤ c) ⊎ (c < d) → c ≡ d
      go (inl a) (inl b) = omega arith
      go (inl a) (inr b) = absurd (before-not (cut_at l (suc c)) (cut_at l (suc d)) e f (m.rising c d b q))
      go (inr a) b = absurd (before-not (cut_at l (suc d)) (cut_at l (suc c)) (sym e) (sym f) (m.rising d c a p))

  -- plate types of cuts do not fall
  pub plates-rise : (c d : ℕ) → c ≤ d → d < length l.cuts → (cut_at l (suc c)).plate ≤ (cut_at l (suc d)).plate
  plates-rise c d p q = go (at-most-or-above d c)
    where
      go : (d ≤ c) ⊎ (c < d) → (cut_at l (suc c)).plate ≤ (cut_at l (suc d)).plate
      go (inl a) = let e : c ≡ d = omega arith in rw e (omega arith)
      go (inr a) = before-plate (cut_at l (suc c)) (cut_at l (suc d)) (m.rising c d a q)

  -- the cuts between two cuts on one plate type are on it too
  pub in_a_row :
      (j b c d : ℕ)
      → b ≤ c
      → c ≤ d
      → d < length l.cuts
      → (cut_at l (suc b)).plate ≡ j
      → (cut_at l (suc d)).plate ≡ j
      → (cut_at l (suc c)).plate ≡ j
  in_a_row j b c d p q h e f = omega (arith, plates-rise b c p (omega arith), plates-rise c d q h)

  -- a residual's number is above those of the sizes: a residual equal to a size has a number of its own
  pub residual-number : (q : Plate) (r : ℕ) → Numbered job l q r → 0 < r → l.sizes ≤ r
  residual-number q r (inl z) h = absurd (omega (arith, z.1))
  residual-number q r (inr z) h = omega (arith, z.4, m.sized)
