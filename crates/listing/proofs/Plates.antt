-- Document 01, "Plates and cuts": when two plates are of one type, and which item may be cut from which plate.
use Prim.Native.Nat.{◌≤◌}
use mathlib.Core.Path.{◌≡◌, refl, ap}
use mathlib.Core.Bool.{Bool, true, false, cond, not, ◌&&◌, ◌||◌}
use lib.Dec.{leb, eqb}
use borrow.Author.Tests.{eqb-true, eq-eqb, leb-true, le-leb}
use Rattle.job.specs.declared.mode.Mode.{Mode}
use Rattle.job.specs.declared.item.Position.{Position}
use Rattle.job.specs.Mode.{three, exact}
use Rattle.job.proofs.Tests.{not-both, and_left, and_right}
use Rattle.listing.specs.declared.plate.Plate.{Plate}
use Rattle.listing.specs.Plate.{same, exact_fit, may_cut}

-- plates of one type are equal
pub same-equal : (p q : Plate) → same p q ≡ true → p ≡ q
unfolding same
same-equal p q h =
    let a = eqb p.width q.width in
    let b = eqb p.height q.height in
    let c = eqb p.stage q.stage in
    let ab = and_left (a && b) c h in
    let w = eqb-true p.width q.width (and_left a b ab) in
    let v = eqb-true p.height q.height (and_right a b ab) in
    let s = eqb-true p.stage q.stage (and_right (a && b) c h) in
    λ i. record { width = w i; height = v i; stage = s i }

pub equal-same : (p q : Plate) → p ≡ q → same p q ≡ true
unfolding same
equal-same p q e =
    rw (
      eq-eqb p.width q.width (ap (λ (r : Plate). r.width) e),
      eq-eqb p.height q.height (ap (λ (r : Plate). r.height) e),
      eq-eqb p.stage q.stage (ap (λ (r : Plate). r.stage) e),
    )

pub same-differ : (p q : Plate) → same p q ≡ false → p ≡ q → ⊥
same-differ p q h e = not-both (equal-same p q e) h

-- the item, in a permitted position, may be cut from the plate
pub record Permitted (m : Mode) (item : Position) (p : Plate) : Type 0 where
  pub allowed : item.allowed ≡ true
  pub in-width : item.width ≤ p.width
  pub in-height : item.height ≤ p.height
  pub just-height : exact m ≡ true → three m ≡ false → p.stage ≡ 2 → item.height ≡ p.height
  pub just-width : exact m ≡ true → three m ≡ true → p.stage ≡ 3 → item.width ≡ p.width

pub may-cut : (m : Mode) (item : Position) (p : Plate) → may_cut m item p ≡ true → Permitted m item p
unfolding may_cut exact_fit
may-cut m item p h =
    let a = leb item.width p.width in
    let b = leb item.height p.height in
    let oab = and_left (item.allowed && a && b) (exact_fit m item p) h in
    let oa = and_left (item.allowed && a) b oab in
    let c = and_right (item.allowed && a && b) (exact_fit m item p) h in
    record {
      allowed = and_left item.allowed a oa;
      in-width = leb-true item.width p.width (and_right item.allowed a oa);
      in-height = leb-true item.height p.height (and_right (item.allowed && a) b oab);
      just-height = λ e t s. eqb-true item.height p.height (rw (e, t, s) at c);
      just-width = λ e t s. eqb-true item.width p.width (rw (e, t, s) at c);
    }

pub cut-may : (m : Mode) (item : Position) (p : Plate) → Permitted m item p → may_cut m item p ≡ true
unfolding may_cut exact_fit
cut-may m item p r =
    rw (r.allowed, le-leb item.width p.width r.in-width, le-leb item.height p.height r.in-height)
    (go (exact m) (three m) (eqb p.stage 2) (eqb p.stage 3)
    (λ e t s. eq-eqb _ _ (r.just-height e t (eqb-true p.stage 2 s)))
    (λ e t s. eq-eqb _ _ (r.just-width e t (eqb-true p.stage 3 s))))
  where
    go :
        (e t two last : Bool)
        → (e ≡ true → t ≡ false → two ≡ true → eqb item.height p.height ≡ true)
        → (e ≡ true → t ≡ true → last ≡ true → eqb item.width p.width ≡ true)
        → cond e (cond t (not last || eqb item.width p.width) (not two || eqb item.height p.height)) true ≡ true
    go false t two last f g = refl
    go true true two false f g = refl
    go true true two true f g = g refl refl refl
    go true false false last f g = refl
    go true false true last f g = f refl refl refl
