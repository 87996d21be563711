-- The law of one cut: item, residuals, trim and swath make the plate, for a blade of any width; so do item, kept residuals, waste and swath.
use Prim.Native.Nat.{ℕ, ◌+◌, ◌*◌, ◌-◌, ◌≤◌, min}
use native.Mathlib.Omega.{arith}
use mathlib.Core.Path.{◌≡◌, refl}
use mathlib.Core.Bool.{Bool, true, false, cond}
use lib.Dec.{eqb}
use Rattle.job.specs.declared.mode.Mode.{Mode}
use Rattle.job.specs.declared.item.Position.{Position}
use Rattle.job.specs.Mode.{three}
use Rattle.job.specs.Job.{Job}
use Rattle.listing.specs.declared.plate.Plate.{Plate}
use Rattle.listing.specs.Plate.{may_cut, leaves, kept}
use Rattle.listing.proofs.Plates.{may-cut}
use Rattle.listing.specs.Waste.{area, item_area, unkept, trim, waste_of, swath, swath_of}

-- the four kinds of cut, with w = wi + dx + rx and h = hi + dy + ry
module _ (w h wi hi dx rx dy ry : ℕ) (e : w ≡ wi + (dx + rx)) (f : h ≡ hi + (dy + ry)) where
  one : wi * hi + w * ry + rx * hi + 0 + (w * dy + dx * hi) ≡ w * h
  one = rw (e, f) (omega arith)

  two-three : wi * hi + wi * ry + rx * h + 0 + (dx * h + wi * dy) ≡ w * h
  two-three = rw (e, f) (omega arith)

  two : (g : ℕ) → g ≡ dy + ry → wi * hi + 0 + rx * hi + w * g + dx * hi ≡ w * h
  two g k = rw (k, e, f) (omega arith)

  stage-three : (g : ℕ) → g ≡ dx + rx → wi * hi + wi * ry + 0 + g * h + wi * dy ≡ w * h
  stage-three g k = rw (k, e, f) (omega arith)

split : (b x y : ℕ) → y ≤ x → x ≡ y + (min b (x - y) + (x - y - b))
split b x y h = omega arith

rest_of : (b x y : ℕ) → x - y ≡ min b (x - y) + (x - y - b)
rest_of b x y = omega arith

module _ (m : Mode) (item : Position) (p : Plate) (across : item.width ≤ p.width) (upwards : item.height ≤ p.height) where
  -- item, both residuals whether kept or not, trim and swath make the plate
  pub cut-area : (b : ℕ) → item_area item + area (leaves m b item p).top + area (leaves m b item p).right + trim m item p + swath m b item p ≡ area p
  unfolding leaves trim swath
  cut-area b = go (eqb p.stage 1) (eqb p.stage 2) (three m) refl refl refl
    where
      w : ℕ
      w = p.width

      h : ℕ
      h = p.height

      wi : ℕ
      wi = item.width

      hi : ℕ
      hi = item.height

      e : w ≡ wi + (min b (w - wi) + (w - wi - b))
      e = split b w wi across

      f : h ≡ hi + (min b (h - hi) + (h - hi - b))
      f = split b h hi upwards

      go : (s t u : Bool) → eqb p.stage 1 ≡ s → eqb p.stage 2 ≡ t → three m ≡ u
          → item_area item + area (leaves m b item p).top + area (leaves m b item p).right + trim m item p + swath m b item p ≡ area p
      go true t u i j k =
          rw (i, leaves, trim, swath) (one w h wi hi (min b (w - wi)) (w - wi - b) (min b (h - hi)) (h - hi - b) e f)
      go false true true i j k =
          rw (i, j, k, leaves, trim, swath) (two-three w h wi hi (min b (w - wi)) (w - wi - b) (min b (h - hi)) (h - hi - b) e f)
      go false true false i j k =
          rw (i, j, k, leaves, trim, swath)
          (two w h wi hi (min b (w - wi)) (w - wi - b) (min b (h - hi)) (h - hi - b) e f (h - hi) (rest_of b h hi))
      go false false u i j k =
          rw (i, j, leaves, trim, swath)
          (stage-three w h wi hi (min b (w - wi)) (w - wi - b) (min b (h - hi)) (h - hi - b) e f (w - wi) (rest_of b w wi))

-- the area of a residual, if it is kept
abbrev pub kept_area : Job → Plate → ℕ
kept_area job q = cond (kept job q) (area q) 0

kept_or_not : (job : Job) (q : Plate) → area q ≡ kept_area job q + unkept job q
unfolding unkept
kept_or_not job q = go (kept job q)
  where
    go : (t : Bool) → area q ≡ cond t (area q) 0 + cond t 0 (area q)
    go true = omega arith
    go false = omega arith

-- the law of one cut, with the job's blade
pub cut-balance : (job : Job) (item : Position) (p : Plate) → may_cut job.mode item p ≡ true
    → item_area item + (kept_area job (leaves job.mode job.blade item p).top + kept_area job (leaves job.mode job.blade item p).right) + waste_of job item p + swath_of job item p ≡ area p
unfolding waste_of swath_of
cut-balance job item p h =
    let f = may-cut job.mode item p h in
    omega (
      arith,
      kept_or_not job (leaves job.mode job.blade item p).top,
      kept_or_not job (leaves job.mode job.blade item p).right,
      cut-area job.mode item p f.in-width f.in-height job.blade,
    )

-- without a blade there is no swath
pub no-swath : (m : Mode) (item : Position) (p : Plate) → swath m 0 item p ≡ 0
unfolding swath
no-swath m item p = go (eqb p.stage 1) (eqb p.stage 2) (three m)
  where
    none : (x : ℕ) → min 0 x ≡ 0
    none x = omega arith

    go : (s t u : Bool) → cond s (p.width * min 0 (p.height - item.height) + min 0 (p.width - item.width) * item.height)
        (cond t (cond u (min 0 (p.width - item.width) * p.height + item.width * min 0 (p.height - item.height)) (min 0 (p.width - item.width) * item.height))
        (item.width * min 0 (p.height - item.height))) ≡ 0
    go true t u = simp none (omega arith)
    go false true true = simp none (omega arith)
    go false true false = simp none (omega arith)
    go false false u = simp none (omega arith)
