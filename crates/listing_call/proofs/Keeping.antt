-- From which side on each residual of a cut is kept: by the least side of its plate, or by that of its item's position.
use mathlib.Core.Path.{◌≡◌, refl, sym, ap, ◌∙◌}
use Prim.Native.Nat.{ℕ, zero, suc, ◌-◌, ◌≤◌, ◌<◌}
use mathlib.Core.Bool.{Bool, true, false, cond}
use native.Mathlib.Omega.{arith}
use borrow.Author.Tests.{lt-leb, ne_eqb, eq-eqb}
use lib.Dec.{leb, eqb}
use Rattle.job.specs.declared.mode.Mode.{Mode}
use Rattle.job.specs.declared.item.Position.{Position}
use Rattle.job.specs.Mode.{three}
use Rattle.job.specs.Job.{Job, positions}
use Rattle.job.specs.Admitted.{Sided}
use Rattle.listing.specs.declared.plate.Plate.{Plate}
use Rattle.listing.specs.declared.plate.Residuals.{Residuals}
use Rattle.listing.specs.Plate.{plate, waste, stage_one, stage_two_of_two, stage_two_of_three, stage_three, leaves, kept}
use Rattle.listing.proofs.Residuals.{leaves_by}
use Rattle.listing.proofs.Kept.{kept-sides, waste-not-kept}
use Rattle.listing_positions.specs.Least.{along, divided, asks, least_from, least_of, no_side}
use Rattle.listing_positions.proofs.Leasts.{kept_from}
use Rattle.listing_call.specs.Steps.{KeptFrom, top_from, right_from}

-- what is asked of a plate that is divided in its height does not depend on the height
asked-high : (m : Mode) (p : Plate) (h : ℕ) → eqb p.stage 2 ≡ false → (item : Position) → asks m p item ≡ asks m (plate p.width h p.stage) item
unfolding asks
asked-high m p h e item = rw e

-- the divided side is one of the two
both-sides : (p : Plate) → (1 ≤ p.width) × (1 ≤ p.height) → divided p ≡ 0 → ⊥
unfolding along
both-sides p s d = go (eqb p.stage 2) d
  where
    go : (t : Bool) → cond t p.width p.height ≡ 0 → ⊥
    go true d = omega arith
    go false d = omega arith

module _ (job : Job) where
  -- a plate whose divided side and least side are these
  kept_by : (p : Plate) (side : ℕ) {least : ℕ} → divided p ≡ side → side < no_side → least ≡ least_of job p → KeptFrom job p side least
  kept_by p side d l e =
      record {
        test = kept_from job p (omega arith) ∙ ap (λ (x : ℕ). leb x (divided p)) (sym e) ∙ ap (leb _) d;
        is = λ _. e;
      }

  -- the least side of a plate that is divided in its height does not depend on the height
  least-high : (p : Plate) (h : ℕ) → (p.stage ≡ 2 → ⊥) → least_of job p ≡ least_of job (plate p.width h p.stage)
  unfolding least_of
  least-high p h f = ap (λ (g : Position → Bool). least_from g (λ item. along p.stage item.width item.height) no_side (positions job)) (λ i item. same_asked item i)
    where
      same_asked : (item : Position) → asks job.mode p item ≡ asks job.mode (plate p.width h p.stage) item
      same_asked item = asked-high job.mode p h (ne_eqb p.stage 2 f) item

  module _ (sided : Sided job) where
    -- a least side is at least 1: from a plate with a side of 0 nothing is cut
    least-some : (p : Plate) → divided p ≡ 0 → 1 ≤ least_of job p
    least-some p d = go (least_of job p) refl
      where
        go : (x : ℕ) → least_of job p ≡ x → 1 ≤ x
        go zero e =
            let k : kept job p ≡ true = kept_from job p (omega arith) ∙ rw (e, d) in
            absurd (both-sides p (kept-sides job sided p k) d)
        go (suc x) e = omega arith

    kept-none : {least : ℕ} → 1 ≤ least → KeptFrom job waste 0 least
    kept-none {least} h = record { test = waste-not-kept job sided ∙ sym (lt-leb least 0 h); is = λ k. absurd (omega (arith, kept-sides job sided waste k)) }

    -- the residuals of a cut, of an item with sides of at least 1
    module _ (m : Mode) (b : ℕ) (item : Position) (p : Plate) (least top right : ℕ) (wide : 1 ≤ item.width) (high : 1 ≤ item.height) (small : (p.width ≤ no_side) × (p.height ≤ no_side)) (el : least ≡ least_of job p) (et : top ≡ least_of job (plate item.width 0 3)) (er : right ≡ least_of job (plate 0 item.height 2)) where
      top-some : 1 ≤ top
      unfolding along
      top-some = rw et (least-some (plate item.width 0 3) refl)

      right-some : 1 ≤ right
      unfolding along
      right-some = rw er (least-some (plate 0 item.height 2) refl)

      -- both, by the row of document 01 that holds
      abbrev Both : Residuals → Type 0
      Both r = KeptFrom job r.top r.top.height (top_from p.stage least top) × KeptFrom job r.right r.right.width (right_from m p.stage least right)

      -- a right that is as high as the item, and a top of stage 3 that is as wide
      of_right : (w : ℕ) → w < no_side → KeptFrom job (plate w item.height 2) w right
      unfolding least_of along asks
      of_right w l = kept_by (plate w item.height 2) w refl l er

      of-top : (h : ℕ) → h < no_side → KeptFrom job (plate item.width h 3) h top
      unfolding least_of along asks
      of-top h l = kept_by (plate item.width h 3) h refl l et

      at_one : p.stage ≡ 1 → Both (stage_one b item p)
      unfolding top_from right_from along
      at_one e =
          let up = p.height - item.height - b in
          rw (eq-eqb p.stage 1 e) (
            kept_by (plate p.width up 1) up refl (omega arith) (el ∙ least-high p up (λ z. omega arith) ∙ ap (λ (s : ℕ). least_of job (plate p.width up s)) e),
            of_right (p.width - item.width - b) (omega arith),
          )

      at-two : p.stage ≡ 2 → three m ≡ false → Both (stage_two_of_two b item p)
      unfolding top_from right_from
      at-two e f = rw (ne_eqb p.stage 1 (λ z. omega arith), f) (kept-none top-some, of_right (p.width - item.width - b) (omega arith))

      at-two-three : p.stage ≡ 2 → three m ≡ true → Both (stage_two_of_three b item p)
      unfolding top_from right_from least_of along asks
      at-two-three e f =
          let across = p.width - item.width - b in
          let same : least_of job p ≡ least_of job (plate across p.height 2) = ap (λ (s : ℕ). least_of job (plate p.width p.height s)) e in
          rw (ne_eqb p.stage 1 (λ z. omega arith), f) (of-top (p.height - item.height - b) (omega arith), kept_by (plate across p.height 2) across refl (omega arith) (el ∙ same))

      -- of a plate that is divided in its height
      least-of : (p.stage ≡ 2 → ⊥) → 1 ≤ least
      unfolding along
      least-of f = rw (el, least-high p 0 f) (least-some (plate p.width 0 p.stage) (rw (ne_eqb p.stage 2 f)))

      at-three : (p.stage ≡ 1 → ⊥) → (p.stage ≡ 2 → ⊥) → Both (stage_three b item p)
      unfolding top_from right_from
      at-three e f = rw (ne_eqb p.stage 1 e) (of-top (p.height - item.height - b) (omega arith), kept-none (go (three m)))
        where
          go : (t : Bool) → 1 ≤ cond t least right
          go true = least-of f
          go false = right-some

      pub residuals-kept : Both (leaves m b item p)
      residuals-kept = leaves_by m b item p Both at_one at-two-three at-two at-three
