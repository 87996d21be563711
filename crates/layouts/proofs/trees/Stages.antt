-- The stages of a cut's residuals in a model: at stage 1 top is of stage 1 and right of stage 2, at stage 2 top of stage 3 and right of stage 2,
-- at stage 3 top of stage 3 and no right.
use Prim.Native.Nat.{ℕ, ◌<◌}
use native.Mathlib.Omega.{arith}
use mathlib.Core.Path.{◌≡◌, ◌∙◌, ap}
use mathlib.Core.Logic.{◌⊎◌, inl, inr}
use Rattle.job.specs.Job.{Job, position_at}
use Rattle.job.specs.Admitted.{Sided}
use Rattle.job.proofs.Tests.{not-both}
use Rattle.listing.specs.declared.plate.Plate.{Plate}
use Rattle.listing.specs.Plate.{waste}
use Rattle.listing.specs.Listing.{Listing, plate_at, cut_at}
use Rattle.listing.specs.Model.{Model, Numbered, left_by}
use Rattle.listing.proofs.Residuals.{stages-1, stages-2, stages-3}
use Rattle.listing.proofs.Kept.{waste-not-kept}
use Rattle.layouts.proofs.trees.Pattern.{branch_of, rest_of}
use Rattle.layouts.proofs.trees.Cuts.{IsCut, plate_of, top-number, right-number, number-kept}

-- a cut has the stage of the plate type that it is on
pub cut-stage : (l : Listing) (c j s : ℕ) → (cut_at l c).plate ≡ j → (plate_at l j).stage ≡ s → (plate_of l c).stage ≡ s
cut-stage l c j s e f = ap (λ (z : ℕ). (plate_at l z).stage) e ∙ f

-- a cut on a size is of stage 1
pub board-stage : (job : Job) (l : Listing) → Model job l → (c : ℕ) → (cut_at l c).plate < l.sizes → (plate_of l c).stage ≡ 1
board-stage job l m c h = ap (λ (q : Plate). q.stage) (m.first (cut_at l c).plate (omega (arith, m.sized)))

-- which residual is the branch and which the rest, by the stage
pub branch-1 : (l : Listing) (c : ℕ) → (plate_of l c).stage ≡ 1 → branch_of l c ≡ (cut_at l c).right
branch-1 l c e = rw e

pub rest-1 : (l : Listing) (c : ℕ) → (plate_of l c).stage ≡ 1 → rest_of l c ≡ (cut_at l c).top
rest-1 l c e = rw e

pub branch-2 : (l : Listing) (c : ℕ) → (plate_of l c).stage ≡ 2 → branch_of l c ≡ (cut_at l c).top
branch-2 l c e = rw e

pub rest-2 : (l : Listing) (c : ℕ) → (plate_of l c).stage ≡ 2 → rest_of l c ≡ (cut_at l c).right
rest-2 l c e = rw e

pub branch-3 : (l : Listing) (c : ℕ) → (plate_of l c).stage ≡ 3 → branch_of l c ≡ (cut_at l c).right
branch-3 l c e = rw e

pub rest-3 : (l : Listing) (c : ℕ) → (plate_of l c).stage ≡ 3 → rest_of l c ≡ (cut_at l c).top
rest-3 l c e = rw e

module _ (job : Job) (l : Listing) (m : Model job l) (sided : Sided job) where
  -- waste has no number but 0
  waste-number : (q : Plate) (r : ℕ) → Numbered job l q r → q ≡ waste → r ≡ 0
  waste-number q r (inl z) e = z.1
  waste-number q r (inr z) e =
      absurd (not-both (rw e at z.0) (waste-not-kept job sided))

  -- a residual type has the stage of its plate
  number-stage : (q : Plate) (r s : ℕ) → Numbered job l q r → q.stage ≡ s → 0 < r → (plate_at l r).stage ≡ s
  number-stage q r s k e h = ap (λ (p : Plate). p.stage) (number-kept job l m q r k h).2 ∙ e

  module _ (c : ℕ) (i : IsCut l c) where
    -- the stages of top and right, by the stage of the cut
    pub top-1 : (plate_of l c).stage ≡ 1 → 0 < (cut_at l c).top → (plate_at l (cut_at l c).top).stage ≡ 1
    top-1 e = number-stage _ (cut_at l c).top 1 (top-number job l m c i) (stages-1 job.mode job.blade (position_at job (cut_at l c).item) (plate_of l c) e).0

    pub right-1 : (plate_of l c).stage ≡ 1 → 0 < (cut_at l c).right → (plate_at l (cut_at l c).right).stage ≡ 2
    right-1 e = number-stage _ (cut_at l c).right 2 (right-number job l m c i) (stages-1 job.mode job.blade (position_at job (cut_at l c).item) (plate_of l c) e).1

    pub top-2 : (plate_of l c).stage ≡ 2 → 0 < (cut_at l c).top → (plate_at l (cut_at l c).top).stage ≡ 3
    top-2 e h = go (stages-2 job.mode job.blade (position_at job (cut_at l c).item) (plate_of l c) e).0
      where
        go : ((left_by job l (cut_at l c)).top ≡ waste) ⊎ ((left_by job l (cut_at l c)).top.stage ≡ 3) → (plate_at l (cut_at l c).top).stage ≡ 3
        go (inl w) = absurd (omega (arith, waste-number _ (cut_at l c).top (top-number job l m c i) w))
        go (inr s) = number-stage _ (cut_at l c).top 3 (top-number job l m c i) s h

    pub right-2 : (plate_of l c).stage ≡ 2 → 0 < (cut_at l c).right → (plate_at l (cut_at l c).right).stage ≡ 2
    right-2 e = number-stage _ (cut_at l c).right 2 (right-number job l m c i) (stages-2 job.mode job.blade (position_at job (cut_at l c).item) (plate_of l c) e).1

    pub top-3 : (plate_of l c).stage ≡ 3 → 0 < (cut_at l c).top → (plate_at l (cut_at l c).top).stage ≡ 3
    top-3 e = number-stage _ (cut_at l c).top 3 (top-number job l m c i) (stages-3 job.mode job.blade (position_at job (cut_at l c).item) (plate_of l c) e).0

    pub right-3 : (plate_of l c).stage ≡ 3 → (cut_at l c).right ≡ 0
    right-3 e = waste-number _ (cut_at l c).right (right-number job l m c i) (stages-3 job.mode job.blade (position_at job (cut_at l c).item) (plate_of l c) e).1

    -- the rest is of the cut's own stage, the branch of the next; at stage 3 there is none
    pub rest-stage-1 : (plate_of l c).stage ≡ 1 → 0 < rest_of l c → (plate_at l (rest_of l c)).stage ≡ 1
    rest-stage-1 e = rw (rest-1 l c e) (top-1 e)

    pub branch-stage-1 : (plate_of l c).stage ≡ 1 → 0 < branch_of l c → (plate_at l (branch_of l c)).stage ≡ 2
    branch-stage-1 e = rw (branch-1 l c e) (right-1 e)

    pub rest-stage-2 : (plate_of l c).stage ≡ 2 → 0 < rest_of l c → (plate_at l (rest_of l c)).stage ≡ 2
    rest-stage-2 e = rw (rest-2 l c e) (right-2 e)

    pub branch-stage-2 : (plate_of l c).stage ≡ 2 → 0 < branch_of l c → (plate_at l (branch_of l c)).stage ≡ 3
    branch-stage-2 e = rw (branch-2 l c e) (top-2 e)

    pub rest-stage-3 : (plate_of l c).stage ≡ 3 → 0 < rest_of l c → (plate_at l (rest_of l c)).stage ≡ 3
    rest-stage-3 e = rw (rest-3 l c e) (top-3 e)

    pub branch-stage-3 : (plate_of l c).stage ≡ 3 → branch_of l c ≡ 0
    branch-stage-3 e = branch-3 l c e ∙ right-3 e
