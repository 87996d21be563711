-- Document 01, "Plates and cuts": plate types, what may be cut from one, what the cut leaves, and which residuals are kept.
use Rattle.std.specs.Prelude.{ℕ, ◌-◌, Bool, true, cond, not, ◌&&◌, ◌||◌, leb, eqb}
use Rattle.job.specs.declared.mode.Mode.{Mode}
use Rattle.job.specs.declared.size.Size.{Size}
use Rattle.job.specs.declared.item.Position.{Position}
use Rattle.job.specs.Lists.{any}
use Rattle.job.specs.Mode.{three, exact}
use Rattle.job.specs.Job.{Job, positions}
use Rattle.listing.specs.declared.plate.Plate.{Plate}
use Rattle.listing.specs.declared.plate.Residuals.{Residuals}

-- "a plate type is (width, height, stage)"
abbrev pub plate : ℕ → ℕ → ℕ → Plate
plate w h s = record { width = w; height = h; stage = s }

-- a board of a size (request Six)
abbrev pub board : Size → Plate
board z = plate z.width z.height 1

-- what is not a plate: nothing can be cut from it, since every item has sides of at least 1
abbrev pub waste : Plate
waste = plate 0 0 0

-- two plates of one type
unfoldable pub same : Plate → Plate → Bool
same p q = eqb p.width q.width && eqb p.height q.height && eqb p.stage q.stage

-- "in 2E at stage 2 its height equals h"
abbrev pub height_at_two : Position → Plate → Bool
height_at_two item p = not (eqb p.stage 2) || eqb item.height p.height

-- "in 3E at stage 3 its width equals w"
abbrev pub width_at_three : Position → Plate → Bool
width_at_three item p = not (eqb p.stage 3) || eqb item.width p.width

-- what the exact modes ask besides: 3E of width, 2E of height; the non-exact modes ask nothing
unfoldable pub exact_fit : Mode → Position → Plate → Bool
exact_fit m item p =
    cond (exact m)
    (cond (three m) (width_at_three item p) (height_at_two item p))
    true

-- the item in this position may be cut from the plate: the position is permitted (request One), and its sides as it lies fit the plate
unfoldable pub may_cut : Mode → Position → Plate → Bool
may_cut m item p =
    item.allowed
    && leb item.width p.width
    && leb item.height p.height
    && exact_fit m item p

abbrev pub residuals : Plate → Plate → Residuals
residuals top right = record { top = top; right = right }

-- "The cut leaves, with wi and hi for the item's sides", as it lies, in document 01's four rows. The side that a cut divides is "what remains minus b"
-- (request Four), and 0 "where b or less remains", which holds no item; the other side is whole.
-- "Stage 1: top (w, h−hi, 1); right (w−wi, hi, 2)."
abbrev pub stage_one : ℕ → Position → Plate → Residuals
stage_one b item p = residuals (plate p.width (p.height - item.height - b) 1) (plate (p.width - item.width - b) item.height 2)

-- "Stage 2, two-stage modes: right (w−wi, hi, 2); what lies above is waste."
abbrev pub stage_two_of_two : ℕ → Position → Plate → Residuals
stage_two_of_two b item p = residuals waste (plate (p.width - item.width - b) item.height 2)

-- "Stage 2, three-stage modes: top (wi, h−hi, 3); right (w−wi, h, 2)."
abbrev pub stage_two_of_three : ℕ → Position → Plate → Residuals
stage_two_of_three b item p = residuals (plate item.width (p.height - item.height - b) 3) (plate (p.width - item.width - b) p.height 2)

-- "Stage 3: top (wi, h−hi, 3); what lies beside is waste."
abbrev pub stage_three : ℕ → Position → Plate → Residuals
stage_three b item p = residuals (plate item.width (p.height - item.height - b) 3) waste

-- the row that holds, by the plate's stage and the mode, for a blade of width b
unfoldable pub leaves : Mode → ℕ → Position → Plate → Residuals
leaves m b item p =
    cond (eqb p.stage 1)
    (stage_one b item p)
    (cond (eqb p.stage 2)
    (cond (three m) (stage_two_of_three b item p) (stage_two_of_two b item p))
    (stage_three b item p))

-- "a residual is kept if at least one item type may be cut from it, otherwise it is waste": in some position, unturned or turned (request One)
unfoldable pub kept : Job → Plate → Bool
kept job p = any (λ item. may_cut job.mode item p) (positions job)
