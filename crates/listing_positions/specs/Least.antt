-- Document 01, "Plates and cuts": "a residual is kept if at least one item type may be cut from it", as a least side. A cut divides the width of a plate of
-- stage 2 and the height of another; the other side and the stage are those of the plate, and say from which divided side on it is kept.
use Rattle.std.specs.Prelude.{ℕ, Bool, cond, List, [], ◌∷◌, ltb, eqb}
use Rattle.job.specs.declared.mode.Mode.{Mode}
use Rattle.job.specs.declared.item.Position.{Position}
use Rattle.job.specs.Job.{Job, positions}
use Rattle.listing.specs.declared.plate.Plate.{Plate}
use Rattle.listing.specs.Plate.{plate, may_cut}

-- of a width and a height the side that cuts of a plate of stage s divide
unfoldable pub along : ℕ → ℕ → ℕ → ℕ
along s w h = cond (eqb s 2) w h

-- the side of a plate that its cuts divide
abbrev pub divided : Plate → ℕ
divided p = along p.stage p.width p.height

-- the item may be cut from a plate of p's stage and other side that is as long as the item
unfoldable pub asks : Mode → Plate → Position → Bool
asks m p item =
    cond (eqb p.stage 2)
    (may_cut m item (plate item.width p.height p.stage))
    (may_cut m item (plate p.width item.height p.stage))

-- the lesser of two sides, if the second is asked for
unfoldable pub lower : ℕ → Bool → ℕ → ℕ
lower least asked side = cond asked (cond (ltb side least) side least) least

-- the least of `least` and of the sides of those positions that are asked for
unfoldable pub least_from : (Position → Bool) → (Position → ℕ) → ℕ → List Position → ℕ
least_from asked side least [] = least
least_from asked side least (item ∷ items) = least_from asked side (lower least (asked item) (side item)) items

-- what stands for the least side where no item can be cut
abbrev pub no_side : ℕ
no_side = 65535

-- the least side from which a plate of p's stage and other side is kept; `no_side` where none is
unfoldable pub least_of : Job → Plate → ℕ
least_of job p = least_from (asks job.mode p) (λ item. along p.stage item.width item.height) no_side (positions job)
