-- Request Two, "Waste has its own definition": what the cut of an item from a plate wastes, w and h being the plate's sides, wi and hi the item's as it lies.
-- Request Four: the swath that the blade takes beside that.
use Rattle.std.specs.Prelude.{ℕ, ◌+◌, ◌*◌, ◌-◌, min, cond, eqb}
use Rattle.job.specs.declared.mode.Mode.{Mode}
use Rattle.job.specs.declared.item.Position.{Position}
use Rattle.job.specs.Mode.{three}
use Rattle.job.specs.Job.{Job}
use Rattle.listing.specs.declared.plate.Plate.{Plate}
use Rattle.listing.specs.Plate.{leaves, kept}

-- width times height, of a plate and of an item as it lies
abbrev pub area : Plate → ℕ
area p = p.width * p.height

abbrev pub item_area : Position → ℕ
item_area item = item.width * item.height

-- "residuals not kept": the area of a residual, unless it is kept
unfoldable pub unkept : Job → Plate → ℕ
unkept job q = cond (kept job q) 0 (area q)

-- "in two-stage strips w×(h−hi) at each stage 2 cut, at stage 3 (w−wi)×h": the whole width that lies above the item, the whole height beside it
unfoldable pub trim : Mode → Position → Plate → ℕ
trim m item p =
    let w = p.width in
    let h = p.height in
    cond (eqb p.stage 1)
    0
    (cond (eqb p.stage 2)
    (cond (three m) 0 (w * (h - item.height)))
    ((w - item.width) * h))

-- the waste of the cut: its residuals that are not kept, less b as they are, and the trim
unfoldable pub waste_of : Job → Position → Plate → ℕ
waste_of job item p =
    let r = leaves job.mode job.blade item p in
    unkept job r.top + unkept job r.right + trim job.mode item p

-- request Four: "the blade's swath, clipped to the piece it divides, its part inside a trim counting as waste", for a blade of width b: dx of what remains
-- across, dy of what remains upwards. At stage 2 of two stages the swath beside the item ends where the trim above it begins; at stage 3 the swath above
-- it ends where the trim beside it begins
unfoldable pub swath : Mode → ℕ → Position → Plate → ℕ
swath m b item p =
    let w = p.width in
    let h = p.height in
    let wi = item.width in
    let hi = item.height in
    let dx = min b (w - wi) in
    let dy = min b (h - hi) in
    cond (eqb p.stage 1)
    (w * dy + dx * hi)
    (cond (eqb p.stage 2)
    (cond (three m) (dx * h + wi * dy) (dx * hi))
    (wi * dy))

-- the swath of a cut with the job's blade
unfoldable pub swath_of : Job → Position → Plate → ℕ
swath_of job item p = swath job.mode job.blade item p
