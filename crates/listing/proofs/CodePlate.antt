-- What the code's tests of a plate say, carried to the job's mode, blade and position.
use mathlib.Core.Path.{◌≡◌, sym, ◌∙◌}
use mathlib.Core.Bool.{Bool, true}
use Prim.Native.Nat.{ℕ, ◌≤◌}
use Rattle.job.specs.declared.mode.Mode.{Mode}
use Rattle.job.specs.declared.item.Position.{Position}
use Rattle.listing.specs.declared.plate.Plate.{Plate}
use Rattle.listing.specs.declared.plate.Residuals.{Residuals}
use Rattle.listing.specs.Plate.{may_cut, leaves}
use Rattle.listing.proofs.Plates.{may-cut}

-- the item read is the position, mode and blade the job's: so what was tested and what is left are those of the pair
pub may_cut-of : {b t : Bool} {mode mode' : Mode} {x x' : Position} (p : Plate) → b ≡ may_cut mode x p → mode ≡ mode' → x ≡ x' → b ≡ t → may_cut mode' x' p ≡ t
may_cut-of p e m i t = cc

pub leaves_of :
    {left : Residuals} {mode mode' : Mode} {b b' : ℕ} {x x' : Position} (p : Plate)
    → left ≡ leaves mode b x p
    → mode ≡ mode'
    → b ≡ b'
    → x ≡ x'
    → left ≡ leaves mode' b' x' p
leaves_of p e m k i = cc

-- an item that may be cut from a plate fits into it
pub may_cut-fits : {b : Bool} (m : Mode) (item : Position) (p : Plate) → b ≡ may_cut m item p → b ≡ true → (item.width ≤ p.width) × (item.height ≤ p.height)
may_cut-fits m item p e t = let r = may-cut m item p (sym e ∙ t) in (r.in-width, r.in-height)
