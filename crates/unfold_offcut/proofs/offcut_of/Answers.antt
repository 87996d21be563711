use mathlib.Core.Path.{◌≡◌, ap, ◌∙◌}
use Rattle.listing.specs.declared.plate.Plate.{Plate}
use Rattle.listing.specs.Listing.{plate_at}
use Rattle.listing.proofs.CodeHolds.{held-plate}
use Rattle.layouts.specs.Placement.{opened}
use Rattle.layouts.specs.Offcuts.{offcut}
use Rattle.unfold_offcut.proofs.offcut_of.Goals as goal

-- `offcut_of` reads the sides of the piece's plate type.
pub returns : goal.returns
unfolding offcut plate_at
returns c job l h =
    let a = c.args in
    let e : c.plate_at-plate.result ≡ plate_at l a.p.plate.0 = c.plate_at-plate.ensures ∙ held-plate job l.plates h a.p.plate.0 in
    ap (λ (q : Plate). record { board = opened a.board a.size.0; x = a.p.x; y = a.p.y; width = q.width; height = q.height }) e
