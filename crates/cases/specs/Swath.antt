-- Document 02, request Four: offcuts past the blade, and "the blade's swath, clipped to the piece it divides, its part inside a trim counting as waste"; each
-- field says what it shows or shuts out.
use Rattle.std.specs.Prelude.{◌+◌, ◌≡◌, true, [], ◌∷◌, ◌++◌}
use Rattle.job.specs.declared.mode.Mode.{Mode}
use Rattle.job.specs.declared.item.Position.{Position}
use Rattle.job.specs.Mode.{2N, 3N}
use Rattle.job.specs.Job.{position}
use Rattle.listing.specs.declared.plate.Plate.{Plate}
use Rattle.listing.specs.Plate.{plate}
use Rattle.listing.specs.Waste.{trim, swath}
use Rattle.cases.specs.Offcuts.{left_over, shelves, areas}
use Rattle.cases.specs.Blade.{blade_a, one_item, stacks, plan_s, low_beside, trim_beside, trim_plan}

-- the swath of one cut with a blade of 2
pub record Swaths : Type 0 where
  -- stage 1, 8 by 9 of 20 by 10: above it 1 is left, less than the blade
  pub stage-one : swath 2N 2 (position 8 9 true) (plate 20 10 1) ≡ 20 + 18
  -- stage 2 in two stages, 8 by 6 of 10 by 9: not beside the trim, which is whole
  pub two-stages : swath 2N 2 (position 8 6 true) (plate 10 9 2) ≡ 12
  pub whole-trim : trim 2N (position 8 6 true) (plate 10 9 2) ≡ 30
  -- in three stages: the whole height beside it, and above it the item's width
  pub three-stages : swath 3N 2 (position 8 6 true) (plate 10 9 2) ≡ 18 + 16
  -- stage 3: above it only, since what lies beside it is trim
  pub stage-three : swath 3N 2 (position 8 6 true) (plate 10 9 3) ≡ 16
  pub trim-beside : trim 3N (position 8 6 true) (plate 10 9 3) ≡ 18
  -- no blade, no swath: so the balance is request Two's
  pub no-blade : (m : Mode) (item : Position) (p : Plate) → swath m 0 item p ≡ 0

-- "a piece left over": where it lies, and its sides less the blade
pub record BladeOffcuts : Type 0 where
  -- job A with a blade of 1: beside an item of 3 by 3 at x 4, above it at y 4
  pub past-blade :
      left_over 1 1 (blade_a 1) (2 ∷ 1 ∷ 2 ∷ 0 ∷ 0 ∷ [])
      ≡ shelves (3 ∷ 5 ∷ 2 ∷ []) ((3 ∷ 4 ∷ 0 ∷ 5 ∷ 3 ∷ 1 ∷ []) ++ (3 ∷ 0 ∷ 4 ∷ 9 ∷ 3 ∷ 1 ∷ []))
  -- of stage 3, above an item that is narrower than its stack
  pub narrow-stack : left_over 1 1 trim_beside trim_plan ≡ shelves (1 ∷ 3 ∷ 1 ∷ []) (1 ∷ 4 ∷ 6 ∷ 2 ∷ 2 ∷ 1 ∷ [])
  -- two items that fill the board but for the blade
  pub none : left_over 1 1 (one_item 11 5 1 5 4) (1 ∷ 1 ∷ []) ≡ shelves (1 ∷ 2 ∷ 0 ∷ []) []
  -- what remains is less than the blade
  pub none-less : left_over 1 1 (one_item 10 10 3 8 9) (1 ∷ []) ≡ shelves (1 ∷ 1 ∷ 0 ∷ []) []

-- "The area balance gains the blade's swath": items, offcuts, waste and swath of a board
pub record BladeBalances : Type 0 where
  -- 10 by 10, a blade of 3, an item of 8 by 9: 10×1 above it and 2×9 beside it are swath, clipped, and none of it waste
  pub clipped : areas 1 (one_item 10 10 3 8 9) (1 ∷ []) ≡ (72 ∷ 0 ∷ 0 ∷ (10 + 18) ∷ [])
  -- 20 by 10, a blade of 2, 8 by 9 and 8 by 6: the trim above the low item is waste whole, 10×3; the swath 20×1, 2×9 and 2×6
  pub trim-above : areas 1 (low_beside 6) (1 ∷ 0 ∷ 0 ∷ 1 ∷ 0 ∷ []) ≡ ((72 + 48) ∷ 0 ∷ 30 ∷ (20 + 18 + 12) ∷ [])
  -- at stage 3 the trim beside the narrow item is waste whole, 1×5; the swath 1×8, 3×1 and 2×1
  pub trim-beside : areas 1 trim_beside trim_plan ≡ ((24 + 6 + 4) ∷ 4 ∷ 5 ∷ (8 + 3 + 2) ∷ [])
  -- three stages without a trim: 2×10 and 4×2
  pub stacked : areas 1 (stacks 10) plan_s ≡ (72 ∷ 0 ∷ 0 ∷ (20 + 8) ∷ [])
  -- job A with a blade of 1: a residual less the blade that is not kept is waste; offcuts less the blade
  pub residual-wasted : areas 1 (blade_a 1) (2 ∷ 1 ∷ 2 ∷ 0 ∷ 0 ∷ []) ≡ (29 ∷ 0 ∷ 21 ∷ 13 ∷ [])
  pub offcuts-left : areas 3 (blade_a 1) (2 ∷ 1 ∷ 2 ∷ 0 ∷ 0 ∷ []) ≡ (9 ∷ 42 ∷ 0 ∷ 12 ∷ [])
  -- a blade above every side: all that remains is swath
  pub all-swath : areas 1 (one_item 9 7 20 5 4) (1 ∷ []) ≡ (20 ∷ 0 ∷ 0 ∷ (27 + 16) ∷ [])
