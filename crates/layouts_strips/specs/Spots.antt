-- Document 01, "Layouts and folding": item positions line by line, "x the widths of the stacks before it; y the strips below plus the items below it in its
-- stack"; request Four, "positions move accordingly": b, the blade's width, after each of these.
use Rattle.std.specs.Prelude.{ℕ, ◌+◌, ◌*◌, ◌≤◌, max}
use Rattle.std.proofs.Math.Option.{Option, none, some}
use Rattle.job.specs.declared.item.Position.{Position}
use Rattle.layouts.specs.Lines.{Level, stack, strip, board}
use Rattle.layouts_strips.specs.declared.spot.Spot.{Spot}
use Rattle.layouts_strips.specs.Measures.{max_step}

abbrev pub spot : ℕ → ℕ → ℕ → ℕ → ℕ → Spot
spot x y base width above = record { x = x; y = y; base = base; width = width; above = above }

-- an item lies there: the next of its stack lies above it, and so does the next strip
abbrev pub put_on : ℕ → Spot → Position → Spot
put_on b s it = spot s.x (s.y + it.height + b) s.base (max s.width it.width) (max s.above (s.y + it.height + b))

-- where the next line's item lies, by what that line begins: a place, a stack, a strip, a board
abbrev pub moved_to : ℕ → Option Level → Spot → Spot
moved_to b none s = s
moved_to b (some stack) s = spot (s.x + s.width + b) s.base s.base 0 s.above
moved_to b (some strip) s = spot 0 s.above s.above 0 s.above
moved_to b (some board) s = spot 0 0 0 0 0

-- limits after c lines, each of which adds a side and a gap
pub record SpotSmall (c : ℕ) (s : Spot) : Type 0 where
  pub across : s.x + s.width ≤ max_step * c
  pub up : s.y ≤ max_step * c
  pub below : s.base ≤ max_step * c
  pub high : s.above ≤ max_step * c
