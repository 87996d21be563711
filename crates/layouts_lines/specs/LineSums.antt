-- The lines of layout words, each of an item type, counted by type.
use Rattle.std.specs.Prelude.{ℕ, ◌≤◌, ◌<◌, ◌≡◌, List, length, get_or}
use Rattle.job.specs.Lists.{occurs}
use Rattle.layouts.specs.Placement.{Placement}
use Rattle.layouts.specs.Lines.{Line}
use Rattle.placement.specs.PlacementRead.{types_placed, line_at}

-- a line is of one of n item types, and its turn is 0 or 1
pub record OfType (n : ℕ) (l : Line) : Type 0 where
  pub from_one : 1 ≤ l.type
  pub to_last : l.type ≤ n
  pub turn : l.turned ≤ 1

-- so is each of the first lines
pub record OfTypes (n lines : ℕ) (ws : List ℕ) : Type 0 where
  pub each : (c : ℕ) → c < lines → OfType n (line_at ws c)

-- word j, of as many as there are, says how often item type j lies in the lines, in both turns together
pub record SumsOf (rs : List Placement) (sums : List ℕ) : Type 0 where
  pub each : (j : ℕ) → j < length sums → get_or sums j 0 ≡ occurs j (types_placed rs)
