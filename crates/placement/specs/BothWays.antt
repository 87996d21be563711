-- The record of a placement, both ways: what is written is what is read, and what is read is what was written.
use Rattle.std.specs.Prelude.{ℕ, ◌*◌, ◌≤◌, ◌<◌, ◌≡◌, List, length, get_or}
use Rattle.job.specs.Sizes.{words_of_placement}
use Rattle.listing.specs.Holds.{Holds}
use Rattle.layouts.specs.Placement.{Placement, placement_words, no_placement}
use Rattle.layouts.specs.Lines.{lines_in, rows_of}
use Rattle.layouts.specs.Rules.{Every}
use Rattle.placement.specs.PlacementRead.{placement_at}

pub record PlacementBothWays : Type 0 where
  -- a buffer that holds some placements has each of them to read at its place
  pub written_read : (buffer : List ℕ) (ps : List Placement) → Holds buffer (placement_words ps) → (c : ℕ) → c < length ps → placement_at buffer c ≡ get_or ps c no_placement
  -- words of whole placements, with turns of 0 and 1, are the words of the placements that are read from them
  pub read-written : (ws : List ℕ) (n : ℕ) → length ws ≡ words_of_placement * n → Every (λ r. r.turned ≤ 1) (lines_in ws) → placement_words (rows_of ws) ≡ ws
