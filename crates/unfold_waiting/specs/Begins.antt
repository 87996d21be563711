-- Request Seven, "keep for each type where its cuts begin": what the code knows of the words that it keeps, and of the part that they bound.
use Rattle.std.specs.Prelude.{ℕ, suc, ◌+◌, ◌≤◌, ◌<◌, ◌≡◌, List, length, get_or}
use Rattle.listing.specs.Listing.{Cut, max_plates}
use Rattle.layouts.specs.OwnCuts.{begin_of}

-- a word for each plate type, and one past the last
abbrev pub begins_size : ℕ
begins_size = suc max_plates

-- each word is where the cuts of its plate type begin
pub record Begins (cs : List Cut) (bs : List ℕ) : Type 0 where
  pub each : (j : ℕ) → j < length bs → get_or bs j 0 ≡ begin_of cs j

-- the words of plate type j and of the next are there, and bound a part of the counts
pub record PartIn (bs ns : List ℕ) (j : ℕ) : Type 0 where
  pub there : j + 1 < length bs
  pub ordered : get_or bs j 0 ≤ get_or bs (j + 1) 0
  pub counted : get_or bs (j + 1) 0 ≤ length ns
