-- Document 01, "Numbering": cuts are numbered in rising order of plate type and, on one plate type, of item type, each "the unturned first" (request One).
use Rattle.std.specs.Prelude.{ℕ, ◌≤◌, ◌<◌, Bool, cond, List, ltb, eqb, length, get_or}
use Rattle.listing.specs.Listing.{Cut, no_cut}
use Rattle.listing.specs.Model.{Before}
use Rattle.listing.specs.Holds.{cut_of_words}

-- of two cuts the one with the lower number has the pair that comes first in the walk
pub record Rising (cs : List Cut) : Type 0 where
  pub rises : (c d : ℕ) → c < d → d < length cs → Before (get_or cs c no_cut) (get_or cs d no_cut)

-- the cut comes before the pair of plate type j and position i
unfoldable pub earlier : ℕ → ℕ → Cut → Bool
earlier j i c = cond (eqb c.plate j) (ltb c.item i) (ltb c.plate j)

-- a pair, as a cut that leaves nothing
abbrev pub pair_of : ℕ → ℕ → Cut
pair_of j i = cut_of_words j i 0 0

-- the cuts before place a come before the pair, those from place b on do not
pub record Narrowed (cs : List Cut) (j i a b : ℕ) : Type 0 where
  pub below : (c : ℕ) → c < a → Before (get_or cs c no_cut) (pair_of j i)
  pub above : (c : ℕ) → b ≤ c → c < length cs → Before (get_or cs c no_cut) (pair_of j i) → ⊥
