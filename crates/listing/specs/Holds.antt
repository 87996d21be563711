-- A buffer that holds words, as the code fills it: the words first, and 0 past them; and the plate type of a number, read from a buffer.
use Rattle.std.specs.Prelude.{ℕ, ◌+◌, ◌*◌, ◌≡◌, List, length, get_or}
use Rattle.job.specs.Sizes.{words_of_plate}
use Rattle.job.specs.Buffers.{filled}
use Rattle.listing.specs.declared.plate.Plate.{Plate}
use Rattle.listing.specs.Plate.{plate}
use Rattle.listing.specs.Listing.{Cut}

-- the buffer holds `ws` and, past them, zeros; its length is its own
pub record Holds (buffer ws : List ℕ) : Type 0 where
  pub words : buffer ≡ filled (length buffer) ws

-- plate type j by the first three of its four words
abbrev pub plate_read : List ℕ → ℕ → Plate
plate_read buffer j = plate (get_or buffer (words_of_plate * j) 0) (get_or buffer (words_of_plate * j + 1) 0) (get_or buffer (words_of_plate * j + 2) 0)

-- a cut by its words
abbrev pub cut_of_words : ℕ → ℕ → ℕ → ℕ → Cut
cut_of_words j i t r = record { plate = j; item = i; top = t; right = r }
