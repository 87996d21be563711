-- The buffers that a call is lent: their numbers and full sizes.
use Rattle.std.specs.Prelude.{ℕ}
use Rattle.job.specs.declared.lent.Buffer.{Buffer}
use Rattle.job.specs.declared.lent.Buffer.TheVariants.{Plates, Cuts, Counts, Placements, Offcuts}
use Rattle.job.specs.Sizes.{plates_size, cuts_size, counts_size, placements_size, offcuts_size}

-- the number that a refusal 5 names
abbrev pub which_of : Buffer → ℕ
which_of Plates = 1
which_of Cuts = 2
which_of Counts = 3
which_of Placements = 4
which_of Offcuts = 5

-- the full size
abbrev pub full_size : Buffer → ℕ
full_size Plates = plates_size
full_size Cuts = cuts_size
full_size Counts = counts_size
full_size Placements = placements_size
full_size Offcuts = offcuts_size
