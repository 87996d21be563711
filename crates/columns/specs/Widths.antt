-- Document 01, "Texts": the columns of a number and the bytes of a line, each said once; `src/widths.rt` has the same for the code.
use Rattle.std.specs.Prelude.{ℕ, ◌+◌, ◌*◌}

-- the columns of a number before the last, the first half of them, and all columns
abbrev pub lead_bytes : ℕ
lead_bytes = 8

abbrev pub front_bytes : ℕ
front_bytes = 4

abbrev pub group_bytes : ℕ
group_bytes = lead_bytes + 1

-- the most numbers of a line, those of kind 7
abbrev pub most_numbers : ℕ
most_numbers = 10

-- the bytes of a line of k numbers, byte 10 included
abbrev pub line_bytes : ℕ → ℕ
line_bytes k = group_bytes * k + 1
