-- Document 01, "Texts": the bytes of a line of each kind, byte 10 included, each said once; `src/widths.rt` has the same for the code.
use Rattle.std.specs.Prelude.{ℕ}
use Rattle.columns.specs.Widths.{line_bytes}

-- kind 1: the kind, stages, exact, t, n, b; request Four, the blade's width is "the last number of line 1"; request Six, t stands "in place of W and H"
abbrev pub job_line_bytes : ℕ
job_line_bytes = line_bytes 6

-- kind 10 (request Six): the kind, size, W, H, cost
abbrev pub size_line_bytes : ℕ
size_line_bytes = line_bytes 5

-- kind 2: the kind, type, width, height, demand, leave
abbrev pub type_line_bytes : ℕ
type_line_bytes = line_bytes 6

-- kind 3: the kind, plate, item, count, the plate's width, height and stage (request Five), turn
abbrev pub plan_line_bytes : ℕ
plan_line_bytes = line_bytes 8

-- kind 4: the kind, D, n, m
abbrev pub prices_line_bytes : ℕ
prices_line_bytes = line_bytes 4

-- kinds 5 and 6: the kind, type or plate type, price
abbrev pub price_line_bytes : ℕ
price_line_bytes = line_bytes 3

-- kind 7: the kind, board, size (request Six), strip, stack, place, type, x, y, turn
abbrev pub placement_line_bytes : ℕ
placement_line_bytes = line_bytes 10

-- kind 8: the kind, cost (request Six), sum, D, cheapest
abbrev pub summary_line_bytes : ℕ
summary_line_bytes = line_bytes 5

-- kind 9: the kind, refusal, place
abbrev pub refusal_line_bytes : ℕ
refusal_line_bytes = line_bytes 3

-- the place that the code writes on line 9 is below 2^32
abbrev pub place_limit : ℕ
place_limit = 4294967296
