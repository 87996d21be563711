-- Document 01's limits, the words of each record, and the full sizes of the buffers, each said once; `src/sizes.rt` has the same for the code.
use Rattle.std.specs.Prelude.{ℕ, ◌+◌, ◌-◌, ◌*◌, ◌≤◌, List, length}

-- "The job": the greatest side of board and item, in millimetres
abbrev pub max_side : ℕ
max_side = 10000

-- request Four: "b from 0 to 20 mm", the greatest width of the blade
abbrev pub max_blade : ℕ
max_blade = 20

-- request Six: "up to six sizes", the most board sizes of a job
abbrev pub max_sizes : ℕ
max_sizes = 6

-- request Six: "each with a cost of 1 to 999", the greatest cost of a size
abbrev pub max_cost : ℕ
max_cost = 999

-- "The job": the most item types
abbrev pub max_types : ℕ
max_types = 40

-- "The job", "Plan": the greatest demand, and the most that demands, counts or pieces come to in all
abbrev pub max_pieces : ℕ
max_pieces = 4000

-- request Two: the most offcuts, two for each counted cut of a plan
abbrev pub max_offcuts : ℕ
max_offcuts = 8000

-- "at most 2,048 plate types", the sizes among them (request Six), "and 8,192 cuts"
abbrev pub max_plates : ℕ
max_plates = 2048

abbrev pub max_cuts : ℕ
max_cuts = 8192

-- the most residual types, of a job with one size, and the greatest number of a plate type
abbrev pub max_residuals : ℕ
max_residuals = max_plates - 1

-- "Prices": the greatest price, and the greatest D
abbrev pub max_price : ℕ
max_price = 9999

-- the words of a job before its sizes: stages, exact, the number of sizes t "in place of W and H" (request Six), n, and the blade's b (request Four)
abbrev pub words_of_head : ℕ
words_of_head = 5

-- request Six, the words of a size: W, H, cost
abbrev pub words_of_size : ℕ
words_of_size = 3

-- the words of an item type: width, height, demand, leave
abbrev pub words_of_item : ℕ
words_of_item = 4

-- the words of a plate type: width, height, stage, and the cost "as a fourth word" (request Six)
abbrev pub words_of_plate : ℕ
words_of_plate = 4

-- the words of a cut: plate, item, top, right
abbrev pub words_of_cut : ℕ
words_of_cut = 4

-- the words of a placement and of a layout line: board, its size (request Six), strip, stack, place, type, x, y, turn
abbrev pub words_of_placement : ℕ
words_of_placement = 9

-- request Two, the words of an offcut: board, x, y, width, height, usable
abbrev pub words_of_offcut : ℕ
words_of_offcut = 6

-- the words of a job before its item types, with t sizes
abbrev pub words_before : ℕ → ℕ
words_before t = words_of_head + words_of_size * t

-- the words of a job of t sizes and n item types
abbrev pub job_size : ℕ → ℕ → ℕ
job_size t n = words_before t + words_of_item * n

-- the words of the longest job
abbrev pub longest_job : ℕ
longest_job = job_size max_sizes max_types

-- the first word of item type i, from 1, of a job of t sizes
abbrev pub word_of_type : ℕ → ℕ → ℕ
word_of_type t i = words_before t + words_of_item * (i - 1)

-- "cuts 32,768, counts lent or passed in 8,192"; request Six: lent plates, whose record "carries the cost as a fourth word", "so its buffer is 8,192", and
-- "each placement names its size after the board (buffer 36,000)"
abbrev pub plates_size : ℕ
plates_size = words_of_plate * max_plates

abbrev pub cuts_size : ℕ
cuts_size = words_of_cut * max_cuts

abbrev pub counts_size : ℕ
counts_size = max_cuts

abbrev pub placements_size : ℕ
placements_size = words_of_placement * max_pieces

-- request Two: the offcuts are "a fifth buffer of 48,000 words"
abbrev pub offcuts_size : ℕ
offcuts_size = words_of_offcut * max_offcuts

-- the words of the longest list of prices: D, one for each item type, one for each residual type
abbrev pub prices_size : ℕ
prices_size = max_types + max_plates

-- the record behind c others, of so many words each, stands in the buffer
abbrev pub RecordIn : ℕ → ℕ → List ℕ → Type 0
RecordIn words c buffer = words * c + words ≤ length buffer
