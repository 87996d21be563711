-- Document 02, request Six: several board sizes, at the level of the calls; each field says what it shows or shuts out.
use Rattle.std.specs.Prelude.{ℕ, ◌≡◌, true, false, replicate}
use mathlib.Core.List.{List, [], ◌∷◌, ◌++◌}
use Rattle.job.specs.Buffers.{given, refused, filled, counts_size, placements_size}
use Rattle.job.specs.Job.{job_of}
use Rattle.listing.specs.Listing.{going, stopped, walk_within, listing_of}
use Rattle.plan.specs.Prices.{prices_of, cheapest}
use Rattle.layouts.specs.Layout.{sheet, layout_rules}
use Rattle.layouts.specs.Placement.{opened, placement_of, sheets_of, set_cost}
use Rattle.layouts.specs.Rectangle.{inside}
use Rattle.layouts.specs.Lines.{set_of}
use Rattle.cases.specs.Calls.{listing, plan, prices, unfolding', folding, succeeds, refuses}
use Rattle.cases.specs.Jobs.{job_from, on_board, items_a}
use Rattle.cases.specs.Offcuts.{left_over, shelves, areas}

-- 2N, a blade of 0, so many sizes, and job A's items
unfoldable pub stock_a : ℕ → List ℕ → List ℕ
stock_a t sizes = job_from 2 0 t 2 0 sizes items_a

-- sizes 9 by 7 at a cost of 3 and 9 by 3 at a cost of 1, job A's items
unfoldable pub two_sizes : List ℕ
two_sizes = stock_a 2 (9 ∷ 7 ∷ 3 ∷ 9 ∷ 3 ∷ 1 ∷ [])

-- its plate types: plate type 1 is a size, plate type 2 the residual with the same sides
unfoldable pub plates_two : List ℕ
plates_two =
    (9 ∷ 7 ∷ 1 ∷ 3 ∷ [])
    ++ (9 ∷ 3 ∷ 1 ∷ 1 ∷ [])
    ++ (9 ∷ 3 ∷ 1 ∷ 0 ∷ [])
    ++ (4 ∷ 4 ∷ 2 ∷ 0 ∷ [])
    ++ (9 ∷ 4 ∷ 1 ∷ 0 ∷ [])
    ++ (6 ∷ 3 ∷ 2 ∷ 0 ∷ [])
    ++ (3 ∷ 3 ∷ 2 ∷ 0 ∷ [])

unfoldable pub cuts_two : List ℕ
cuts_two =
    (0 ∷ 2 ∷ 2 ∷ 3 ∷ [])
    ++ (0 ∷ 4 ∷ 4 ∷ 5 ∷ [])
    ++ (1 ∷ 4 ∷ 0 ∷ 5 ∷ [])
    ++ (2 ∷ 4 ∷ 0 ∷ 5 ∷ [])
    ++ (3 ∷ 4 ∷ 0 ∷ 0 ∷ [])
    ++ (4 ∷ 2 ∷ 0 ∷ 3 ∷ [])
    ++ (4 ∷ 4 ∷ 0 ∷ 5 ∷ [])
    ++ (5 ∷ 4 ∷ 0 ∷ 6 ∷ [])
    ++ (6 ∷ 4 ∷ 0 ∷ 0 ∷ [])

-- a plan of two boards of size 0 and one of size 1
unfoldable pub plan_two : List ℕ
plan_two = 2 ∷ 0 ∷ 1 ∷ 0 ∷ 0 ∷ 0 ∷ 0 ∷ 1 ∷ 1 ∷ []

-- its placements, size by size; and the same boards with that of size 1 first
unfoldable pub lines_two : List ℕ
lines_two =
    (1 ∷ 0 ∷ 1 ∷ 1 ∷ 1 ∷ 1 ∷ 0 ∷ 0 ∷ 0 ∷ [])
    ++ (2 ∷ 0 ∷ 1 ∷ 1 ∷ 1 ∷ 1 ∷ 0 ∷ 0 ∷ 0 ∷ [])
    ++ (3 ∷ 1 ∷ 1 ∷ 1 ∷ 1 ∷ 2 ∷ 0 ∷ 0 ∷ 0 ∷ [])
    ++ (3 ∷ 1 ∷ 1 ∷ 2 ∷ 1 ∷ 2 ∷ 3 ∷ 0 ∷ 0 ∷ [])
    ++ (3 ∷ 1 ∷ 1 ∷ 3 ∷ 1 ∷ 2 ∷ 6 ∷ 0 ∷ 0 ∷ [])

unfoldable pub lines_two-other-order : List ℕ
lines_two-other-order =
    (1 ∷ 1 ∷ 1 ∷ 1 ∷ 1 ∷ 2 ∷ 0 ∷ 0 ∷ 0 ∷ [])
    ++ (1 ∷ 1 ∷ 1 ∷ 2 ∷ 1 ∷ 2 ∷ 3 ∷ 0 ∷ 0 ∷ [])
    ++ (1 ∷ 1 ∷ 1 ∷ 3 ∷ 1 ∷ 2 ∷ 6 ∷ 0 ∷ 0 ∷ [])
    ++ (2 ∷ 0 ∷ 1 ∷ 1 ∷ 1 ∷ 1 ∷ 0 ∷ 0 ∷ 0 ∷ [])
    ++ (3 ∷ 0 ∷ 1 ∷ 1 ∷ 1 ∷ 1 ∷ 0 ∷ 0 ∷ 0 ∷ [])

-- sizes 2 by 2, which no item fits, and 9 by 7
unfoldable pub none_fits : List ℕ
none_fits = stock_a 2 (2 ∷ 2 ∷ 1 ∷ 9 ∷ 7 ∷ 1 ∷ [])

unfoldable pub plates_none : List ℕ
plates_none =
    (2 ∷ 2 ∷ 1 ∷ 1 ∷ [])
    ++ (9 ∷ 7 ∷ 1 ∷ 1 ∷ [])
    ++ (9 ∷ 3 ∷ 1 ∷ 0 ∷ [])
    ++ (4 ∷ 4 ∷ 2 ∷ 0 ∷ [])
    ++ (9 ∷ 4 ∷ 1 ∷ 0 ∷ [])
    ++ (6 ∷ 3 ∷ 2 ∷ 0 ∷ [])
    ++ (3 ∷ 3 ∷ 2 ∷ 0 ∷ [])

unfoldable pub cuts_none : List ℕ
cuts_none =
    (1 ∷ 2 ∷ 2 ∷ 3 ∷ [])
    ++ (1 ∷ 4 ∷ 4 ∷ 5 ∷ [])
    ++ (2 ∷ 4 ∷ 0 ∷ 5 ∷ [])
    ++ (3 ∷ 4 ∷ 0 ∷ 0 ∷ [])
    ++ (4 ∷ 2 ∷ 0 ∷ 3 ∷ [])
    ++ (4 ∷ 4 ∷ 0 ∷ 5 ∷ [])
    ++ (5 ∷ 4 ∷ 0 ∷ 6 ∷ [])
    ++ (6 ∷ 4 ∷ 0 ∷ 0 ∷ [])

-- 9 by 7 twice, at costs of 4 and 2, one item as large
unfoldable pub equal_sizes : List ℕ
equal_sizes = job_from 2 0 2 1 0 (9 ∷ 7 ∷ 4 ∷ 9 ∷ 7 ∷ 2 ∷ []) (9 ∷ 7 ∷ 1 ∷ 0 ∷ [])

-- sizes 9 by 7 at a cost of 5 and 3 by 3 at a cost of 1, an item of 3 by 3, twice
unfoldable pub dear_and_cheap : List ℕ
dear_and_cheap = job_from 2 0 2 1 0 (9 ∷ 7 ∷ 5 ∷ 3 ∷ 3 ∷ 1 ∷ []) (3 ∷ 3 ∷ 2 ∷ 0 ∷ [])

-- 3 by 3 at a cost of 999, an item of 3 by 3, 4,000 times
unfoldable pub dearest : List ℕ
dearest = job_from 2 0 1 1 0 (3 ∷ 3 ∷ 999 ∷ []) (3 ∷ 3 ∷ 4000 ∷ 0 ∷ [])

-- an item of 9 by 3, with leave to be turned or without; sizes 3 by 3 and 3 by 9
unfoldable pub turned_on_second : ℕ → List ℕ
turned_on_second leave = job_from 2 0 2 1 0 (3 ∷ 3 ∷ 1 ∷ 3 ∷ 9 ∷ 1 ∷ []) (9 ∷ 3 ∷ 1 ∷ leave ∷ [])

-- an item of w by h, on sizes 9 by 3 and 3 by 9
unfoldable pub neither_alone : ℕ → ℕ → List ℕ
neither_alone w h = job_from 2 0 2 1 0 (9 ∷ 3 ∷ 1 ∷ 3 ∷ 9 ∷ 1 ∷ []) (w ∷ h ∷ 1 ∷ 0 ∷ [])

-- six sizes of w by h, the first five at a cost of 1 and the last at a cost of c, and an item of w by h, d times
unfoldable pub six_sizes : ℕ → ℕ → ℕ → ℕ → List ℕ
six_sizes w h c d =
    job_from 2 0 6 1 0
    ((w ∷ h ∷ 1 ∷ []) ++ (w ∷ h ∷ 1 ∷ []) ++ (w ∷ h ∷ 1 ∷ []) ++ (w ∷ h ∷ 1 ∷ []) ++ (w ∷ h ∷ 1 ∷ []) ++ (w ∷ h ∷ c ∷ []))
    (w ∷ h ∷ d ∷ 0 ∷ [])

-- "up to six sizes, each with a cost of 1 to 999"; t "1 to 6, else 2"
pub record SizeLimits : Type 0 where
  -- at most five sizes, or a greatest cost of 998
  pub six : (listing (six_sizes 10000 10000 999 1)).answer ≡ given (0 ∷ 6 ∷ [])
  -- a t of 0 or 7, with words for so many sizes; "else 2", place 0
  pub no_size : (listing (job_from 2 0 0 1 0 [] (3 ∷ 3 ∷ 1 ∷ 0 ∷ []))).answer ≡ refused 2 0
  pub seven : (listing (job_from 2 0 7 1 0 (replicate 21 1) (1 ∷ 1 ∷ 1 ∷ 0 ∷ []))).answer ≡ refused 2 0
  -- a length that does not go by t: a word less and a size more than it says
  pub words-less : (listing (job_from 2 0 2 1 0 (9 ∷ 7 ∷ 1 ∷ 9 ∷ 7 ∷ []) (3 ∷ 3 ∷ 1 ∷ 0 ∷ []))).answer ≡ refused 1 0
  pub size-more : (listing (job_from 2 0 1 1 0 (9 ∷ 7 ∷ 1 ∷ 9 ∷ 7 ∷ 1 ∷ []) (3 ∷ 3 ∷ 1 ∷ 0 ∷ []))).answer ≡ refused 1 0
  -- 2 before 1: a t of 7 with words for one size
  pub length-first : (listing (job_from 2 0 7 1 0 (9 ∷ 7 ∷ 1 ∷ []) (3 ∷ 3 ∷ 1 ∷ 0 ∷ []))).answer ≡ refused 1 0
  -- a cost of 0 or 1,000, a side of 0 or 10,001, of a size that is not the first: place 0, before any type
  pub cost-zero : (listing (six_sizes 9 7 0 1)).answer ≡ refused 2 0
  pub cost-high : (listing (six_sizes 9 7 1000 1)).answer ≡ refused 2 0
  pub width-zero : (listing (stock_a 2 (9 ∷ 7 ∷ 1 ∷ 0 ∷ 7 ∷ 1 ∷ []))).answer ≡ refused 2 0
  pub height-high : (listing (stock_a 2 (9 ∷ 7 ∷ 1 ∷ 9 ∷ 10001 ∷ 1 ∷ []))).answer ≡ refused 2 0
  pub before-types : (listing (job_from 2 0 2 1 0 (9 ∷ 7 ∷ 1 ∷ 9 ∷ 7 ∷ 0 ∷ []) (0 ∷ 3 ∷ 1 ∷ 0 ∷ []))).answer ≡ refused 2 0
  -- "An item must fit some size": 3 by the first size alone, or by all of them
  pub fits-second : (listing (neither_alone 3 9)).answer ≡ given (0 ∷ 1 ∷ [])
  -- a width by one size and a height by another
  pub fits-none : (listing (neither_alone 4 9)).answer ≡ refused 3 1
  -- position and size vary together: the turned position on the second size, which only a type with leave has
  pub turned-on-second : (listing (turned_on_second 1)).answer ≡ given (0 ∷ 1 ∷ [])
  pub not-turned : (listing (turned_on_second 0)).answer ≡ refused 3 1

-- "The sizes take plate numbers 0 to t−1; residual types follow"
pub record SizesListed : Type 0 where
  -- a residual found among the sizes, or a size that is a residual type
  pub same-sides : listing two_sizes ≡ succeeds (5 ∷ 9 ∷ []) plates_two cuts_two []
  -- a size that no item fits left out: it keeps its number and has no cut
  pub none-fits : listing none_fits ≡ succeeds (5 ∷ 8 ∷ []) plates_none cuts_none []
  -- "A size equal to an earlier one is allowed": two numbers, and cuts of their own
  pub equal : listing equal_sizes ≡ succeeds (0 ∷ 2 ∷ []) (9 ∷ 7 ∷ 1 ∷ 4 ∷ 9 ∷ 7 ∷ 1 ∷ 2 ∷ []) (0 ∷ 2 ∷ 0 ∷ 0 ∷ 1 ∷ 2 ∷ 0 ∷ 0 ∷ []) []
  -- the sizes among the plate types of the limit: 7 plate types and 9 cuts
  pub at-both-limits : walk_within 7 9 (job_of two_sizes) ≡ going (listing_of (job_of two_sizes))
  pub sizes-counted : walk_within 6 9 (job_of two_sizes) ≡ stopped 6

-- "The plan test and folding give boards and cost; folding and later conversions keep the boards of each size"
pub record SizePlans : Type 0 where
  -- the boards of size 0 alone, or a cost of 1 for each
  pub cost : plan two_sizes plan_two ≡ succeeds (3 ∷ 7 ∷ []) plates_two cuts_two []
  -- "Boards are opened size by size in rising number"
  pub size-by-size : unfolding' two_sizes plan_two ≡ succeeds (3 ∷ 5 ∷ 4 ∷ []) plates_two cuts_two (filled placements_size lines_two)
  pub folded_back : folding two_sizes lines_two ≡ succeeds (3 ∷ 7 ∷ []) plates_two cuts_two (filled counts_size plan_two)
  -- a set whose boards come in another order of sizes: folded as it is, and unfolded in rising number
  pub other-order : folding two_sizes lines_two-other-order ≡ succeeds (3 ∷ 7 ∷ []) plates_two cuts_two (filled counts_size plan_two)
  -- 12 over sizes, which need not arise; the residual with the same sides must, and 12 names its plate number
  pub residual-drawn : plan two_sizes (2 ∷ 0 ∷ 0 ∷ 3 ∷ 0 ∷ 0 ∷ 0 ∷ 0 ∷ 0 ∷ []) ≡ refuses 12 2 []
  -- offcuts of boards of size 0, the right of an item and what lies above it; board 3, of size 1, leaves none
  pub left_over_is :
      left_over 1 1 two_sizes plan_two
      ≡ shelves (3 ∷ 5 ∷ 4 ∷ []) ((1 ∷ 5 ∷ 0 ∷ 4 ∷ 4 ∷ 1 ∷ []) ++ (1 ∷ 0 ∷ 4 ∷ 9 ∷ 3 ∷ 1 ∷ []) ++ (2 ∷ 5 ∷ 0 ∷ 4 ∷ 4 ∷ 1 ∷ []) ++ (2 ∷ 0 ∷ 4 ∷ 9 ∷ 3 ∷ 1 ∷ []))
  -- offcuts of boards of both sizes: of size 1, the right of two items on board 3 and of one item on board 4
  pub left-over-second :
      left_over 1 1 two_sizes (2 ∷ 0 ∷ 2 ∷ 0 ∷ 0 ∷ 0 ∷ 0 ∷ 1 ∷ 0 ∷ [])
      ≡ shelves (4 ∷ 5 ∷ 6 ∷ [])
      ((1 ∷ 5 ∷ 0 ∷ 4 ∷ 4 ∷ 1 ∷ []) ++ (1 ∷ 0 ∷ 4 ∷ 9 ∷ 3 ∷ 1 ∷ []) ++ (2 ∷ 5 ∷ 0 ∷ 4 ∷ 4 ∷ 1 ∷ []) ++ (2 ∷ 0 ∷ 4 ∷ 9 ∷ 3 ∷ 1 ∷ []) ++ (3 ∷ 6 ∷ 0 ∷ 3 ∷ 3 ∷ 1 ∷ []) ++ (4 ∷ 3 ∷ 0 ∷ 6 ∷ 3 ∷ 1 ∷ []))
  -- the area balance by the board's own W×H, 63 and 27
  pub balance-first : areas 1 two_sizes plan_two ≡ (20 ∷ 43 ∷ 0 ∷ 0 ∷ [])
  pub balance-last : areas 3 two_sizes plan_two ≡ (27 ∷ 0 ∷ 0 ∷ 0 ∷ [])
  -- the cost of 4,000 boards
  pub dearest-plan : plan dearest (4000 ∷ []) ≡ succeeds (4000 ∷ 3996000 ∷ []) (3 ∷ 3 ∷ 1 ∷ 999 ∷ []) (0 ∷ 2 ∷ 0 ∷ 0 ∷ []) []
  -- the last of six sizes alone is opened
  pub sixth : (plan (six_sizes 3 3 999 2) (0 ∷ 0 ∷ 0 ∷ 0 ∷ 0 ∷ 2 ∷ [])).answer ≡ given (2 ∷ 1998 ∷ [])
  -- sizes 2 and 5 are opened: a line gives the size of its board, not how many sizes came before it
  pub sixth-laid : (unfolding' (six_sizes 3 3 999 2) (0 ∷ 0 ∷ 1 ∷ 0 ∷ 0 ∷ 1 ∷ [])).third ≡ filled placements_size ((1 ∷ 2 ∷ 1 ∷ 1 ∷ 1 ∷ 1 ∷ 0 ∷ 0 ∷ 0 ∷ []) ++ (2 ∷ 5 ∷ 1 ∷ 1 ∷ 1 ∷ 1 ∷ 0 ∷ 0 ∷ 0 ∷ []))

-- layouts on several sizes: "a line whose size differs from that of its board's first line is refusal 15"
pub record SizeLayouts : Type 0 where
  -- board 1 of size 1, board 2 of size 0: two boards at a cost of 6, the cuts of both sizes counted
  pub two-sizes :
      folding dear_and_cheap ((1 ∷ 1 ∷ 1 ∷ 1 ∷ 1 ∷ 1 ∷ 0 ∷ 0 ∷ 0 ∷ []) ++ (2 ∷ 0 ∷ 1 ∷ 1 ∷ 1 ∷ 1 ∷ 0 ∷ 0 ∷ 0 ∷ []))
      ≡ succeeds (2 ∷ 6 ∷ [])
      ((9 ∷ 7 ∷ 1 ∷ 5 ∷ []) ++ (3 ∷ 3 ∷ 1 ∷ 1 ∷ []) ++ (9 ∷ 4 ∷ 1 ∷ 0 ∷ []) ++ (6 ∷ 3 ∷ 2 ∷ 0 ∷ []) ++ (3 ∷ 3 ∷ 2 ∷ 0 ∷ []))
      ((0 ∷ 2 ∷ 2 ∷ 3 ∷ []) ++ (1 ∷ 2 ∷ 0 ∷ 0 ∷ []) ++ (2 ∷ 2 ∷ 0 ∷ 3 ∷ []) ++ (3 ∷ 2 ∷ 0 ∷ 4 ∷ []) ++ (4 ∷ 2 ∷ 0 ∷ 0 ∷ []))
      (filled counts_size (1 ∷ 1 ∷ []))
  -- another size on the second line of a board: 15, that line
  pub size-differs : folding dear_and_cheap ((1 ∷ 1 ∷ 1 ∷ 1 ∷ 1 ∷ 1 ∷ 0 ∷ 0 ∷ 0 ∷ []) ++ (1 ∷ 0 ∷ 1 ∷ 2 ∷ 1 ∷ 1 ∷ 3 ∷ 0 ∷ 0 ∷ [])) ≡ refuses 15 2 (replicate counts_size 0)
  -- sizes over all lines before turns over any, or turns before sizes: both in one pass, the lowest line first
  pub lowest-line :
      (folding dear_and_cheap ((1 ∷ 0 ∷ 1 ∷ 1 ∷ 1 ∷ 1 ∷ 0 ∷ 0 ∷ 0 ∷ []) ++ (1 ∷ 0 ∷ 1 ∷ 3 ∷ 1 ∷ 1 ∷ 3 ∷ 0 ∷ 0 ∷ []) ++ (1 ∷ 1 ∷ 1 ∷ 2 ∷ 1 ∷ 1 ∷ 3 ∷ 0 ∷ 0 ∷ []))).answer
      ≡ refused 15 2
  pub lowest-line-size :
      (folding dear_and_cheap ((1 ∷ 0 ∷ 1 ∷ 1 ∷ 1 ∷ 1 ∷ 0 ∷ 0 ∷ 0 ∷ []) ++ (1 ∷ 1 ∷ 1 ∷ 2 ∷ 1 ∷ 1 ∷ 3 ∷ 0 ∷ 0 ∷ []) ++ (1 ∷ 0 ∷ 1 ∷ 4 ∷ 1 ∷ 1 ∷ 6 ∷ 0 ∷ 0 ∷ []))).answer
      ≡ refused 15 2
  -- a size that the job has not: 2, that line, before 15 of an earlier one
  pub size-past : folding dear_and_cheap ((1 ∷ 1 ∷ 1 ∷ 1 ∷ 1 ∷ 1 ∷ 0 ∷ 0 ∷ 0 ∷ []) ++ (2 ∷ 2 ∷ 1 ∷ 1 ∷ 1 ∷ 1 ∷ 0 ∷ 0 ∷ 0 ∷ [])) ≡ refuses 2 2 (replicate counts_size 0)
  pub limits-first : (folding dear_and_cheap ((1 ∷ 1 ∷ 2 ∷ 1 ∷ 1 ∷ 1 ∷ 0 ∷ 0 ∷ 0 ∷ []) ++ (2 ∷ 2 ∷ 1 ∷ 1 ∷ 1 ∷ 1 ∷ 0 ∷ 0 ∷ 0 ∷ []))).answer ≡ refused 2 2
  -- 17 by the first size's W and H, or by the largest: two of 3 by 3 on 3 by 3, and on 9 by 7
  pub own-sides : (folding dear_and_cheap ((1 ∷ 1 ∷ 1 ∷ 1 ∷ 1 ∷ 1 ∷ 0 ∷ 0 ∷ 0 ∷ []) ++ (1 ∷ 1 ∷ 1 ∷ 2 ∷ 1 ∷ 1 ∷ 3 ∷ 0 ∷ 0 ∷ []))).answer ≡ refused 17 1
  pub larger-size : (folding dear_and_cheap ((1 ∷ 0 ∷ 1 ∷ 1 ∷ 1 ∷ 1 ∷ 0 ∷ 0 ∷ 0 ∷ []) ++ (1 ∷ 0 ∷ 1 ∷ 2 ∷ 1 ∷ 1 ∷ 3 ∷ 0 ∷ 0 ∷ []))).answer ≡ given (1 ∷ 5 ∷ [])
  pub own-height : (folding two_sizes ((1 ∷ 1 ∷ 1 ∷ 1 ∷ 1 ∷ 2 ∷ 0 ∷ 0 ∷ 0 ∷ []) ++ (1 ∷ 1 ∷ 2 ∷ 1 ∷ 1 ∷ 2 ∷ 0 ∷ 3 ∷ 0 ∷ []))).answer ≡ refused 17 2
  -- demand 3's words: boards of each size and cost of a set, rules and rectangles by the board's own size
  pub sheets-of-first : sheets_of 0 (set_of lines_two) ≡ 2
  pub sheets-of-second : sheets_of 1 (set_of lines_two) ≡ 1
  pub set-cost : set_cost (job_of two_sizes) (set_of lines_two) ≡ 7
  pub rules : layout_rules (job_of two_sizes) (set_of lines_two) ≡ true
  pub rules-own-size : layout_rules (job_of two_sizes) (sheet 1 (((2 ∷ []) ∷ []) ∷ []) ∷ []) ≡ false
  pub rules-size-past : layout_rules (job_of two_sizes) (sheet 2 (((4 ∷ []) ∷ []) ∷ []) ∷ []) ≡ false
  pub inside-own-size : inside (job_of two_sizes) (placement_of (opened 1 0) 1 1 1 4 0 4) ≡ true
  pub past-own-size : inside (job_of two_sizes) (placement_of (opened 1 1) 1 1 1 4 0 4) ≡ false

-- "the bound's price rule on a size is D times its cost"; "Fewest" becomes "cheapest"
pub record SizePrices : Type 0 where
  -- residual prices that begin at plate type 1, or a limit of D for every size
  pub accepted : prices two_sizes (1 ∷ 1 ∷ 0 ∷ 0 ∷ 0 ∷ 1 ∷ 0 ∷ 0 ∷ []) ≡ succeeds (2 ∷ 1 ∷ []) plates_two cuts_two []
  pub at-limit : (prices (on_board 2 0 3 3 1 0 (3 ∷ 3 ∷ 1 ∷ 0 ∷ [])) (2 ∷ 2 ∷ [])).answer ≡ given (2 ∷ 2 ∷ [])
  pub times-cost : (prices equal_sizes (1 ∷ 2 ∷ [])).answer ≡ given (2 ∷ 1 ∷ [])
  pub each-size : prices equal_sizes (1 ∷ 3 ∷ []) ≡ refuses 14 2 []
  pub over : prices two_sizes (1 ∷ 0 ∷ 1 ∷ 0 ∷ 0 ∷ 1 ∷ 1 ∷ 1 ∷ []) ≡ refuses 14 3 []
  -- a sum and a product that need more than 16 and more than 32 bits
  pub sum : prices dearest (9999 ∷ 9999 ∷ []) ≡ succeeds (39996000 ∷ 9999 ∷ []) (3 ∷ 3 ∷ 1 ∷ 999 ∷ []) (0 ∷ 2 ∷ 0 ∷ 0 ∷ []) []
  pub not-cheapest : cheapest (job_of dearest) (prices_of (job_of dearest) (9999 ∷ 9999 ∷ [])) 3996000 ≡ false
  pub product-wraps : cheapest (job_of dearest) (prices_of (job_of dearest) (1075 ∷ 9999 ∷ [])) 3996000 ≡ false
  -- (cost−1)×D: below the sum, and equal to it
  pub is-cheapest : cheapest (job_of equal_sizes) (prices_of (job_of equal_sizes) (1 ∷ 2 ∷ [])) 2 ≡ true
  pub one_more : cheapest (job_of equal_sizes) (prices_of (job_of equal_sizes) (1 ∷ 2 ∷ [])) 3 ≡ false
