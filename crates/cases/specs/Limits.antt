-- Document 01's limits of words, each at its last value and at the first past it, as a call answers them.
-- They stand here as figures, not by the names that definitions give them; each field says what it shuts out.
use Rattle.std.specs.Prelude.{ℕ, ◌≡◌, List, [], ◌∷◌, replicate}
use Rattle.job.specs.Buffers.{given, refused}
use Rattle.job.specs.Job.{Job, job_of}
use Rattle.listing.specs.Listing.{going, stopped, walk, walk_within, listing_of}
use Rattle.cases.specs.Calls.{listing, plan, prices, unfolding', folding}
use Rattle.cases.specs.Jobs.{job_from, on_board, job_a, items_t, alone}

-- job words of one item type without leave and a blade of 0: stages, exact, W, H, and the type's width, height and demand
unfoldable pub one_type : ℕ → ℕ → ℕ → ℕ → ℕ → ℕ → ℕ → List ℕ
one_type stages exact w h wi hi d = on_board stages exact w h 1 0 (wi ∷ hi ∷ d ∷ 0 ∷ [])

-- 40 item types of 1 by 1 on a board of 1 by 1, each demanded once, with leave, which a square has no use of
unfoldable pub forty_types : List ℕ
forty_types = on_board 2 0 1 1 40 0 (replicate 160 1)

-- job T on two sizes of 9 by 7
unfoldable pub two_sizes_t : List ℕ
two_sizes_t = job_from 2 0 2 2 0 (9 ∷ 7 ∷ 1 ∷ 9 ∷ 7 ∷ 1 ∷ []) items_t

-- two item types of the board's size, demanded 3,999 times and once
unfoldable pub full_demands : List ℕ
full_demands = on_board 2 0 9 7 2 0 (9 ∷ 7 ∷ 3999 ∷ 0 ∷ 9 ∷ 7 ∷ 1 ∷ 0 ∷ [])

-- "Board W by H, each 1 to 10,000. Item types 1 to n, n from 1 to 40, each with width, height (1 to 10,000) and demand (1 to 4,000)"
pub record JobLimits : Type 0 where
  -- a greatest side of 9,999, of the board or of an item
  pub sides-greatest : (listing (one_type 2 0 10000 10000 10000 10000 1)).answer ≡ given (0 ∷ 1 ∷ [])
  -- a least side of 2, of the board or of an item; three stages or an exact mode that are refused
  pub sides-least : (listing (one_type 3 1 1 1 1 1 1)).answer ≡ given (0 ∷ 1 ∷ [])
  -- sides of the board from 0, or to 10,001; the place of the board is 0
  pub board-width-zero : (listing (one_type 2 0 0 7 3 3 1)).answer ≡ refused 2 0
  pub board-width-high : (listing (one_type 2 0 10001 7 3 3 1)).answer ≡ refused 2 0
  pub board-height-zero : (listing (one_type 2 0 9 0 3 3 1)).answer ≡ refused 2 0
  pub board-height-high : (listing (one_type 2 0 9 10001 3 3 1)).answer ≡ refused 2 0
  -- stages from 1
  pub stages-low : (listing (one_type 1 0 9 7 3 3 1)).answer ≡ refused 2 0
  -- sides of an item from 0, or to 10,001, where it would be 3
  pub item-width-zero : (listing (one_type 2 0 9 7 0 3 1)).answer ≡ refused 2 1
  pub item-width-high : (listing (one_type 2 0 9 7 10001 3 1)).answer ≡ refused 2 1
  pub item-height-zero : (listing (one_type 2 0 9 7 3 0 1)).answer ≡ refused 2 1
  pub item-height-high : (listing (one_type 2 0 9 7 3 10001 1)).answer ≡ refused 2 1
  -- a type limit of 39
  pub forty-types : (listing forty_types).answer ≡ given (0 ∷ 40 ∷ [])
  -- demands from 0, to 3,999 or to 4,001
  pub demand-zero : (listing (one_type 2 0 9 7 3 3 0)).answer ≡ refused 2 1
  pub demand-greatest : (listing (one_type 2 0 9 7 9 7 4000)).answer ≡ given (0 ∷ 1 ∷ [])
  pub demand-high : (listing (one_type 2 0 9 7 9 7 4001)).answer ≡ refused 2 1
  -- "the demands add up to at most 4,000": a limit of 3,999
  pub demands-greatest : (listing full_demands).answer ≡ given (0 ∷ 2 ∷ [])

-- "at most 2,048 plate types, type 0 among them, and 8,192 cuts"; the sizes among them (request Six)
pub record ModelLimits : Type 0 where
  -- limits of 2,047 or 2,049 plate types, of 8,191 or 8,193 cuts, or the two exchanged
  pub limits : (job : Job) → walk job ≡ walk_within 2048 8192 job
  -- a limit that is itself refused: job A has 6 plate types, its size among them, and 8 cuts
  pub at-both-limits : walk_within 6 8 (job_of job_a) ≡ going (listing_of (job_of job_a))
  -- "first met in the walk": always 7 first, or always 6; both limits are passed by job A, the plate types' by its first pair, the cuts' by its second
  pub types-met-first : walk_within 2 7 (job_of job_a) ≡ stopped 6
  pub cuts-met-first : walk_within 5 1 (job_of job_a) ≡ stopped 7

-- "a count for each cut, all together at most 4,000"; "a denominator D, 1 to 9,999, and a price 0 to 9,999"
pub record PlanLimits : Type 0 where
  -- a total limit of 3,999, or of 4,001
  pub total-greatest : (plan (alone 9 7) (4000 ∷ [])).answer ≡ given (4000 ∷ 4000 ∷ [])
  pub total-high : (plan (alone 9 7) (4001 ∷ [])).answer ≡ refused 10 0
  -- the first word past the last cut, and the lowest of two
  pub past-last-first : (plan job_a (0 ∷ 0 ∷ 0 ∷ 0 ∷ 0 ∷ 0 ∷ 0 ∷ 0 ∷ 1 ∷ 1 ∷ [])).answer ≡ refused 8 9
  pub past-last-unfolding : (unfolding' job_a (0 ∷ 0 ∷ 0 ∷ 0 ∷ 0 ∷ 0 ∷ 0 ∷ 0 ∷ 1 ∷ 1 ∷ [])).answer ≡ refused 8 9
  -- prices to 9,998 or to 10,000, of items or of residuals; a D to 9,998 or to 10,000
  pub price-greatest : (prices job_a (9999 ∷ 9999 ∷ 0 ∷ 0 ∷ 0 ∷ 9999 ∷ 0 ∷ 0 ∷ [])).answer ≡ given (19998 ∷ 9999 ∷ [])
  pub item-price-high : (prices job_a (1 ∷ 10000 ∷ 0 ∷ 0 ∷ 0 ∷ 1 ∷ 0 ∷ 0 ∷ [])).answer ≡ refused 2 2
  pub residual-price-high : (prices job_a (1 ∷ 1 ∷ 0 ∷ 0 ∷ 0 ∷ 10000 ∷ 0 ∷ 0 ∷ [])).answer ≡ refused 2 6
  pub denominator-high : (prices job_a (10000 ∷ 1 ∷ 0 ∷ 0 ∷ 0 ∷ 1 ∷ 0 ∷ 0 ∷ [])).answer ≡ refused 2 1
  -- price words of another length that are not 13: one more
  pub one-price-more : (prices job_a (1 ∷ 1 ∷ 0 ∷ 0 ∷ 0 ∷ 1 ∷ 0 ∷ 0 ∷ 0 ∷ [])).answer ≡ refused 13 0

-- "board, strip, stack, place 1 to 4,000; x, y 0 to 10,000", "type 1 to n", "over 4,000 lines", of layout words
pub record LayoutLimits : Type 0 where
  -- limits one lower: a line at all its highest values has no fault but its turn
  pub values-greatest : (folding job_a (4000 ∷ 0 ∷ 4000 ∷ 4000 ∷ 4000 ∷ 2 ∷ 10000 ∷ 10000 ∷ 0 ∷ [])).answer ≡ refused 15 1
  -- a board, strip, stack or place 0
  pub board-zero : (folding job_a (0 ∷ 0 ∷ 1 ∷ 1 ∷ 1 ∷ 1 ∷ 0 ∷ 0 ∷ 0 ∷ [])).answer ≡ refused 2 1
  pub strip-zero : (folding job_a (1 ∷ 0 ∷ 0 ∷ 1 ∷ 1 ∷ 1 ∷ 0 ∷ 0 ∷ 0 ∷ [])).answer ≡ refused 2 1
  pub stack-zero : (folding job_a (1 ∷ 0 ∷ 1 ∷ 0 ∷ 1 ∷ 1 ∷ 0 ∷ 0 ∷ 0 ∷ [])).answer ≡ refused 2 1
  pub place-zero : (folding job_a (1 ∷ 0 ∷ 1 ∷ 1 ∷ 0 ∷ 1 ∷ 0 ∷ 0 ∷ 0 ∷ [])).answer ≡ refused 2 1
  -- a board, strip, stack or place 4,001
  pub board-high : (folding job_a (4001 ∷ 0 ∷ 1 ∷ 1 ∷ 1 ∷ 1 ∷ 0 ∷ 0 ∷ 0 ∷ [])).answer ≡ refused 2 1
  pub strip-high : (folding job_a (1 ∷ 0 ∷ 4001 ∷ 1 ∷ 1 ∷ 1 ∷ 0 ∷ 0 ∷ 0 ∷ [])).answer ≡ refused 2 1
  pub stack-high : (folding job_a (1 ∷ 0 ∷ 1 ∷ 4001 ∷ 1 ∷ 1 ∷ 0 ∷ 0 ∷ 0 ∷ [])).answer ≡ refused 2 1
  pub place-high : (folding job_a (1 ∷ 0 ∷ 1 ∷ 1 ∷ 4001 ∷ 1 ∷ 0 ∷ 0 ∷ 0 ∷ [])).answer ≡ refused 2 1
  -- a type 0, or n + 1
  pub type-zero : (folding job_a (1 ∷ 0 ∷ 1 ∷ 1 ∷ 1 ∷ 0 ∷ 0 ∷ 0 ∷ 0 ∷ [])).answer ≡ refused 2 1
  pub type-high : (folding job_a (1 ∷ 0 ∷ 1 ∷ 1 ∷ 1 ∷ 3 ∷ 0 ∷ 0 ∷ 0 ∷ [])).answer ≡ refused 2 1
  -- a size of t (request Six)
  pub size-high : (folding job_a (1 ∷ 1 ∷ 1 ∷ 1 ∷ 1 ∷ 1 ∷ 0 ∷ 0 ∷ 0 ∷ [])).answer ≡ refused 2 1
  -- an x or y of 10,001
  pub x-high : (folding job_a (1 ∷ 0 ∷ 1 ∷ 1 ∷ 1 ∷ 1 ∷ 10001 ∷ 0 ∷ 0 ∷ [])).answer ≡ refused 2 1
  pub y-high : (folding job_a (1 ∷ 0 ∷ 1 ∷ 1 ∷ 1 ∷ 1 ∷ 0 ∷ 10001 ∷ 0 ∷ [])).answer ≡ refused 2 1
  -- 10 from 4,000 lines on, or from 4,002; the place 0; 10 after 15, which the second line would be
  pub lines-most : (folding two_sizes_t (replicate 36000 1)).answer ≡ refused 15 2
  pub lines-many : (folding two_sizes_t (replicate 36009 1)).answer ≡ refused 10 0
