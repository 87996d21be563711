-- Document 01, "Texts": what is written to a lent output, and the lines of which it is made.
use Rattle.std.specs.Prelude.{ℕ, ◌+◌, ◌*◌, ◌≡◌, true, false, cond, List, [], ◌∷◌, eqb, length}
use Rattle.std.proofs.Math.Option.{Option, none, some}
use Rattle.job.specs.Sizes.{max_pieces}
use Rattle.job.specs.Job.{Job}
use Rattle.listing.specs.declared.plate.Plate.{Plate}
use Rattle.listing.specs.Listing.{Cut}
use Rattle.plan.specs.Prices.{prices_of, price_sum, is_cheapest}
use Rattle.columns.specs.Group.{put}
use Rattle.columns.specs.Line.{line_of}
use Rattle.texts.specs.Widths.{plan_line_bytes, placement_line_bytes, summary_line_bytes}
use Rattle.texts.specs.SawText.{PriceLines}
use Rattle.texts.specs.FoldText.{count_row}

-- bytes written to the output d from `at` to `end`, which makes it `out`: every other byte is as it was
pub record Wrote (d : List ℕ) (at : ℕ) (bytes : List ℕ) (end : ℕ) (out : List ℕ) : Type 0 where
  pub bytes-put : out ≡ put d at bytes
  pub end-at : end ≡ at + length bytes

-- the bytes of the longest output of the saw program, 4,000 lines 7 and a line 8; and of the fold program, 4,000 lines 3
abbrev pub longest_saw : ℕ
longest_saw = placement_line_bytes * max_pieces + summary_line_bytes

abbrev pub longest_fold : ℕ
longest_fold = plan_line_bytes * max_pieces

-- line 3 of a cut, if it is counted, where `plates` gives the plate type of a number (request Five)
unfoldable pub count_line : (ℕ → Plate) → Cut → ℕ → List ℕ
count_line plates c n = elim (eqb n 0) [ true ↦ [] | false ↦ line_of (count_row (plates c.plate) c n) ]

-- line 8: cost, sum, D, cheapest
unfoldable pub summary_line : ℕ → ℕ → ℕ → List ℕ
summary_line cost sum d = line_of (8 ∷ cost ∷ sum ∷ d ∷ cond (is_cheapest cost sum d) 1 0 ∷ [])

-- the sum and D of the lines 4, 5 and 6: "without prices: sum 0, D 1"
unfoldable pub sum_given : Job → Option PriceLines → ℕ
sum_given job none = 0
sum_given job (some pl) = price_sum job (prices_of job pl.words)

unfoldable pub denominator_given : Job → Option PriceLines → ℕ
denominator_given job none = 1
denominator_given job (some pl) = (prices_of job pl.words).denominator
