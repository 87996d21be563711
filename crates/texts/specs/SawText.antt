-- Document 01, "Texts", with the sizes of request Six: the saw text, kinds 1, 10, 2, 3 "and, if present, 4, 5, 6", and what the saw program writes, "kinds 7
-- and 8, or one line 9 alone".
use Rattle.std.specs.Prelude.{ℕ, zero, suc, ◌+◌, ◌*◌, Bool, true, false, cond, not, leb, eqb, length, get_or, drop}
use mathlib.Core.List.{List, [], ◌∷◌, ◌++◌, flat_map}
use Rattle.std.proofs.Math.Option.{Option, none, some}
use Rattle.job.specs.Lists.{sum_of}
use Rattle.job.specs.Verdict.{Verdict, pass, refuse, ◌then◌, lowest}
use Rattle.job.specs.Job.{Job, type_of, turn_of, job_of, admission}
use Rattle.listing.specs.declared.plate.Plate.{Plate}
use Rattle.listing.specs.Plate.{plate, same}
use Rattle.listing.specs.Listing.{Listing, plate_at, model_row, listing_of}
use Rattle.plan.specs.Plan.{plan_row, plan_cost}
use Rattle.plan.specs.Prices.{prices_of, model_sized, prices_row, price_sum, cheapest}
use Rattle.layouts.specs.Placement.{Placement}
use Rattle.layouts.specs.Unfold.{unfolded}
use Rattle.layouts.specs.Fold.{cut_of}
use Rattle.columns.specs.Line.{line_of}
use Rattle.texts.specs.Shape.{Shape, job_line, size_line, item_line, plan_line, prices_line, item_price_line, plate_price_line}
use Rattle.texts.specs.Reader.{Grammar, Reader, started, fed, text_row, written}
use Rattle.texts.specs.JobLines.{Place, first, sizes, types, body, item_prices, plate_prices, done, board_sizes, types_of, after_size, after_type, body_line}

-- a line 3: plate, item type, its turn, count; request One, "a cut becomes plate, type and turn"; and the plate that it shows, request Five, "the plate's
-- width, height and stage"
pub record Counted : Type 0 where
  pub plate : ℕ
  pub type : ℕ
  pub turn : ℕ
  pub count : ℕ
  pub shown : Plate

-- lines 4, 5 and 6 so far: the n and the m of line 4, and the price words, D first
pub record PriceLines : Type 0 where
  pub types : ℕ
  pub residuals : ℕ
  pub words : List ℕ

-- a saw text so far: what comes next, the job's words, the lines 3, and the lines from 4 on if there are any
pub record Saw : Type 0 where
  pub place : Place
  pub job : List ℕ
  pub plan : List Counted
  pub prices : Option PriceLines

-- a saw text by its parts
abbrev pub saw_of : Place → List ℕ → List Counted → Option PriceLines → Saw
saw_of place ws rs ps = record { place = place; job = ws; plan = rs; prices = ps }

-- which lines are admitted
unfoldable pub saw_admits : Saw → List Shape
saw_admits s =
    elim s.place [
      | first ↦ job_line ∷ []
      | sizes j ↦ size_line j ∷ []
      | types i ↦ item_line i ∷ []
      | body ↦ plan_line s.job ∷ prices_line ∷ []
      | item_prices i ↦ item_price_line i ∷ []
      | plate_prices j ↦ plate_price_line j ∷ []
      | done ↦ []
    ]

-- what comes after line 5 of type i, of t sizes, n types and m residual types; after line 6 of plate type j. Request Six: residual types have the plate
-- numbers t to t+m−1
unfoldable pub after_item_price : ℕ → ℕ → ℕ → ℕ → Place
after_item_price t n m i = cond (eqb i n) (cond (eqb m 0) done (plate_prices t)) (item_prices (suc i))

unfoldable pub after_plate_price : ℕ → ℕ → ℕ → Place
after_plate_price t m j = cond (eqb (suc j) (t + m)) done (plate_prices (suc j))

-- one price more
abbrev pub with_price : PriceLines → ℕ → PriceLines
with_price ps price = record { types = ps.types; residuals = ps.residuals; words = ps.words ++ (price ∷ []) }

-- what an admitted line of prices makes of them: the next place is `next` of the n and the m of line 4
abbrev pub price_read : Saw → (ℕ → ℕ → Place) → ℕ → Saw
price_read s next price =
    elim s.prices [
      | none ↦ s
      | some ps ↦ record { place = next ps.types ps.residuals; job = s.job; plan = s.plan; prices = some (with_price ps price) }
    ]

-- the line 3 of numbers, the kind first: plate, item, count, width, height, stage, turn
abbrev pub counted_in : List ℕ → Counted
counted_in ns =
    record {
      plate = get_or ns 1 0;
      type = get_or ns 2 0;
      turn = get_or ns 7 0;
      count = get_or ns 3 0;
      shown = plate (get_or ns 4 0) (get_or ns 5 0) (get_or ns 6 0);
    }

-- a line of the body: of kind 3 it is one more of the plan, of kind 4 it begins the prices
unfoldable pub body_read : Saw → List ℕ → Saw
body_read s ns =
    elim (eqb (get_or ns 0 0) 3) [
      | true ↦
          record {
            place = body;
            job = s.job;
            plan = s.plan ++ (counted_in ns ∷ []);
            prices = none;
          }
      | false ↦
          record {
            place = item_prices 1;
            job = s.job;
            plan = s.plan;
            prices = some (record { types = get_or ns 2 0; residuals = get_or ns 3 0; words = get_or ns 1 0 ∷ [] });
          }
    ]

-- what an admitted line makes of the text; `ns` are its numbers, the kind first
unfoldable pub saw_after : Saw → List ℕ → Saw
saw_after s ns =
    elim s.place [
      | first ↦ record { place = sizes 0; job = drop 1 ns; plan = []; prices = none }
      | sizes j ↦ record { place = after_size (board_sizes s.job) j; job = s.job ++ drop 2 ns; plan = []; prices = none }
      | types i ↦ record { place = after_type (types_of s.job) i; job = s.job ++ drop 2 ns; plan = []; prices = none }
      | body ↦ body_read s ns
      | item_prices i ↦ price_read s (λ n m. after_item_price (board_sizes s.job) n m i) (get_or ns 2 0)
      | plate_prices j ↦ price_read s (λ n m. after_plate_price (board_sizes s.job) m j) (get_or ns 2 0)
      | done ↦ s
    ]

-- the text may end in its body, or after all of its prices
unfoldable pub saw_complete : Saw → Bool
saw_complete s =
    elim s.place [
      | first ↦ false
      | sizes j ↦ false
      | types i ↦ false
      | body ↦ true
      | item_prices i ↦ false
      | plate_prices j ↦ false
      | done ↦ true
    ]

abbrev pub saw_grammar : Grammar Saw
saw_grammar =
    record {
      start = record { place = first; job = []; plan = []; prices = none };
      admits = saw_admits;
      after = saw_after;
      complete = saw_complete;
    }

-- the position that a line 3 names, "twice the type plus the turn"
abbrev pub position_on : Counted → ℕ
position_on r = 2 * r.type + r.turn

-- the number of the cut that a line 3 names, 0 where there is no such cut
unfoldable pub named_cut : Listing → Counted → ℕ
named_cut l r = cut_of l r.plate (position_on r)

-- 8: "no such cut", naming the line; the lines 3 are numbered from k
unfoldable pub cuts_named : Listing → ℕ → List Counted → Verdict
cuts_named l k rs = lowest 8 (λ _ r. eqb (named_cut l r) 0) k rs

-- the plate that a line 3 shows is not the one that plate type has in the model
unfoldable pub misshown : Listing → Counted → Bool
misshown l r = not (same r.shown (plate_at l r.plate))

-- 20 (request Five): the plate's width, height and stage "disagree with the model", naming the line; the lines 3 are numbered from k
unfoldable pub plates_shown : Listing → ℕ → List Counted → Verdict
plates_shown l k rs = lowest 20 (λ _ r. misshown l r) k rs

-- 9: "cut not after the last", naming the line; the last cut is c, 0 before the first line
unfoldable pub cuts_rising : Listing → ℕ → ℕ → List Counted → Verdict
cuts_rising l c k [] = pass
cuts_rising l c k (r ∷ rs) =
    elim (leb (named_cut l r) c) [
      | true ↦ refuse 9 k
      | false ↦ cuts_rising l (named_cut l r) (suc k) rs
    ]

-- the count that the lines 3 give to cut k; "a missing cut counts 0"
unfoldable pub count_for : Listing → List Counted → ℕ → ℕ
count_for l rs k = sum_of (λ r. elim (eqb (named_cut l r) k) [ true ↦ r.count | false ↦ 0 ]) rs

-- the counts of n cuts, from cut k on
unfoldable pub counts_from : Listing → List Counted → ℕ → ℕ → List ℕ
counts_from l rs k zero = []
counts_from l rs k (suc n) = count_for l rs k ∷ counts_from l rs (suc k) n

unfoldable pub plan_counts : Listing → List Counted → List ℕ
plan_counts l rs = counts_from l rs 1 (length l.cuts)

-- the prices row of the lines 4, 5 and 6, if there is a line 4
unfoldable pub price_lines_row : Job → Listing → Option PriceLines → Verdict
price_lines_row job l none = pass
price_lines_row job l (some ps) =
    model_sized job l ps.types ps.residuals then prices_row job l (prices_of job ps.words)

-- the rows after the line row: job, model, plan, prices; in the plan row 20 stands "after 8 and before 9", each over all lines 3
unfoldable pub saw_rows : Saw → Verdict
saw_rows s =
    let job = job_of s.job in
    let l = listing_of job in
    admission job
    then model_row job
    then cuts_named l (body_line s.job) s.plan
    then plates_shown l (body_line s.job) s.plan
    then cuts_rising l 0 (body_line s.job) s.plan
    then plan_row job l (plan_counts l s.plan)
    then price_lines_row job l s.prices

-- line 7 of a placement, as numbers and as bytes; request One, lines 3 and 7 "end with the turn"; request Six, it "names its size after the board"
unfoldable pub placement_row : Placement → List ℕ
placement_row p =
    7
    ∷ p.turn.board.number
    ∷ p.turn.board.size
    ∷ p.turn.strip
    ∷ p.turn.stack
    ∷ p.turn.place
    ∷ type_of p.item
    ∷ p.x
    ∷ p.y
    ∷ turn_of p.item
    ∷ []

unfoldable pub placement_line : Placement → List ℕ
placement_line p = line_of (placement_row p)

-- line 8, as numbers and as bytes: cost, sum, D, cheapest, of a plan that costs so much; request Six, it "gives cost for boards", and "fewest" becomes
-- "cheapest"; without prices the sum is 0, D is 1 and cheapest is 0
unfoldable pub result_row : Job → ℕ → Option PriceLines → List ℕ
result_row job cost none = 8 ∷ cost ∷ 0 ∷ 1 ∷ 0 ∷ []
result_row job cost (some pl) =
    let ps = prices_of job pl.words in
    8 ∷ cost ∷ price_sum job ps ∷ ps.denominator ∷ cond (cheapest job ps cost) 1 0 ∷ []

unfoldable pub result_line : Job → ℕ → Option PriceLines → List ℕ
result_line job cost prices = line_of (result_row job cost prices)

-- what the saw program writes of a plan that is accepted
unfoldable pub saw_lines : Saw → List ℕ
saw_lines s =
    let job = job_of s.job in
    let l = listing_of job in
    let ns = plan_counts l s.plan in
    flat_map placement_line (unfolded job l ns).placements ++ result_line job (plan_cost job l ns) s.prices

-- the answer to a saw text so far, if it ends here
unfoldable pub saw_written : Reader Saw → List ℕ
saw_written r = written (text_row saw_grammar r then saw_rows r.state) (saw_lines r.state)

-- the saw text, from bytes to bytes
unfoldable pub saw_text : List ℕ → List ℕ
saw_text bs = saw_written (fed saw_grammar (started saw_grammar) bs)
