-- The lines 6 that stand whole in a part: each is taken by the definition's reader as by the code, and one after another they make a run.
use Prim.Native.Nat.{ℕ, suc, ◌+◌, ◌-◌, ◌*◌, ◌≤◌, ◌<◌}
use native.Mathlib.Omega.{arith}
use native.Mathlib.Numerals.{add-one}
use mathlib.Core.Path.{◌≡◌, refl, sym, ap, subst, ◌∙◌}
use mathlib.Core.List.{List, [], ◌∷◌, ◌++◌}
use mathlib.Core.Option.{Option, some}
use lib.ListN.{length, get_or, set, take, drop, replicate, length-set}
use lib.Seq.{drop-drop}
use borrow.Author.Tests.{ne_eqb}
use Rattle.job.specs.declared.counters.BoardSizes.{BoardSizes}
use Rattle.job.specs.declared.counters.PlateType.{PlateType}
use Rattle.job.specs.Sizes.{prices_size}
use Rattle.listing.proofs.CodeHolds.{held_word}
use Rattle.std.specs.Prelude.{Some, Ok}
use Rattle.columns.specs.Widths.{group_bytes, most_numbers, line_bytes}
use Rattle.columns.specs.Group.{number_of}
use Rattle.columns.specs.Line.{also, numbers_of, CompleteAs}
use Rattle.columns.proofs.LineLaws.{line-fits, line-numbers}
use Rattle.texts.specs.Shape.{plate_price_line, numbers_row}
use Rattle.texts.specs.Reader.{Reader, max_lines}
use Rattle.texts.specs.JobLines.{plate_prices, board_sizes}
use Rattle.texts.specs.SawText.{Saw, after_plate_price}
use Rattle.texts.proofs.ShapeLaws.{shape-passes}
use Rattle.texts_reading.specs.declared.text.Place.TheVariants.{PlatePrices}
use Rattle.texts_reading.specs.Judged.{line_verdict}
use Rattle.texts_reading.proofs.LineWithin.{within}
use Rattle.saw_text_body.specs.declared.price_lines.PriceLines.{PriceLines}
use Rattle.saw_text_lines.specs.SawKept.{lent, TakenAs}
use Rattle.saw_text_lines.proofs.PriceTakes.{plate-price-taken}
use Rattle.saw_text_reader.specs.declared.prices.PriceRun.{PriceRun}
use Rattle.saw_text_reader.specs.declared.saw.SawReader.{SawReader}
use Rattle.saw_text_reader.specs.SawFed.{SawKept}
use Rattle.saw_text_reader.specs.Onward.{Onward, ReadOn}
use Rattle.saw_text_reader.specs.PriceRun.{PriceLine, PlateWithin, in_prices, PricedBy, InPrices, PricesRan}
use Rattle.saw_text_reader.proofs.WholeSteps.{onward_then, line-onward}

-- a list of one number
only : (ns rest : List ℕ) → length ns ≡ 1 → ns ≡ get_or (ns ++ rest) 0 0 ∷ []
only [] rest e = absurd (omega arith)
only (x ∷ []) rest e = refl
only (x ∷ y ∷ ns) rest e = absurd (omega arith)

-- the kind, the plate type, and then a line of one number, which is the price
pub three-numbers :
    (part : List ℕ) (at j : ℕ) (was numbers : List ℕ)
    → number_of (take group_bytes (drop at part)) ≡ Some 6
    → number_of (take group_bytes (drop (at + group_bytes) part)) ≡ Some j
    → CompleteAs (drop (at + 2 * group_bytes) part) was numbers (Some 1)
    → numbers_of 3 (drop at part) ≡ some (6 ∷ j ∷ get_or numbers 0 0 ∷ [])
unfolding numbers_of
three-numbers part at j was numbers p q (h, (ns, e, held)) =
    let two : at + group_bytes + group_bytes ≡ at + 2 * group_bytes = omega arith in
    let rest : drop group_bytes (drop (at + group_bytes) part) ≡ drop (at + 2 * group_bytes) part = drop-drop group_bytes (at + group_bytes) part ∙ ap (λ (i : ℕ). drop i part) two in
    let read : numbers_of 3 (drop at part) ≡ also (Some 6) (also (Some j) (numbers_of 1 (drop (at + 2 * group_bytes) part))) = rw (p, drop-drop group_bytes at part, q, rest) in
    let price : ns ≡ get_or numbers 0 0 ∷ [] = rw held (only ns (drop 1 was) (line-numbers 1 (drop (at + 2 * group_bytes) part) ns e).0) in
    read ∙ ap (λ (o : Option (List ℕ)). also (Some 6) (also (Some j) o)) (e ∙ ap some price)

-- the plate type after j
abbrev following : PlateType → PlateType
following j = record { 0 = j.0 + 1 }

-- where the price of plate type j stands among the price words
abbrev word_of : BoardSizes → PriceLines → PlateType → ℕ
word_of t priced j = priced.types.0 + 1 + (j.0 - t.0)

-- what the code knows of a line 6 of plate type j at `at`: it is not the last, and its price stands there
pub record Line (part : List ℕ) (t : BoardSizes) (priced : PriceLines) (at lines : ℕ) (j : PlateType) (price : ℕ) : Type 0 where
  pub few : lines < max_lines
  pub plate : PlateWithin t priced j
  pub more : j.0 + 1 < t.0 + priced.residuals
  pub line : PriceLine part at j.0 price

module _
    (part : List ℕ) (t : BoardSizes) (priced : PriceLines) (at lines : ℕ) (j : PlateType) (price : ℕ)
    (l : Line part t priced at lines j price)
    (f : SawReader) (job plates cuts counts prices : List ℕ) (by : PricedBy f priced) (sizes : board_sizes job ≡ t.0) (room : prices_size ≤ length prices)
  where
    -- the numbers of the line, and the price words with its price
    abbrev ns : List ℕ
    ns = 6 ∷ j.0 ∷ price ∷ []

    abbrev prices' : List ℕ
    prices' = set prices (word_of t priced j) price

    -- they are in order and within their limits
    judged : (line : ℕ) → line_verdict 0 line ≡ numbers_row line (plate_price_line j.0 ∷ []) ns
    judged line = sym (shape-passes (plate_price_line j.0) line [] ns (record { others = price ∷ []; numbers = refl; limits = (omega arith, l.line.limit, tt); turned = refl }))

    -- another line 6 comes next
    next : plate_prices (j.0 + 1) ≡ after_plate_price t.0 priced.residuals j.0
    unfolding after_plate_price
    next = rw (ne_eqb (suc j.0) (t.0 + priced.residuals) (λ e. omega (arith, e, l.more)), add-one)

    -- its numbers are taken as the code takes them
    took : (p : Reader Saw) → SawKept p (in_prices f j lines) (lent job plates cuts counts prices) → TakenAs p.state p.lines ns f.held (Ok (record { place = PlatePrices (following j); held = f.held })) (lent job plates cuts counts prices')
    took p kept =
        let here : p.state.place ≡ plate_prices j.0 = sym kept.text.stands in
        rw (← by.prices-are)
        (plate-price-taken p.state p.lines 0 j ns job plates cuts counts prices f.held here judged kept.held t.0 (sym (held_word p.state.job kept.held.words 2) ∙ sizes) (PlatePrices (following j)) refl
        (rw by.prices-are (omega (arith, room, l.plate.few-types, l.plate.few-residuals, l.plate.from, l.more))) (rw by.prices-are next))

    -- and what is left of the part goes on
    line_on : Onward part at (in_prices f j lines) (lent job plates cuts counts prices) (at + group_bytes * 3 + 1) (in_prices f (following j) (lines + 1)) (lent job plates cuts counts prices')
    line_on =
        line-onward part at 3 (ns ++ drop 3 (replicate most_numbers 0)) (in_prices f j lines) (PlatePrices (following j)) f.held (lent job plates cuts counts prices) (lent job plates cuts counts prices') l.few by.none-begun
        (within (in_prices f j lines).text part at (replicate most_numbers 0) (ns ++ drop 3 (replicate most_numbers 0)) refl l.few by.none-begun refl (Some 3) (omega arith, (ns, l.line.numbers, refl)))
        (record { job = refl; plates = refl; cuts = refl; counts = refl; prices = length-set prices (word_of t priced j) price }) took

-- no line yet
pub ran-none :
    (part : List ℕ) (from : ℕ) (t : BoardSizes) (priced : PriceLines) (first : PlateType) (before : ℕ) (prices : List ℕ)
    → from ≤ length part
    → before ≤ max_lines
    → PlateWithin t priced first
    → PricesRan part from t priced first before prices (record { plate = first; lines = before; at = from }) prices
ran-none part from t priced first before prices h n w =
    record { few = n; on = omega arith; within = h; long = refl; next = w; onward = λ f job plates cuts counts by sizes r kept. (r, kept, refl) }

-- one line more
pub ran-more :
    (part : List ℕ) (from : ℕ) (t : BoardSizes) (priced : PriceLines) (first : PlateType) (before : ℕ) (prices₀ : List ℕ) (at lines : ℕ) (j : PlateType) (prices : List ℕ) (price : ℕ)
    → prices_size ≤ length prices
    → PricesRan part from t priced first before prices₀ (record { plate = j; lines = lines; at = at }) prices
    → Line part t priced at lines j price
    → PricesRan part from t priced first before prices₀ (record { plate = following j; lines = lines + 1; at = at + line_bytes 3 }) (set prices (word_of t priced j) price)
ran-more part from t priced first before prices₀ at lines j prices price room ran l =
    let w = l.plate in
    let e : at + group_bytes * 3 + 1 ≡ at + line_bytes 3 = omega arith in
    record {
      few = omega (arith, l.few);
      on = omega (arith, ran.on);
      within = line-fits part at 3 _ l.line.numbers;
      long = length-set prices (word_of t priced j) price ∙ ran.long;
      next = record { few-sizes = w.few-sizes; few-types = w.few-types; few-residuals = w.few-residuals; from = omega (arith, w.from); to = l.more };
      onward = λ f job plates cuts counts by sizes.
          rw (← e) (onward_then part from at (at + group_bytes * 3 + 1) _ _ _ _ _ _ (ran.onward f job plates cuts counts by sizes) (line_on part t priced at lines j price l f job plates cuts counts prices by sizes room));
    }

-- a state at its lines 6 is what it is with its own plate type and number of lines
own-prices : (f : SawReader) (t : BoardSizes) (j : PlateType) → f.text.place ≡ PlatePrices j → InPrices f t j → f ≡ in_prices f j f.text.lines
own-prices f t j e b = λ i. record { text = record { place = e i; lines = f.text.lines; refusal = b.goes i; pending = f.text.pending }; held = f.held }

-- a run from such a state
pub read-prices :
    (part : List ℕ) (from : ℕ) (f : SawReader) (job prices : List ℕ) (t : BoardSizes) (j : PlateType) (run : PriceRun) (prices' : List ℕ)
    → f.text.place ≡ PlatePrices j
    → InPrices f t j
    → board_sizes job ≡ t.0
    → PricesRan part from t f.held.prices j f.text.lines prices run prices'
    → (plates cuts counts : List ℕ)
    → ReadOn part from f (lent job plates cuts counts prices) run.at (in_prices f run.plate run.lines) (lent job plates cuts counts prices')
read-prices part from f job prices t j run prices' e b sizes ran plates cuts counts =
    record {
      ready = record { few = ran.few; short = omega (arith, b.none-begun) };
      on = ran.on;
      within = ran.within;
      onward = λ r kept.
          ran.onward f job plates cuts counts (record { none-begun = b.none-begun; prices-are = refl }) sizes r (subst (λ (g : SawReader). SawKept r g (lent job plates cuts counts prices)) (own-prices f t j e b) kept);
    }
