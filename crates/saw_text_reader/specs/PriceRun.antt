-- Document 01, "Texts": the lines 6 of a saw text that stand whole in a part, one after another: what they make of the state and of the price words.
use Rattle.std.specs.Prelude.{Option, Some, None, ℕ, ◌+◌, ◌≤◌, ◌<◌, ◌≡◌, List, [], ◌∷◌, length, drop}
use Rattle.std.proofs.Math.Option.{some}
use Rattle.job.specs.declared.counters.BoardSizes.{BoardSizes}
use Rattle.job.specs.declared.counters.PlateType.{PlateType}
use Rattle.job.specs.Sizes.{max_sizes, max_types, max_residuals, max_price}
use Rattle.columns.specs.Widths.{most_numbers}
use Rattle.columns.specs.Line.{numbers_of}
use Rattle.texts.specs.Reader.{max_lines}
use Rattle.texts.specs.JobLines.{board_sizes}
use Rattle.texts_reading.specs.declared.text.Place.TheVariants.{PlatePrices}
use Rattle.saw_text_body.specs.declared.price_lines.PriceLines.{PriceLines}
use Rattle.saw_text_lines.specs.SawKept.{lent}
use Rattle.saw_text_reader.specs.declared.prices.PriceRun.{PriceRun}
use Rattle.saw_text_reader.specs.declared.saw.SawReader.{SawReader}
use Rattle.saw_text_reader.specs.Onward.{Onward}

-- one past the greatest number of four digits, which no plate type reaches
abbrev pub four_digits : ℕ
four_digits = 10000

-- "6 plate type, price": the line of plate type j and of a price within its limits begins at `at` of a part, and ends in it
pub record PriceLine (part : List ℕ) (at j price : ℕ) : Type 0 where
  pub numbers : numbers_of 3 (drop at part) ≡ some (6 ∷ j ∷ price ∷ [])
  pub limit : price ≤ max_price

-- what is said where such a line is found, and that an array of ten is left; where none is, nothing is said
abbrev pub PriceAs : List ℕ → ℕ → ℕ → List ℕ → Option ℕ → Type 0
PriceAs part at j numbers (Some price) = PriceLine part at j price × (length numbers ≡ most_numbers)
PriceAs part at j numbers None = Unit {0}

-- plate type j is one of the residual types of a line 4, of a job of t sizes, and each number is within its limits
pub record PlateWithin (t : BoardSizes) (priced : PriceLines) (j : PlateType) : Type 0 where
  pub few-sizes : t.0 ≤ max_sizes
  pub few-types : priced.types.0 ≤ max_types
  pub few-residuals : priced.residuals ≤ max_residuals
  pub from : t.0 ≤ j.0
  pub to : j.0 < t.0 + priced.residuals

-- a saw text at line 6 of a plate type, where no line has begun or is refused, with this number of lines
abbrev pub in_prices : SawReader → PlateType → ℕ → SawReader
in_prices f j lines =
    record { text = record { place = PlatePrices j; lines = lines; refusal = 0; pending = f.text.pending }; held = f.held }

-- no line has begun, and line 4 is the one given
pub record PricedBy (f : SawReader) (priced : PriceLines) : Type 0 where
  pub none-begun : f.text.pending.length ≡ 0
  pub prices-are : f.held.prices ≡ priced

-- no line has begun or is refused, and plate type j is one of the text's own line 4
pub record InPrices (f : SawReader) (t : BoardSizes) (j : PlateType) : Type 0 where
  pub goes : f.text.refusal ≡ 0
  pub none-begun : f.text.pending.length ≡ 0
  pub plate : PlateWithin t f.held.prices j

-- lines 6 of a part from `from` on, of a job of t sizes and a line 4: the lines of the text stay within their number, the price words keep their length, another
-- line 6 comes next, and every state at its lines 6 goes on as the definition's reader does
pub record PricesRan (part : List ℕ) (from : ℕ) (t : BoardSizes) (priced : PriceLines) (first : PlateType) (before : ℕ) (prices : List ℕ) (r : PriceRun) (prices' : List ℕ) : Type 0 where
  pub few : r.lines ≤ max_lines
  pub on : from ≤ r.at
  pub within : r.at ≤ length part
  pub long : length prices' ≡ length prices
  pub next : PlateWithin t priced r.plate
  pub onward :
      (f : SawReader) (job plates cuts counts : List ℕ)
      → PricedBy f priced
      → board_sizes job ≡ t.0
      → Onward part from (in_prices f first before) (lent job plates cuts counts prices) r.at (in_prices f r.plate r.lines) (lent job plates cuts counts prices')
