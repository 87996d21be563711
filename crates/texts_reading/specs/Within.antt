-- Document 01, "Texts": a line of the form that begins and ends in a part.
use Rattle.std.specs.Prelude.{ℕ, ◌+◌, ◌-◌, ◌*◌, ◌≤◌, ◌≡◌, true, List, ◌++◌, length, take, drop, Option, Some, None}
use Rattle.std.proofs.Math.Option.{some}
use Rattle.columns.specs.Widths.{group_bytes, most_numbers}
use Rattle.columns.specs.Line.{read_line}
use Rattle.texts.specs.Reader.{longest_line}
use Rattle.texts_reading.specs.declared.text.TextReader.{TextReader}
use Rattle.texts_reading.specs.Begun.{Begun}
use Rattle.texts_reading.specs.LineEnd.{LineEnd}
use Rattle.texts_reading.specs.Standing.{line_ends}

-- the line of a text that begins at `at` of a part has k numbers, the first of an array of ten
pub record LineWithin (t : TextReader) (part : List ℕ) (at : ℕ) (numbers : List ℕ) (k : ℕ) : Type 0 where
  pub size : length numbers ≡ most_numbers
  pub few : k ≤ most_numbers
  pub end : LineEnd part at (longest_line - t.pending.length) (at + group_bytes * k)
  pub ends : line_ends t at (at + group_bytes * k) (length part) ≡ true
  pub reads :
      (bs : List ℕ)
      → Begun t.pending bs
      → read_line (bs ++ take (at + group_bytes * k + 1 - at) (drop at part)) ≡ some (take k numbers)

-- what is said where such a line is found; where none is, nothing is said
abbrev pub Within : TextReader → List ℕ → ℕ → List ℕ → Option ℕ → Type 0
Within t part at numbers (Some k) = LineWithin t part at numbers k
Within t part at numbers None = Unit {0}
