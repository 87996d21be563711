-- Document 01, "Texts": the next line of a text in a part: its numbers, or it is not of the form, or none ends in the part.
use Rattle.std.specs.Prelude.{ℕ, ◌+◌, ◌-◌, ◌≤◌, ◌≡◌, true, false, List, ◌++◌, length, take, drop}
use Rattle.std.proofs.Math.Option.{none, some}
use Rattle.columns.specs.Widths.{most_numbers}
use Rattle.columns.specs.Line.{read_line}
use Rattle.texts.specs.Reader.{longest_line}
use Rattle.texts_reading.specs.declared.text.TextReader.{TextReader}
use Rattle.texts_reading.specs.Begun.{Begun}
use Rattle.texts_reading.specs.LineEnd.{LineEnd}
use Rattle.texts_reading.specs.Standing.{line_ends}
use Rattle.saw_text_reader.specs.declared.next.Next.{Next}
use Rattle.saw_text_reader.specs.declared.next.Next.TheVariants.{Numbers, Malformed, Rest}

-- a line ends at `end` of a part, and its k numbers are the first of an array of ten
pub record NumbersTo (t : TextReader) (part : List ℕ) (at : ℕ) (numbers : List ℕ) (k end : ℕ) : Type 0 where
  pub size : length numbers ≡ most_numbers
  pub few : k ≤ most_numbers
  pub end_is : LineEnd part at (longest_line - t.pending.length) end
  pub ends : line_ends t at end (length part) ≡ true
  pub reads :
      (bs : List ℕ)
      → Begun t.pending bs
      → read_line (bs ++ take (end + 1 - at) (drop at part)) ≡ some (take k numbers)

-- a line ends there that is not of the form
pub record MalformedTo (t : TextReader) (part : List ℕ) (at end : ℕ) : Type 0 where
  pub end_is : LineEnd part at (longest_line - t.pending.length) end
  pub ends : line_ends t at end (length part) ≡ true
  pub bad : (bs : List ℕ) → Begun t.pending bs → read_line (bs ++ take (end + 1 - at) (drop at part)) ≡ none

-- no line ends in the part
pub record RestTo (t : TextReader) (part : List ℕ) (at end : ℕ) : Type 0 where
  pub end_is : LineEnd part at (longest_line - t.pending.length) end
  pub ends : line_ends t at end (length part) ≡ false

-- the next line, as the code answers it
abbrev pub NextAs : TextReader → List ℕ → ℕ → List ℕ → Next → Type 0
NextAs t part at numbers (Numbers k end) = NumbersTo t part at numbers k end
NextAs t part at numbers (Malformed end) = MalformedTo t part at end
NextAs t part at numbers (Rest end) = RestTo t part at end
