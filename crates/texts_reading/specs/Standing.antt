-- Document 01, "Texts": where a text stands, as the code keeps it, and what the definition's reader is to it.
use Rattle.std.specs.Prelude.{ℕ, suc, ◌+◌, ◌-◌, ◌≤◌, ◌<◌, ◌≡◌, Bool, ◌&&◌, List, [], ◌++◌, eqb, ltb, take, drop}
use Rattle.texts.specs.Reader.{Reader, max_lines, longest_line}
use Rattle.texts.specs.JobLines as definition
use Rattle.texts_reading.specs.declared.text.Place.{Place}
use Rattle.texts_reading.specs.declared.text.Place.TheVariants.{First, Sizes, Types, Body, ItemPrices, PlatePrices, Done}
use Rattle.texts_reading.specs.declared.text.TextReader.{TextReader}
use Rattle.texts_reading.specs.Judged.{line_verdict}
use Rattle.texts_reading.specs.Begun.{Begun}

-- what comes next
abbrev pub place_of : Place → definition.Place
place_of First = definition.first
place_of (Sizes j) = definition.sizes j.0
place_of (Types i) = definition.types i.0
place_of Body = definition.body
place_of (ItemPrices i) = definition.item_prices i.0
place_of (PlatePrices j) = definition.plate_prices j.0
place_of Done = definition.done

-- the text stands at a place, after some lines, with a refusal or 0, and the bytes bs of the line that has begun
pub record TextAt (t : TextReader) (place : Place) (lines refusal : ℕ) (bs : List ℕ) : Type 0 where
  pub place_is : t.place ≡ place
  pub lines_are : t.lines ≡ lines
  pub refusal_is : t.refusal ≡ refusal
  pub begun : Begun t.pending bs

-- the text keeps what the definition's reader does; `place` is what comes next by the reader's state
pub record TextKept {S : Type 0} (place : S → definition.Place) (r : Reader S) (t : TextReader) : Type 0 where
  pub stands : place_of t.place ≡ place r.state
  pub lines : t.lines ≡ r.lines
  pub verdict : line_verdict t.refusal (suc t.lines) ≡ r.verdict
  pub begun : Begun t.pending r.pending

-- at most 99,999 lines, and at most 90 bytes of the line that has begun
pub record TextReady (t : TextReader) : Type 0 where
  pub few : t.lines ≤ max_lines
  pub short : t.pending.length < longest_line

-- a line ends at `end` of a part of `size` bytes: the text goes on, and the line is no longer than every kind
unfoldable pub line_ends : TextReader → ℕ → ℕ → ℕ → Bool
line_ends t at end size =
    eqb t.refusal 0
    && ltb t.lines max_lines
    && ltb (end - at + t.pending.length) longest_line
    && ltb end size

-- what the rest of a part, from `at` to `end`, makes of a text where no line ends in it
pub record Rest (t : TextReader) (part : List ℕ) (at end : ℕ) (r : TextReader) : Type 0 where
  -- a text that is refused stays as it is
  pub was : (t.refusal ≡ 0 → ⊥) → r ≡ t
  -- any byte after 99,999 lines is 1
  pub over : t.refusal ≡ 0 → max_lines ≤ t.lines → TextAt r t.place t.lines 1 []
  -- a line longer than every kind is 1
  pub long : t.refusal ≡ 0 → t.lines < max_lines → longest_line ≤ end - at + t.pending.length → TextAt r t.place t.lines 1 []
  -- else its bytes are kept
  pub kept :
      t.refusal ≡ 0
      → t.lines < max_lines
      → end - at + t.pending.length < longest_line
      → (bs : List ℕ)
      → Begun t.pending bs
      → TextAt r t.place t.lines 0 (bs ++ take (end - at) (drop at part))
