-- Document 01, "Texts", taken in parts: what is kept after the bytes so far, and that any split of a text keeps the same.
use Rattle.std.specs.Prelude.{ℕ, ◌≡◌, List, length}
use Rattle.texts.specs.SawText.{saw_grammar}
use Rattle.texts_reading.specs.Parts as parts
use Rattle.saw_text_lines.specs.SawKept.{Lent}
use Rattle.saw_text_reader.specs.declared.saw.SawReader.{SawReader}
use Rattle.saw_text_reader.specs.SawFed.{SawKept, Fed}

-- the state and the lent buffers are those of the definition after the bytes bs
abbrev pub After : List ℕ → SawReader → Lent → Type 0
After = parts.After saw_grammar SawKept

-- buffers as long as others
pub record AsLong (b b₀ : Lent) : Type 0 where
  pub job : length b.job ≡ length b₀.job
  pub plates : length b.plates ≡ length b₀.plates
  pub cuts : length b.cuts ≡ length b₀.cuts
  pub counts : length b.counts ≡ length b₀.counts
  pub prices : length b.prices ≡ length b₀.prices

-- parts and splits
abbrev pub InParts : Type 0
InParts = parts.InParts saw_grammar SawKept Fed AsLong
