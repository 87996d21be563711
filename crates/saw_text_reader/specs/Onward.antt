-- Document 01, "Texts": some lines of a part, taken one after another: what is left of the part goes on from the state and the lent buffers after them.
use Rattle.std.specs.Prelude.{ℕ, ◌≤◌, ◌≡◌, List, length, drop}
use Rattle.texts.specs.Reader.{Reader, fed}
use Rattle.texts.specs.SawText.{Saw, saw_grammar}
use Rattle.texts_reading.specs.Standing.{TextReady}
use Rattle.saw_text_lines.specs.SawKept.{Lent}
use Rattle.saw_text_reader.specs.declared.saw.SawReader.{SawReader}
use Rattle.saw_text_reader.specs.SawFed.{SawKept}

-- from `from` to `at` the lines of a part have been taken: what is left of it makes of the reader that is kept what the part from `from` on made of the one before
abbrev pub Onward : List ℕ → ℕ → SawReader → Lent → ℕ → SawReader → Lent → Type 0
Onward part from f b at f' b' = (r : Reader Saw) → SawKept r f b → (p : Reader Saw) × SawKept p f' b' × (fed saw_grammar r (drop from part) ≡ fed saw_grammar p (drop at part))

-- the lines of a part from `from` on to `at`, taken by a state, which is ready for the next
pub record ReadOn (part : List ℕ) (from : ℕ) (f : SawReader) (b : Lent) (at : ℕ) (f' : SawReader) (b' : Lent) : Type 0 where
  pub ready : TextReady f'.text
  pub on : from ≤ at
  pub within : at ≤ length part
  pub onward : Onward part from f b at f' b'
