-- A saw text in parts: one part after another keeps what the whole does, and what is kept is determined by the definition's reader.
use mathlib.Core.Path.{◌≡◌}
use Rattle.texts.specs.Reader.{Reader}
use Rattle.texts.specs.SawText.{Saw, saw_grammar}
use Rattle.texts_reading.proofs.CodeSplits as splits
use Rattle.saw_text_lines.specs.SawKept.{Lent}
use Rattle.saw_text_reader.specs.declared.saw.SawReader.{SawReader}
use Rattle.saw_text_reader.specs.SawFed.{SawKept, Fed}
use Rattle.saw_text_reader.specs.Parts.{AsLong, InParts}
use Rattle.saw_text_reader.proofs.HeldSame.{held-as-same}

-- what is kept of a reader is one state and one content of lent buffers
kept_same : (r : Reader Saw) (f f' : SawReader) (b b' : Lent) → SawKept r f b → SawKept r f' b' → AsLong b b' → (f ≡ f') × (b ≡ b')
kept_same r f f' b b' k k' l =
    let t : f.text ≡ f'.text = splits.text_same (λ (s : Saw). s.place) r f.text f'.text k.text k'.text in
    let w = held-as-same r.state r.lines r.lines f.held f'.held b b' l k.ready.room k.held k'.held in
    (λ i. record { text = t i; held = w.0 i }, w.1)

pub in_parts : InParts
in_parts = splits.in_parts saw_grammar SawKept Fed AsLong (λ part f f' b b' h. h.kept) kept_same
