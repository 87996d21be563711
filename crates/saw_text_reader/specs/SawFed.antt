-- Document 01, "Texts": the reader of a saw text in parts: what a state and lent buffers keep of the definition's reader, and what a part does to them.
use Rattle.std.specs.Prelude.{ℕ, suc, ◌≡◌, false, List, [], length, replicate, Result, Ok, Err}
use Rattle.job.specs.declared.refused.Refusal.{Refusal}
use Rattle.job.specs.Refused.{number_of}
use Rattle.saw_text_body.specs.declared.model.Model.TheVariants.{Refused}
use Rattle.texts.specs.Reader.{Reader, started, fed}
use Rattle.texts.specs.SawText.{Saw, saw_grammar}
use Rattle.texts_reading.specs.Standing.{TextAt, TextKept, TextReady}
use Rattle.saw_text_lines.specs.declared.held.SawHeld.{SawHeld}
use Rattle.saw_text_lines.specs.declared.held.Taken.{Taken}
use Rattle.saw_text_lines.specs.SawKept.{Lent, lent, Room, NoPlan, HeldAs}
use Rattle.saw_text_reader.specs.declared.saw.SawReader.{SawReader}

-- nothing is kept yet
pub record NoneHeld (h : SawHeld) : Type 0 where
  pub model : h.model ≡ Refused 1 0
  pub no-plan : NoPlan h.plan
  pub given : h.prices.given ≡ false
  pub types : h.prices.types.0 ≡ 0
  pub residuals : h.prices.residuals ≡ 0

-- the state's own numbers are sound, and the lent buffers are of full size
pub record SawReady (f : SawReader) (b : Lent) : Type 0 where
  pub text : TextReady f.text
  pub room : Room b

-- the state and the lent buffers keep what the definition's reader does
pub record SawKept (r : Reader Saw) (f : SawReader) (b : Lent) : Type 0 where
  pub ready : SawReady f b
  pub text : TextKept (λ (s : Saw). s.place) r f.text
  pub held : HeldAs r.state r.lines f.held b

-- a step from one state and its lent buffers to another, which does to the definition's reader what `next` says
pub record Step (next : Reader Saw → Reader Saw) (f : SawReader) (b : Lent) (f' : SawReader) (b' : Lent) : Type 0 where
  pub ready : SawReady f' b'
  pub kept : (r : Reader Saw) → SawKept r f b → SawKept (next r) f' b'

-- the state g after the next line of a text of state f, by what was taken of it: the line is admitted, or the text is refused and all that is kept stays
abbrev pub AfterLine : SawReader → Result Taken Refusal → SawReader → Type 0
AfterLine f (Ok t) g = TextAt g.text t.place (suc f.text.lines) 0 [] × (g.held ≡ t.held)
AfterLine f (Err x) g = TextAt g.text f.text.place f.text.lines (number_of x) [] × (g.held ≡ f.held)

-- every word is 0
abbrev pub zeros : List ℕ → List ℕ
zeros ws = replicate (length ws) 0

-- nothing is read yet: every lent word is 0, and where the buffers are of full size the definition's first reader is kept
pub record Started (b : Lent) (f : SawReader) (b' : Lent) : Type 0 where
  pub zeroed : b' ≡ lent (zeros b.job) (zeros b.plates) (zeros b.cuts) (zeros b.counts) (zeros b.prices)
  pub none-held : NoneHeld f.held
  pub kept : Room b → SawKept (started saw_grammar) f b'

-- a part is fed to a state and its lent buffers
pub record Fed (part : List ℕ) (f : SawReader) (b : Lent) (f' : SawReader) (b' : Lent) : Type 0 where
  -- for every reader of the definition that was kept, that reader with the part fed to it is kept
  pub kept : (r : Reader Saw) → SawKept r f b → SawKept (fed saw_grammar r part) f' b'
  -- a state that is not sound, or lent buffers that are not of full size, change nothing
  pub state-same : (SawReady f b → ⊥) → f' ≡ f
  pub lent_same : (SawReady f b → ⊥) → b' ≡ b
