-- Lines that stand whole in a part, one after another: each is taken by the definition's reader as by the code, and what is left of the part goes on.
use Prim.Native.Nat.{ℕ, ◌+◌, ◌*◌, ◌<◌}
use native.Mathlib.Omega.{arith}
use native.Mathlib.Numerals.{add-one}
use mathlib.Core.Path.{◌≡◌, refl, ◌∙◌}
use mathlib.Core.List.{List, [], ◌∷◌}
use mathlib.Core.Option.{some}
use lib.ListN.{length, take}
use Rattle.std.specs.Prelude.{Ok}
use Rattle.columns.specs.Widths.{group_bytes}
use Rattle.texts.specs.Reader.{Reader, max_lines, line_read}
use Rattle.texts.specs.SawText.{Saw, saw_grammar}
use Rattle.texts_reading.specs.declared.pending.Pending.{Pending}
use Rattle.texts_reading.specs.declared.text.Place.{Place}
use Rattle.texts_reading.specs.Begun.{Begun}
use Rattle.texts_reading.specs.Within.{LineWithin}
use Rattle.texts_reading.proofs.CodeText.{whole, line-fed}
use Rattle.saw_text_lines.specs.declared.held.SawHeld.{SawHeld}
use Rattle.saw_text_lines.specs.SawKept.{Lent, TakenAs}
use Rattle.saw_text_lines.proofs.KeptSound.{room-again}
use Rattle.saw_text_reader.specs.declared.saw.SawReader.{SawReader}
use Rattle.saw_text_reader.specs.SawFed.{SawReady, SawKept}
use Rattle.saw_text_reader.specs.Parts.{AsLong}
use Rattle.saw_text_reader.specs.Onward.{Onward}
use Rattle.saw_text_reader.proofs.SawSteps.{step-admitted}

-- some lines, and then some more
pub onward_then :
    (part : List ℕ) (from at end : ℕ) (f₀ f f' : SawReader) (b₀ b b' : Lent)
    → Onward part from f₀ b₀ at f b
    → Onward part at f b end f' b'
    → Onward part from f₀ b₀ end f' b'
onward_then part from at end f₀ f f' b₀ b b' on more r kept =
    let w = on r kept in
    let v = more w.0 w.1 in
    (v.0, v.1, w.2 ∙ v.2)

-- a line that has begun with no bytes
begun-empty : (p : Pending) (bs : List ℕ) → p.length ≡ 0 → Begun p bs → Begun p []
begun-empty p [] e b = b
begun-empty p (x ∷ bs) e b = absurd (omega (arith, e, b.size))

-- the state after an admitted line: what comes next, one line more, and what is then held
abbrev pub admitted_to : SawReader → Place → SawHeld → SawReader
admitted_to f place h = record { text = record { place = place; lines = f.text.lines + 1; refusal = 0; pending = f.text.pending }; held = h }

-- a line of g numbers, where none has begun, that is admitted
pub line-onward :
    (part : List ℕ) (at g : ℕ) (numbers : List ℕ) (f : SawReader) (place : Place) (h : SawHeld) (b b' : Lent)
    → f.text.lines < max_lines
    → f.text.pending.length ≡ 0
    → LineWithin f.text part at numbers g
    → AsLong b' b
    → ((p : Reader Saw) → SawKept p f b → TakenAs p.state p.lines (take g numbers) f.held (Ok (record { place = place; held = h })) b')
    → Onward part at f b (at + group_bytes * g + 1) (admitted_to f place h) b'
line-onward part at g numbers f place h b b' few none w long took p kept =
    let ready : SawReady (admitted_to f place h) b' = record { text = record { few = omega arith; short = omega arith }; room = room-again kept.ready.room long.job long.plates long.cuts long.counts long.prices } in
    let end = at + group_bytes * g in (
      line_read saw_grammar p (some (take g numbers)),
      step-admitted p f b b' (take g numbers) (admitted_to f place h).text kept (record { place = place; held = h }) (took p kept) ready
          (record { place_is = refl; lines_are = add-one f.text.lines; refusal_is = refl; begun = begun-empty f.text.pending p.pending none kept.text.begun }),
      rw (w.reads p.pending kept.text.begun) at (line-fed saw_grammar (λ (s : Saw). s.place) p f.text kept.text part at end w.end (omega (arith, none)) (whole f.text at end (length part) w.ends)),
    )
