-- A line of a saw text that ends in a part: of the form or not, and its numbers.
use Prim.Native.Nat.{ℕ, ◌+◌, ◌-◌, ◌/◌, ◌≤◌, ◌<◌}
use native.Mathlib.Omega.{arith}
use mathlib.Core.Path.{◌≡◌, sym, ap, ◌∙◌}
use mathlib.Core.List.{List, [], ◌++◌}
use mathlib.Core.Option.{none, some}
use lib.ListN.{length, take, drop, length-append, length-take, length-drop}
use Rattle.columns.specs.Widths.{group_bytes}
use Rattle.std.specs.Prelude.{Some}
use Rattle.columns.specs.Line.{read_line, line_from}
use Rattle.texts.specs.Reader.{Reader, max_lines, line_read}
use Rattle.texts.specs.SawText.{Saw, saw_grammar}
use Rattle.texts_reading.specs.declared.pending.Pending.{Pending}
use Rattle.texts_reading.specs.declared.text.TextReader.{TextReader}
use Rattle.texts_reading.specs.Begun.{Begun}
use Rattle.texts_reading.specs.Standing.{TextAt}
use Rattle.texts_reading.proofs.CodeLine.{line-numbers}
use Rattle.texts_reading.proofs.CodeText.{kept-refused, line-malformed, at_ready}
use Rattle.saw_text_lines.specs.SawKept.{Lent, Room}
use Rattle.saw_text_reader.specs.declared.saw.SawReader.{SawReader}
use Rattle.saw_text_reader.specs.SawFed.{SawReady, SawKept, Step}

-- a line that is not of the form
pub malformed-step :
    (f : SawReader) (b : Lent) (xs : List ℕ) (t : TextReader)
    → f.text.lines ≤ max_lines
    → Room b
    → TextAt t f.text.place f.text.lines 1 []
    → ((r : Reader Saw) → SawKept r f b → read_line (r.pending ++ xs) ≡ none)
    → Step (λ q. line_read saw_grammar q (read_line (q.pending ++ xs))) f b (record { text = t; held = f.held }) b
malformed-step f b xs t l room a bad =
    let ready : SawReady (record { text = t; held = f.held }) b = record { text = at_ready t a l; room = room } in
    record {
      ready = ready;
      kept = λ r k.
          rw (bad r k, line-malformed saw_grammar r)
          (record { ready = ready; text = kept-refused saw_grammar (λ (s : Saw). s.place) r f.text k.text 0 a; held = k.held });
    }

-- a line of the form: its numbers
pub line_step :
    (f f' : SawReader) (b b' : Lent) (xs ns : List ℕ)
    → Step (λ q. line_read saw_grammar q (some ns)) f b f' b'
    → ((r : Reader Saw) → SawKept r f b → read_line (r.pending ++ xs) ≡ some ns)
    → Step (λ q. line_read saw_grammar q (read_line (q.pending ++ xs))) f b f' b'
line_step f f' b b' xs ns step reads = record { ready = step.ready; kept = λ r k. rw (reads r k) (step.kept r k) }

-- the numbers that the code reads, as many as the line's length says
pub readable : (bs numbers : List ℕ) (groups : ℕ) → line_from (read_line bs) ≡ Some numbers → length bs / group_bytes ≡ groups → read_line bs ≡ some (take groups numbers)
readable bs numbers groups e n =
    let w = line-numbers bs numbers e in
    w.1.read ∙ ap some (sym w.1.held ∙ rw n)

-- how long a line is that ends in a part
pub whole-size : (p : Pending) (bs part : List ℕ) (at end : ℕ) → Begun p bs → at ≤ end → end < length part → length (bs ++ take (end + 1 - at) (drop at part)) ≡ p.length + (end + 1 - at)
whole-size p bs part at end b h l = simp (length-append, length-take, length-drop) (omega (arith, b.size))
