-- A saw text read in parts, whatever its split, and the answer where it ends.
use Prim.Native.Nat.{ℕ, ◌+◌, ◌-◌, ◌≤◌}
use native.Mathlib.Omega.{arith}
use mathlib.Core.Path.{◌≡◌, sym, ap, ◌∙◌, subst}
use mathlib.Core.List.{List, [], ◌++◌}
use lib.ListN.{length, take, drop}
use lib.Seq.{take-add, take-length}
use Rattle.texts.specs.Reader.{started, fed}
use Rattle.texts.specs.SawText.{saw_grammar, saw_text}
use Rattle.saw_text_reader.specs.declared.saw.SawReader.{SawReader}
use Rattle.saw_text_lines.specs.SawKept.{Lent, Room}
use Rattle.saw_text_reader.specs.SawFed.{Started, Fed}
use Rattle.saw_text_reader.specs.Parts.{After, AsLong}
use Rattle.saw_text_reader.proofs.SawSplits.{in_parts}
use Rattle.saw_text_ending.specs.SawEnd.{RoomToEnd}
use Rattle.saw_text_ending.specs.Finished.{Finished}
use Rattle.saw_text_call.specs.TextCall.{SawAnswered}
use Rattle.saw_text_call.proofs.Left.{held_after}

-- after no bytes
pub after_none : {f : SawReader} {b₀ b : Lent} → Room b₀ → Started b₀ f b → After [] f b
unfolding fed
after_none room s = s.kept room

-- up to `at` the text has been read
pub record ReadTo (text : List ℕ) (at : ℕ) (f : SawReader) (b : Lent) : Type 0 where
  pub within : at ≤ length text
  pub after : After (take at text) f b

-- a part more
pub read_more :
    {text : List ℕ} {at : ℕ} {f f' : SawReader} {b b' : Lent} (end : ℕ)
    → ReadTo text at f b
    → at ≤ end
    → end ≤ length text
    → Fed (take (end - at) (drop at text)) f b f' b'
    → ReadTo text end f' b'
read_more {text} {at} {f} {f'} {b} {b'} end r h e x =
    let sum : at + (end - at) ≡ end = omega arith in
    let whole : take at text ++ take (end - at) (drop at text) ≡ take end text = sym (take-add at (end - at) text) ∙ ap (λ (n : ℕ). take n text) sum in
    record {
      within = e;
      after = subst (λ (bs : List ℕ). After bs f' b') whole (in_parts.more (take at text) (take (end - at) (drop at text)) f f' b b' r.after x);
    }

-- there is room still
pub room-kept : {b b' : Lent} {placements out : List ℕ} → RoomToEnd b placements out → Room b' → RoomToEnd b' placements out
room-kept r q = record { lent = q; for-placements = r.for-placements; for-out = r.for-out }

-- all of it
pub read_all : {text : List ℕ} {f : SawReader} {b : Lent} → ReadTo text (length text) f b → After text f b
read_all {text} {f} {b} r = subst (λ (bs : List ℕ). After bs f b) (take-length text) r.after

-- the answer
pub answered :
    (text : List ℕ) {f : SawReader} {b b' : Lent} {placements out placements' out' : List ℕ} {n : ℕ}
    → AsLong b' b
    → After text f b'
    → Finished (fed saw_grammar (started saw_grammar) text) out placements n out' placements'
    → SawAnswered text b placements out n b' placements' out'
unfolding saw_text
answered text {f} {b} {b'} l a x =
    record {
      size = x.size;
      output = x.output;
      placed = x.placed;
      lent = held_after (fed saw_grammar (started saw_grammar) text).state _ f.held b b' l a.ready.room a.held;
    }
