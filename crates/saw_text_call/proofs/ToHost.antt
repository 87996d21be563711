-- What a host gets of a saw text who lends the output alone: the other buffers have their full sizes.
use Prim.Native.Nat.{ℕ, ◌≤◌}
use native.Mathlib.Omega.{arith}
use mathlib.Core.List.{List}
use lib.ListN.{length}
use Rattle.job.specs.Buffers.{placements_size}
use Rattle.texts.specs.SawText.{saw_text}
use Rattle.texts_writing.specs.Wrote.{longest_saw}
use Rattle.answers.specs.TextAnswer.{TextAnswer}
use Rattle.saw_text_lines.specs.SawKept.{Lent, Room}
use Rattle.saw_text_call.specs.TextCall.{SawCall}

pub saw-answer :
    {text placements out placements' out' : List ℕ} {n : ℕ} {b b' : Lent}
    → SawCall text b placements out n b' placements' out'
    → Room b
    → placements_size ≤ length placements
    → TextAnswer longest_saw (saw_text text) out n out'
saw-answer called room placed =
    record {
      written = λ h. let a = called.answered (record { lent = room; for-placements = placed; for-out = h }) in (a.size, a.output);
      short = λ h. let a = called.unchanged (λ r. let k = r.for-out in omega (arith, h, k)) in (a.none_written, a.output);
    }
