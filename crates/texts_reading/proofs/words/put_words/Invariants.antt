use mathlib.Core.Path.{◌≡◌}
use lib.ListN.{length, take}
use Rattle.columns.specs.Group.{put}
use Rattle.texts_reading.proofs.words.put_words.Given as goal

-- i of the numbers stand in the buffer
abbrev pub invariant-loop-i : goal.invariant-loop-i
invariant-loop-i l = (length l.buffer ≡ length l.initial.buffer) × (l.buffer ≡ put l.initial.buffer l.at (take l.i l.numbers))
