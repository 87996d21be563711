use Prim.Native.Nat.{◌*◌}
use mathlib.Core.Path.{◌≡◌}
use lib.ListN.{length}
use Rattle.texts.specs.Widths.{placement_line_bytes}
use Rattle.texts_writing.specs.Wrote.{Wrote}
use Rattle.texts_writing.proofs.RowLaws.{lines_to}
use Rattle.texts_writing.proofs.lines7.write_placements.Given as goal

-- the lines of the first i placements stand
abbrev pub invariant-loop-i : goal.invariant-loop-i
invariant-loop-i l =
    (l.at ≡ placement_line_bytes * l.i)
    × (length l.out ≡ length l.initial.out)
    × Wrote l.initial.out 0 (lines_to l.i l.placements) l.at l.out
