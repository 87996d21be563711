use Prim.Native.Nat.{◌+◌, ◌*◌}
use mathlib.Core.Path.{◌≡◌}
use lib.ListN.{length}
use Rattle.columns.proofs.LineLaws.{Reading}
use Rattle.columns.specs.Widths.{group_bytes, most_numbers}
use Rattle.columns.proofs.line.complete_line.Given as goal

-- i numbers have been read
abbrev pub invariant-loop-i : goal.invariant-loop-i
invariant-loop-i l =
    (l.p ≡ l.at + group_bytes * l.i)
    × (length l.numbers ≡ length l.initial.numbers)
    × (length l.initial.numbers ≡ most_numbers → Reading l.s l.at l.i l.initial.numbers l.numbers)
