use Prim.Native.Nat.{◌+◌, ◌*◌}
use mathlib.Core.Path.{◌≡◌}
use lib.ListN.{length, take}
use Rattle.columns.specs.Widths.{group_bytes}
use Rattle.columns.specs.Group.{put}
use Rattle.columns.specs.Line.{groups}
use Rattle.columns.proofs.line.put_line.Given as goal

-- the columns of i numbers are written
abbrev pub invariant-loop-n : goal.invariant-loop-n
invariant-loop-n l =
    (l.p ≡ l.at + group_bytes * l.n-index)
    × (length l.out ≡ length l.initial.out)
    × (l.out ≡ put l.initial.out l.at (groups (take l.n-index l.numbers)))
