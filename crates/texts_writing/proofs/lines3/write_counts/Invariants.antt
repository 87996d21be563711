use mathlib.Core.Path.{◌≡◌}
use lib.ListN.{length}
use Rattle.listing.specs.Holds.{plate_read}
use Rattle.texts_writing.specs.Wrote.{Wrote}
use Rattle.texts_writing.proofs.CountLaws.{lines_to}
use Rattle.texts_writing.proofs.lines3.write_counts.Given as goal

-- the lines of the first c cuts stand
abbrev pub invariant-loop-c : goal.invariant-loop-c
invariant-loop-c l =
    (length l.out ≡ length l.initial.out)
    × Wrote l.initial.out 0 (lines_to (plate_read l.plates) l.c-end l.c l.cuts l.counts) l.at l.out
