-- Between two parts so many full parts of a text have been read.
use Rattle.std.proofs.Common.{◌≡◌, length}
use Rattle.programs.proofs.PartsRead.{PartsRead}
use Rattle.programs.proofs.text.read.Given as goal

abbrev pub invariant-loop-parts : goal.invariant-loop-parts
invariant-loop-parts g l =
    (length l.part ≡ length l.initial.part)
    × PartsRead (λ bs t _. g.T.Text.after bs t) (g.R.Read.remaining l.initial.input.reader) (g.R.Read.remaining l.input.reader) l.text (tt {0}) l.parts
