use mathlib.Core.Path.{◌≡◌}
use mathlib.Core.Logic.{inl, inr}
use mathlib.Core.Bool.{true, false}
use Prim.Native.Nat.{ℕ}
use borrow.Author.Tests.{le-leb, lt-leb}
use lib.Dec.{leb}
use Rattle.layouts.specs.Offcuts.{Offcut, usable}
use Rattle.unfold_offcut.specs.Meaning.{offcut_in}
use Rattle.unfold_offcut.proofs.usable.Goals as goal

-- `usable` compares the width with the first length, and the height with the second.
-- both lengths are reached, the second is not, or the first is not
module _ (first second : ℕ) (o : Offcut) where
  both : leb first o.width ≡ true → leb second o.height ≡ true → 1 ≡ usable first second o
  unfolding usable
  both e f = rw (e, f, usable)

  one : leb first o.width ≡ true → leb second o.height ≡ false → 0 ≡ usable first second o
  unfolding usable
  one e f = rw (e, f, usable)

  neither : leb first o.width ≡ false → 0 ≡ usable first second o
  unfolding usable
  neither e = rw (e, usable)

pub returns-then-lengths-o-2 : goal.returns-then-lengths-o-2
returns-then-lengths-o-2 c =
    let a = c.args in
    both a.lengths.first a.lengths.second (offcut_in a.o) (le-leb _ _ c.if-lengths-o.true) (le-leb _ _ c.if-lengths-o-2.true)

pub returns-else-lengths-o : goal.returns-else-lengths-o
returns-else-lengths-o c =
    let a = c.args in
    elim c.else-lengths-o.either [
      | inl h ↦ one a.lengths.first a.lengths.second (offcut_in a.o) (le-leb _ _ h.0) (lt-leb _ _ h.1)
      | inr h ↦ neither a.lengths.first a.lengths.second (offcut_in a.o) (lt-leb _ _ h)
    ]
