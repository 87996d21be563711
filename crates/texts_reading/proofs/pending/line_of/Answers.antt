use mathlib.Core.Path.{◌∙◌}
use Prim.Native.Nat.{◌/◌, ◌≤◌}
use native.Mathlib.Omega.{arith}
use lib.ListN.{drop}
use Rattle.texts_reading.proofs.CodeLine.{line-unequal, line-equal, line-most}
use Rattle.columns.specs.Widths.{group_bytes, most_numbers}
use Rattle.texts_reading.proofs.pending.line_of.Goals as goal

-- `line_of` finds how many numbers the line has by its length.
pub returns-then-n-k : goal.returns-then-n-k
returns-then-n-k c =
    let a = c.args in
    (tt, λ h. line-unequal a.s.now a.at a.n h c.if-n-k.true)

pub returns : goal.returns
returns c =
    let a = c.args in
    let k : a.n / group_bytes ≤ most_numbers = omega (arith, c.requires) in
    (rw c.line_at.ensures (line-most (a.n / group_bytes) (drop a.at a.s.now) k), λ h. c.line_at.ensures ∙ line-equal a.s.now a.at a.n h c.if-n-k.false)
