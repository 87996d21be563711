use native.Mathlib.Omega.{arith}
use mathlib.Core.Path.{sym, ap, ◌∙◌}
use Prim.Native.Nat.{ℕ, ◌%◌}
use borrow.Author.Tests.{eqb-true}
use lib.Seq.{take-take}
use Rattle.columns.specs.Widths.{front_bytes, lead_bytes}
use Rattle.columns.proofs.WordLaws.{four-blanks, part_bytes, part_length}
use Rattle.columns.proofs.word.front_blank.Goals as goal

-- `columns::word::front_blank` meets its contract: by the first four bytes of the word.
pub returns : goal.returns
returns c e =
    let a = c.args in
    let s = a.s.now in
    let bytes = part_bytes s a.at lead_bytes (omega arith) (λ i. omega (arith, c.type_inv.s i)) in
    let word = ap (λ (w : ℕ). w % 0x1_0000_0000) (sym c.word_at.ensures) ∙ eqb-true _ _ e in
    rw (take-take front_bytes lead_bytes _ (omega arith)) at (four-blanks _ (part_length s a.at lead_bytes (omega arith)) bytes word)
