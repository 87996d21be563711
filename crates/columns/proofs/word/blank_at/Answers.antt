use native.Mathlib.Omega.{arith}
use mathlib.Core.Path.{sym, ◌∙◌}
use borrow.Author.Tests.{eqb-true, eq-eqb}
use Rattle.columns.specs.Widths.{lead_bytes}
use Rattle.columns.proofs.WordLaws.{blanks-by-word, part_bytes, part_length}
use Rattle.columns.proofs.word.blank_at.Goals as goal

-- `columns::word::blank_at` meets its contract: by the law of the word of eight blanks.
pub returns : goal.returns
returns c =
    let a = c.args in
    let s = a.s.now in
    let law = blanks-by-word _ (part_length s a.at lead_bytes (omega arith)) (part_bytes s a.at lead_bytes (omega arith) (λ i. omega (arith, c.type_inv.s i))) in
    (λ e. law.0 (sym c.word_at.ensures ∙ eqb-true _ _ e), λ h. eq-eqb _ _ (c.word_at.ensures ∙ law.1 h))
