use mathlib.Core.Path.{refl}
use mathlib.Core.List.{[], ◌∷◌}
use Rattle.texts_writing.proofs.WroteLaws.{wrote-line}
use Rattle.texts_writing.proofs.refusal.write_refusal.Goals as goal

-- `write_refusal` writes one line of three numbers.
pub returns : goal.returns
returns c =
    let a = c.args in
    wrote-line (9 ∷ a.number ∷ a.place ∷ []) 3 c.put_line.ensures refl refl
