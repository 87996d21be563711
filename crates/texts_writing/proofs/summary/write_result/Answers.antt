use mathlib.Core.Path.{◌≡◌, refl, ◌∙◌}
use mathlib.Core.Bool.{Bool, true, false, cond}
use mathlib.Core.List.{[], ◌∷◌}
use mir.Val.{bool_byte}
use Rattle.texts_writing.proofs.WroteLaws.{wrote-line}
use Rattle.texts_writing.proofs.summary.write_result.Goals as goal

-- the word for cheapest
truth-word : (b : Bool) → bool_byte b ≡ cond b 1 0
truth-word true = refl
truth-word false = refl

-- `write_result` writes one line of five numbers.
pub returns : goal.returns
returns c =
    let a = c.args in
    wrote-line (8 ∷ a.cost ∷ a.sum ∷ a.d ∷ cond a.cheapest 1 0 ∷ []) 5 (c.put_line.ensures ∙ rw (c.from.ensures, truth-word a.cheapest)) refl refl
