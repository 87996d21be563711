-- The line row of a fold text that ends, by what is kept of where it stands.
use mathlib.Core.Path.{◌≡◌, refl, sym, ap, ◌∙◌}
use mathlib.Core.Bool.{Bool, true, false}
use Rattle.texts.specs.JobLines.{Place, first, sizes, types, body, item_prices, plate_prices, done}
use Rattle.texts.specs.Reader.{Reader, text_row}
use Rattle.texts.specs.FoldText.{Fold, fold_complete, fold_grammar}
use Rattle.texts_reading.specs.declared.text.TextReader.{TextReader}
use Rattle.texts_reading.specs.Standing.{place_of, TextKept}
use Rattle.texts_reading.specs.TextEnd.{end_row}
use Rattle.texts_reading.proofs.CodeEnd.{kept_row}
use Rattle.fold_text_ending.specs.TextEnd.{may_end}

complete-place : (s : Fold) → fold_complete s ≡ may_end s.place
unfolding fold_complete
complete-place s = go s.place
  where
    go :
        (p : Place)
        → elim p [ first ↦ false | sizes j ↦ false | types i ↦ false | body ↦ true | item_prices i ↦ false | plate_prices j ↦ false | done ↦ false ] ≡ may_end p
    go first = refl
    go (sizes j) = refl
    go (types i) = refl
    go body = refl
    go (item_prices i) = refl
    go (plate_prices j) = refl
    go done = refl

-- what is kept of a fold text says its line row
pub fold-text-row :
    (r : Reader Fold) (t : TextReader) (whole : Bool)
    → whole ≡ may_end (place_of t.place)
    → TextKept (λ s. s.place) r t
    → end_row t whole ≡ text_row fold_grammar r
fold-text-row r t whole e k =
    kept_row fold_grammar (λ s. s.place) r t whole k (complete-place r.state ∙ ap may_end (sym k.stands) ∙ sym e)
