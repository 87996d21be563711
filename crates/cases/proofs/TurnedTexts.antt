-- Turned items in texts, by computation.
use mathlib.Core.Path.{refl}
use Rattle.cases.specs.TurnedTexts.{TurnedTexts, one_type, cut_once, first_laid}
use Rattle.cases.proofs.Opened.{computed}

pub turned_texts : TurnedTexts
unfolding computed one_type cut_once first_laid
turned_texts =
    record {
      turned-saw = refl;
      turned-fold = refl;
      unturned-cut = refl;
      unturned-laid = refl;
      no-position = refl;
      no-leave-cut = refl;
      no-leave-laid = refl;
      square-cut = refl;
      square-laid = refl;
      square-leave = refl;
      line-by-line = refl;
      before-form = refl;
      turn-two-cut = refl;
      turn-two-laid = refl;
      count-first = refl;
      before-size = refl;
      turned-first = refl;
      unturned-first = refl;
      no-turn-laid = refl;
      no-turn-cut = refl;
      no-leave = refl;
    }
