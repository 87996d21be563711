use mathlib.Core.Path.{refl, sym, ap, ◌∙◌}
use mathlib.Core.List.{List}
use Prim.Native.Nat.{ℕ, ◌+◌}
use native.Mathlib.Omega.{arith}
use lib.ListN.{get_or, set, length-set}
use Rattle.columns.proofs.GroupLaws.{put-nil}
use Rattle.texts_reading.proofs.CodeWords.{put_word}
use Rattle.texts_reading.proofs.words.put_words.Goals as goal

pub loop-i-init : goal.loop-i-init
loop-i-init c = (refl, sym (put-nil _ _))

pub loop-i-preserved : goal.loop-i-preserved
loop-i-preserved c =
    let l = c.loop-i in
    let ns = c.args.numbers.now in
    (simp length-set l.invariant.0, ap (λ (b : List ℕ). set b (c.args.at + l.i) (get_or ns l.i 0)) l.invariant.1 ∙ put_word c.args.buffer.now ns c.args.at l.i c.requires.0 (omega arith))
