-- A fold text fed in parts: up to a place the state and the lent words are those of the text's bytes before it.
use Prim.Native.Nat.{ℕ, ◌+◌, ◌-◌, ◌≤◌}
use native.Mathlib.Omega.{arith}
use mathlib.Core.Path.{◌≡◌, sym, ap, ◌∙◌}
use mathlib.Core.List.{List, ◌++◌}
use lib.ListN.{length, take, drop}
use lib.Seq.{take-add, take-length}
use Rattle.fold_text_reader.specs.declared.fold.FoldReader.{FoldReader}
use Rattle.fold_text_reader.specs.FoldKept.{Fed}
use Rattle.fold_text_reader.specs.Parts.{After, lent}
use Rattle.fold_text_reader.proofs.CodeSplits.{part-read}

-- up to `at` the text has been fed
pub record ReadTo (text : List ℕ) (at : ℕ) (f : FoldReader) (job layouts : List ℕ) : Type 0 where
  pub within : at ≤ length text
  pub after : After (take at text) f (lent job layouts)

module _ (text : List ℕ) (at : ℕ) {f f' : FoldReader} {job layouts job' layouts' : List ℕ} (a : After (take at text) f (lent job layouts)) where
  -- up to a later place
  pub read-further : (end : ℕ) → at ≤ end → Fed (take (end - at) (drop at text)) f job layouts f' job' layouts' → After (take end text) f' (lent job' layouts')
  read-further end h p =
      let n : at + (end - at) ≡ end = omega arith in
      let e : take at text ++ take (end - at) (drop at text) ≡ take end text = sym (take-add at (end - at) text) ∙ ap (λ (m : ℕ). take m text) n in
      rw e at (part-read (take at text) (take (end - at) (drop at text)) a p)

  -- up to the end
  pub read_rest : Fed (take (length text - at) (drop at text)) f job layouts f' job' layouts' → at ≤ length text → After text f' (lent job' layouts')
  read_rest p h = rw (take-length text) at (read-further (length text) h p)
