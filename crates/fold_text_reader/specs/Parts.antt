-- Document 01, "Texts", taken in parts: what is kept of a fold text after the bytes so far, and that any split of it keeps the same.
use Rattle.std.specs.Prelude.{ℕ, ◌≡◌, List, length}
use Rattle.texts.specs.Reader.{Reader}
use Rattle.texts.specs.FoldText.{Fold, fold_grammar}
use Rattle.texts_reading.specs.Parts as parts
use Rattle.fold_text_reader.specs.declared.fold.FoldReader.{FoldReader}
use Rattle.fold_text_reader.specs.FoldKept.{FoldKept, Fed}

-- the lent words
pub record Lent : Type 0 where
  pub job : List ℕ
  pub layouts : List ℕ

abbrev pub lent : List ℕ → List ℕ → Lent
lent job layouts = record { job = job; layouts = layouts }

-- what they keep, what a part makes of them, and that they are as long as others
abbrev pub Kept : Reader Fold → FoldReader → Lent → Type 0
Kept r f b = FoldKept r f b.job b.layouts

abbrev pub PartFed : List ℕ → FoldReader → Lent → FoldReader → Lent → Type 0
PartFed part f b f' b' = Fed part f b.job b.layouts f' b'.job b'.layouts

pub record AsLong (b b' : Lent) : Type 0 where
  pub job : length b.job ≡ length b'.job
  pub layouts : length b.layouts ≡ length b'.layouts

-- the state and the lent words are those of the definition after the bytes bs
abbrev pub After : List ℕ → FoldReader → Lent → Type 0
After = parts.After fold_grammar Kept

-- parts and splits
abbrev pub InParts : Type 0
InParts = parts.InParts fold_grammar Kept PartFed AsLong
