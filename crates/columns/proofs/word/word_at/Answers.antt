use native.Mathlib.Omega.{arith}
use Rattle.columns.proofs.WordLaws.{word-eight}
use Rattle.columns.proofs.word.word_at.Goals as goal

-- `columns::word::word_at` meets its contract: byte by byte.
pub returns : goal.returns
returns c =
    let a = c.args in
    cc (word-eight a.s.now a.at (omega (arith, c.requires)))
