use Rattle.std.proofs.Common.{arith}
use Rattle.fold_text_reader.proofs.CodeRows.{size_is}
use Rattle.fold_text_reader.proofs.CodeSplits.{nothing_read}
use Rattle.fold.proofs.FoldTextText.start.Goals as goal

pub returns : goal.returns
returns c = nothing_read (omega arith, omega (arith, size_is)) c.start-self.ensures
