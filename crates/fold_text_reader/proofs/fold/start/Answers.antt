use mathlib.Core.Path.{refl}
use Rattle.fold_text_reader.proofs.CodeParts.{started-kept}
use Rattle.fold_text_reader.proofs.fold.start.Goals as goal

-- `start` clears the lent words.
pub returns : goal.returns
returns c =
    let a = c.args in
    record {
      text = c.start.ensures;
      rows = refl;
      job-zero = c.clear.ensures;
      layouts-zero = c.clear-2.ensures;
      kept = started-kept _ a.job.now a.layouts.now c.start.ensures refl c.clear.ensures c.clear-2.ensures;
    }
