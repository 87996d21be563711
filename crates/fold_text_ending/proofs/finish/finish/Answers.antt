use Rattle.fold_text_ending.proofs.KeptEnds.{text-ends, finished}
use Rattle.fold_text_ending.proofs.finish.finish.Goals as goal

-- `finish` is the end of the text that the reader keeps.
pub returns : goal.returns
returns c =
    let a = c.args in
    let x = c.end_text in record { unchanged = x.ensures.unchanged; finished = (λ room r bs is kept. finished r (x.ensures.answered room r (text-ends a.job.now a.layouts.now bs is kept))) }
