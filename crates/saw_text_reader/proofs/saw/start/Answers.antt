use Rattle.saw_text_reader.proofs.SawSteps.{started-zero}
use Rattle.saw_text_reader.proofs.saw.start.Goals as goal

pub shape_of-job : goal.shape_of-job
shape_of-job c = c.clear.auto.buffer

-- `start` clears the lent buffers.
pub returns : goal.returns
returns c =
    let a = c.args in
    rw (c.clear.ensures, c.clear-2.ensures, c.clear-3.ensures, c.clear-4.ensures, c.clear-5.ensures)
    (started-zero a.job.now a.plates.now a.cuts.now a.counts.now a.prices.now _ _ c.start.ensures c.none_held.ensures)
