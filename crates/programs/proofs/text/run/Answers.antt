use Rattle.std.proofs.Common.{sym}
use lib.Seq.{length-take-le}
use Rattle.programs.proofs.Answered.{answer-within, answer-first, answer-counted, answer-written, on-err}
use Rattle.programs.proofs.text.run.Goals as goal

pub slice_bounds-write_answer-end : goal.slice_bounds-write_answer-end
slice_bounds-write_answer-end g c = answer-within g.T.Text.answer c.answer-n.ensures.some c.answer-n.auto.out

pub slice_bounds-write_answer-end-2 : goal.slice_bounds-write_answer-end-2
slice_bounds-write_answer-end-2 g c = sym (length-take-le _ _ (answer-within g.T.Text.answer c.answer-n.ensures.some c.answer-n.auto.out))

pub write_answer-requires : goal.write_answer-requires
write_answer-requires g c = answer-first g.T.Text.answer c.answer-n.ensures.some

pub returns-clause-answered : goal.returns-clause-answered
returns-clause-answered g c = answer-counted g.T.Text.answer c.answer-n.ensures c.write_answer.result c.answer-n.auto.out c.write_answer.ensures.counted

pub returns-clause-written : goal.returns-clause-written
returns-clause-written g c = answer-written g.T.Text.answer c.answer-n.ensures _ _ c.write_answer.result c.write_answer.ensures.written

pub returns-clause-failed : goal.returns-clause-failed
returns-clause-failed g c = on-err c.write_answer.result (c.answer-n.result, c.answer-n.ensures)
