use Rattle.texts_reading.proofs.kinds.layout_line.Goals as goal

pub returns : goal.returns
returns c line = rw c.last_size.ensures at (c.judge_turn.ensures line)
