use Rattle.saw_text_reader.proofs.saw.SawReader.whole_lines.Goals as goal

-- `whole_lines` takes lines 3 in the body, and else lines 6.
pub returns-in-Body : goal.returns-in-Body
returns-in-Body c = c.body.ensures _

pub returns : goal.returns
returns c = c.prices.ensures _ _ _
