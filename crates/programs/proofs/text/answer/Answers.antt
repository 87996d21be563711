use Rattle.programs.proofs.Answered.{answers-read}
use Rattle.programs.proofs.text.answer.Goals as goal

pub finish-requires : goal.finish-requires
finish-requires g c = let some = c.read.ensures.some in record { read = (some.text, some.after); room = c.requires.room }

pub returns : goal.returns
returns g c =
    let some = c.read.ensures.some in
    answers-read g.T.Text.answer c.read.ensures (c.finish.ensures.counted some.text some.after) (c.finish.ensures.written some.text some.after)
