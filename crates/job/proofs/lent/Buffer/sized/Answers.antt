use mathlib.Core.Path.{sym}
use Rattle.job.proofs.Buffers.{sized-short, sized-full}
use Rattle.job.proofs.lent.Buffer.sized.Goals as goal

-- `sized` compares the length with the full size.
pub returns-then-words-full_size : goal.returns-then-words-full_size
returns-then-words-full_size c =
    let a = c.args in rw (c.at.ensures, c.number.ensures) (sym (sized-short _ _ a.words.now (rw (← c.full_size.ensures) c.if-words-full_size.true)))

pub returns : goal.returns
returns c =
    let a = c.args in sym (sized-full _ _ a.words.now (rw (← c.full_size.ensures) c.if-words-full_size.false))
