use Rattle.job.specs.Job.{job_of}
use Rattle.saw_text_rows.proofs.PricePart.{with-prices, without-prices}
use Rattle.saw_text_rows.proofs.price_part.prices_of_text.Goals as goal

-- `prices_of_text` says the prices row, or that there are no prices.
pub returns-then-lines : goal.returns-then-lines
returns-then-lines c l o z e f h =
    let a = c.args in
    with-prices (job_of a.listed.now.job.words.now) l a.lines a.prices.now o c.if-lines.true h (λ ps g. c.prices_given.ensures l ps z e f g)

pub returns : goal.returns
returns c l o z e f h =
    let a = c.args in
    without-prices (job_of a.listed.now.job.words.now) l a.lines a.prices.now o c.if-lines.false h
