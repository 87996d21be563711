use Rattle.job.specs.Job.{type_of}
use Rattle.listing.specs.CutRead.{cut_in}
use Rattle.plan_test.proofs.CodeSums.{sums-one, sums-two}
use Rattle.plan_test.proofs.sums.add_cut.Goals as goal

-- `add_cut` adds the count to three or four words: right and top may be one type, 0 among them.
-- the type of a position is the half of its number
pub add_at-requires : goal.add_at-requires
unfolding type_of
add_at-requires c = c.requires.fit

pub returns-then-right-top : goal.returns-then-right-top
unfolding type_of
returns-then-right-top c cs ns h v s = rw (c.add_at-then-right-top.ensures, c.add_at-3.ensures, c.add_at-2.ensures, c.add_at.ensures)
    (sums-two cs (cut_in c.args.cut) ns c.args.n c.args.items.now c.args.on.now c.args.left.now h v c.requires.fit.inside c.requires.fit_2.inside c.requires.fit_3.0.inside s c.requires.fit_3.1.inside c.if-right-top.true)

pub returns-else-right-top : goal.returns-else-right-top
unfolding type_of
returns-else-right-top c cs ns h v s = rw (c.add_at-3.ensures, c.add_at-2.ensures, c.add_at.ensures)
    (sums-one cs (cut_in c.args.cut) ns c.args.n c.args.items.now c.args.on.now c.args.left.now h v c.requires.fit.inside c.requires.fit_2.inside c.requires.fit_3.0.inside s c.if-right-top.false)
