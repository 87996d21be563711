use native.Mathlib.Omega.{arith}
use Rattle.job.specs.Job.{job_of}
use Rattle.layouts.specs.Lines.{rows_of}
use Rattle.placement.proofs.Rows.{read-placed}
use Rattle.layouts_strips.proofs.CodeSpots.{spots-begin, spots-end, spots-off, spots-next}
use borrow.Author.Rules.{rules}
use Rattle.layouts_strips.proofs.lines.Lines.positions_row.Goals as goal

pub loop-c-init : goal.loop-c-init
loop-c-init c =
    let a = c.args in
    (spots-begin (job_of a.self.now.job.now) a.k (rows_of a.self.now.layouts.now), (record { across = search rules; up = search rules; below = search rules; high = search rules }))

pub placement_at-line-requires : goal.placement_at-line-requires
placement_at-line-requires c =
    let whole = c.args.self.now.lent.whole in omega arith

pub next_spot-spot-requires : goal.next_spot-spot-requires
next_spot-spot-requires c = (c.loop-c-test.true, c.loop-c.invariant.1)

pub loop-c-preserved : goal.loop-c-preserved
loop-c-preserved c =
    let l = c.loop-c in (
      spots-next (job_of c.args.self.now.job.now) c.args.self.now.layouts.now c.args.self.now.number c.args.k l.c l.spot c.args.self.now.lent.whole l.invariant.0 c.loop-c-test.true (read-placed c.placement_at-line.ensures) (grind arith) c.if-ne.false c.next_spot-spot.ensures.0,
      c.next_spot-spot.ensures.1,
    )

pub returns-then-ne : goal.returns-then-ne
returns-then-ne c =
    let l = c.loop-c in
    rw c.at.ensures
    (spots-off (job_of c.args.self.now.job.now) c.args.self.now.layouts.now c.args.self.now.number c.args.k l.c l.spot c.args.self.now.lent.whole l.invariant.0 c.loop-c-test.true (read-placed c.placement_at-line.ensures) (grind arith) c.if-ne.true)

pub returns : goal.returns
returns c =
    let l = c.loop-c in
    spots-end (job_of c.args.self.now.job.now) c.args.self.now.layouts.now c.args.self.now.number c.args.k l.c l.spot c.args.self.now.lent.whole l.invariant.0 c.loop-c-test.false
