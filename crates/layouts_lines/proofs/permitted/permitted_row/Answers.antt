use Prim.Native.Nat.{◌+◌, ◌<◌}
use lib.ListN.{length}
use Rattle.job.specs.Job.{job_of}
use Rattle.layouts.specs.Lines.{rows_of}
use Rattle.job.proofs.CodeLowest.{lowest-end, lowest-found, lowest-next}
use Rattle.placement.specs.PlacementRead.{no_placement}
use Rattle.placement.proofs.Rows.{whole-rows}
use Rattle.layouts_lines.proofs.CodePermitted.{typed-read, number_small, position-there, few-types, position-tested}
use Rattle.layouts_lines.proofs.permitted.permitted_row.Goals as goal

pub position-requires : goal.position-requires
position-requires c = number_small (typed-read c.requires.layouts_len.1 c.loop-c-test.true c.placement_at-line.ensures) (few-types c.args.job.now c.requires.job_value)

pub position_at-position-requires : goal.position_at-position-requires
position_at-position-requires c = position-there c.args.job.now c.requires.job_value (typed-read c.requires.layouts_len.1 c.loop-c-test.true c.placement_at-line.ensures) c.position.ensures

pub returns-then-not-position : goal.returns-then-not-position
returns-then-not-position c =
    let l = c.loop-c in
    let t = c.loop-c-test.true in
    let rows = rows_of c.args.layouts.now in
    let h : l.c < length rows = rw (whole-rows _ _ c.requires.layouts_len.0) t in
    rw c.at.ensures
    (lowest-found rows no_placement 19 _ (l.c + 1) l.c l.invariant h (position-tested (job_of c.args.job.now) c.args.layouts.now c.args.lines l.c c.requires.layouts_len.0 t c.position_at-position.ensures c.position.ensures c.placement_at-line.ensures c.if-not-position.true))

pub loop-c-preserved : goal.loop-c-preserved
loop-c-preserved c =
    let l = c.loop-c in
    let t = c.loop-c-test.true in
    let rows = rows_of c.args.layouts.now in
    let h : l.c < length rows = rw (whole-rows _ _ c.requires.layouts_len.0) t in
    lowest-next rows no_placement 19 _ (l.c + 1) l.c l.invariant h (position-tested (job_of c.args.job.now) c.args.layouts.now c.args.lines l.c c.requires.layouts_len.0 t c.position_at-position.ensures c.position.ensures c.placement_at-line.ensures c.if-not-position.false)

pub returns : goal.returns
returns c =
    let l = c.loop-c in
    lowest-end (rows_of c.args.layouts.now) no_placement 19 _ (l.c + 1) l.c l.invariant (rw (whole-rows _ _ c.requires.layouts_len.0) c.loop-c-test.false)
