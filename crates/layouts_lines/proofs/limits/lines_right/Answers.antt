use Prim.Native.Nat.{◌+◌, ◌<◌}
use lib.ListN.{length}
use Rattle.layouts.specs.Lines.{lines_in}
use Rattle.job.proofs.CodeLowest.{lowest-end, lowest-found, lowest-next}
use Rattle.placement.specs.PlacementRead.{no_line}
use Rattle.placement.proofs.Rows.{whole-lines}
use Rattle.layouts_lines.proofs.CodeLimits.{line-tested}
use Rattle.layouts_lines.proofs.limits.lines_right.Goals as goal

pub returns-then-not-line_right : goal.returns-then-not-line_right
returns-then-not-line_right c job z e =
    let l = c.loop-c in
    let t = c.loop-c-test.true in
    let rows = lines_in c.args.layouts.now in
    let h : l.c < length rows = rw (whole-lines _ _ c.requires) t in
    rw c.at.ensures
    (lowest-found rows no_line 2 _ (l.c + 1) l.c (l.invariant job z e) h (line-tested job c.args.layouts.now c.args.lines l.c c.requires t (c.line_right.ensures job z e) c.placement_at-line.ensures c.if-not-line_right.true-raw))

pub loop-c-preserved : goal.loop-c-preserved
loop-c-preserved c job z e =
    let l = c.loop-c in
    let t = c.loop-c-test.true in
    let rows = lines_in c.args.layouts.now in
    let h : l.c < length rows = rw (whole-lines _ _ c.requires) t in
    lowest-next rows no_line 2 _ (l.c + 1) l.c (l.invariant job z e) h (line-tested job c.args.layouts.now c.args.lines l.c c.requires t (c.line_right.ensures job z e) c.placement_at-line.ensures c.if-not-line_right.false-raw)

pub returns : goal.returns
returns c job z e =
    let l = c.loop-c in
    lowest-end (lines_in c.args.layouts.now) no_line 2 _ (l.c + 1) l.c (l.invariant job z e) (rw (whole-lines _ _ c.requires) c.loop-c-test.false)
