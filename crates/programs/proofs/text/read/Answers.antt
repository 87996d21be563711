use Rattle.std.proofs.Common.{◌<◌, ◌≤◌, arith, length}
use Rattle.programs.proofs.PartsRead.{last-read, all_read}
use Rattle.programs.proofs.text.read.Goals as goal

pub returns-then-n-part : goal.returns-then-n-part
returns-then-n-part g c =
    let before = c.loop-parts.invariant in
    let fewer : c.fill-n.result < length c.fill-n.new.part = omega arith in
    let short : c.fill-n.result < length c.args.part.now = omega (arith, before.0) in
    last-read _ _ g.T.Text.answer _ before.1 (c.feed.ensures before.1.text before.1.after) c.fill-n.ensures.consumed short (c.fill-n.ensures.ended fewer)

pub returns : goal.returns
returns g c =
    let before = c.loop-parts.invariant in
    let asked : length c.args.part.now ≤ length c.loop-parts.part = omega (arith, before.0) in
    all_read _ _ g.T.Text.answer {failed = c.loop-parts.input.failed} g.T.Text.longest g.met.T.Text.decides before.1 (rw (← g.met.T.Text.most) (omega (arith, c.loop-parts-test.false, c.MOST_PARTS-parts-end.ensures))) asked
