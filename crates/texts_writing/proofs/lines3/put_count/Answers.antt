use Prim.Native.Nat.{◌-◌}
use mathlib.Core.Path.{refl}
use lib.ListN.{length}
use Rattle.job.specs.Job.{type_of, turn_of}
use Rattle.listing.specs.Holds.{plate_read}
use Rattle.listing.specs.CutRead.{cut_in, cut_read}
use Rattle.texts_writing.proofs.WroteLaws.{wrote_none}
use Rattle.texts_writing.proofs.CountLaws.{line-absent, line-room, line_wrote}
use Rattle.texts_writing.proofs.lines3.put_count.Goals as goal

-- `put_count` writes nothing where the count is 0, else the line of the cut, which shows its plate.
pub returns-then-n-eq0 : goal.returns-then-n-eq0
returns-then-n-eq0 c =
    let a = c.args in
    rw (line-absent (plate_read a.plates.now) (cut_read a.cuts.now (a.c.0 - 1)) a.n c.if-n-eq0.true) (wrote_none _ _)

pub put_line-requires : goal.put_line-requires
put_line-requires c = line-room (plate_read c.args.plates.now) c.args.at (length c.args.out.now) (cut_read c.args.cuts.now (c.args.c.0 - 1)) c.args.n c.if-n-eq0.false c.requires.n_in_bounds

pub returns : goal.returns
unfolding type_of turn_of
returns c =
    let cut = c.cut_at-cut in
    let shown = c.plate_at-p in
    line_wrote _ shown.result (cut_in cut.result) _ _ shown.ensures cut.ensures c.if-n-eq0.false c.put_line.ensures refl
