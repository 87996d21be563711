use Prim.Native.Nat.{◌+◌, ◌-◌}
use mathlib.Core.Path.{◌≡◌}
use native.Mathlib.Omega.{arith}
use lib.ListN.{length}
use lib.Seq.{drop-drop}
use Rattle.columns.specs.Group.{put}
use Rattle.texts_reading.proofs.pending.put_bytes.Goals as goal

pub returns : goal.returns
unfolding put
returns c h =
    let a = c.args in
    let n : a.at + length a.bytes.now - a.at ≡ length a.bytes.now = omega arith in
    rw (c.copy_from_slice.ensures.after, n, drop-drop)
