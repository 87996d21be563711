use Prim.Native.Nat.{◌*◌}
use native.Mathlib.Omega.{arith}
use Rattle.job.specs.Sizes.{words_of_offcut}
use Rattle.unfold_offcut.specs.Meaning.{offcut_in}
use Rattle.unfold_offcut.proofs.Written.{held-offcut-put}
use Rattle.unfold_offcut.proofs.put_offcut.Goals as goal

-- `put_offcut` stores the words of an offcut.
pub returns : goal.returns
returns c os e h =
    let a = c.args in
    rw c.usable.ensures (held-offcut-put a.lengths.first a.lengths.second os (words_of_offcut * a.n) (offcut_in a.o) (omega arith) c.requires h)
