use Prim.Native.Nat.{◌*◌}
use native.Mathlib.Omega.{arith}
use Rattle.job.specs.Sizes.{words_of_placement}
use Rattle.job.proofs.Positions.{type-of, turn-of}
use Rattle.placement.specs.PlacementRead.{placement_in}
use Rattle.placement.proofs.Written.{held-placement-put}
use Rattle.placement.proofs.put_placement.Goals as goal

-- `put_placement` stores the words of a placement.
pub returns : goal.returns
returns c ps e h =
    let p = c.args.p in
    let put = held-placement-put ps (words_of_placement * c.args.n) (placement_in p) (omega arith) c.requires.0 h in
    rw (type-of p.item.0 p.turned c.requires.1, turn-of p.item.0 p.turned c.requires.1) at put
