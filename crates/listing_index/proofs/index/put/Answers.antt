use native.Mathlib.Omega.{arith}
use Rattle.listing_index.proofs.Growing.{index-grown}
use Rattle.listing_index.proofs.index.put.Goals as goal

-- `put` stores the number before m in its bucket, and m as the greatest.
pub returns : goal.returns
returns c t ps e s new ix =
    let b = c.bucket-b.ensures in
    rw b.0 (index-grown t ps c.args.p c.args.index.now ix c.args.m.0 e s c.requires.0 c.requires.1 (omega (arith, b.0, b.1)) new)
