use Rattle.listing.proofs.CodeHolds.{held-plate-put}
use Rattle.listing.proofs.words.put_plate.Goals as goal

-- `put_plate` stores the words of a plate type.
pub returns : goal.returns
returns c job ps e k h =
    let a = c.args in
    held-plate-put job ps a.m.0 a.cost a.p e k c.requires h
