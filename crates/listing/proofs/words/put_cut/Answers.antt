use Rattle.listing.specs.Holds.{cut_of_words}
use Rattle.listing.proofs.CodeHolds.{held-cut-put}
use Rattle.listing.proofs.words.put_cut.Goals as goal

-- `put_cut` stores the words of a cut.
pub returns : goal.returns
returns c cs e h =
    let a = c.args in
    held-cut-put cs a.k.0 (cut_of_words a.j.0 a.i.0 a.top.0 a.right.0) e c.requires h
