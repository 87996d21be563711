use native.Mathlib.Omega.{arith}
use Rattle.listing.specs.CutRead.{cuts_read}
use Rattle.listing.proofs.CodeCuts.{length-cuts_from}
use Rattle.listing_find.proofs.Narrowing.{narrowed-start}
use Rattle.listing_find.proofs.search.find_cut.Goals as goal

-- `find_cut` looks among all cuts.
pub find_between-requires : goal.find_between-requires
find_between-requires c =
    let a = c.args in record { k_in_bounds = (c.requires, (omega arith, omega arith)); narrowed = λ r. narrowed-start (cuts_read a.k.0 a.cuts.now) a.j.0 a.i.0 a.k.0 (rw length-cuts_from (omega arith)) }
