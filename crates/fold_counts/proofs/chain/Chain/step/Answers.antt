use mathlib.Core.Path.{refl}
use Rattle.fold_counts.proofs.Chaining.{chain-next}
use Rattle.fold_counts.proofs.chain.Chain.step.Goals as goal

pub returns : goal.returns
returns c =
    let a = c.args in
    let left = c.count_cut-left in
    λ l lent j ks xs h. chain-next l a.three a.self _ left.result j a.k.0 ks xs a.i.0 h (left.ensures.left_by l lent) (left.ensures.holds l lent) refl c.or.ensures
