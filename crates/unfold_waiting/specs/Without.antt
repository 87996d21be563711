-- The pieces that wait on when the piece of a stage is taken.
use Rattle.std.specs.Prelude.{ℕ, cond, eqb}
use Rattle.std.proofs.Math.Option.{none}
use Rattle.layouts.specs.Unfold.{Waiting, waiting}

abbrev pub without : ℕ → Waiting → Waiting
without stage w =
    cond (eqb stage 3)
    (waiting w.first w.second none)
    (cond (eqb stage 2) (waiting w.first none w.third) (waiting none w.second w.third))
