use mathlib.Core.Path.{◌≡◌}
use Prim.Native.Nat.{◌-◌}
use lib.ListN.{length}
use Rattle.layouts.specs.Demand3.{J, L}
use Rattle.unfold_waiting.specs.Turns.{max_steps}
use Rattle.unfold_run.specs.Going.{GoingAt, started, started_offcuts}
use Rattle.unfold_run.proofs.run.run.Given as goal

-- `run` steps on while steps are left: what is written and what is left to do make the whole.
abbrev pub invariant-loop-step : goal.invariant-loop-step
invariant-loop-step l =
    let whole = started (J l.job) (L l.job) l.initial.counts in
    let os = started_offcuts (J l.job) (L l.job) l.initial.counts in
    GoingAt (J l.job) (L l.job) l.lengths whole os (max_steps - l._step) l.at l.counts l.placements l.offcuts
    × (length l.counts ≡ length l.initial.counts)
    × (length l.placements ≡ length l.initial.placements)
    × (length l.offcuts ≡ length l.initial.offcuts)
