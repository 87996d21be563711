-- Request Two: any steps that are enough for the run of an accepted plan give the same events, and so the same offcuts; so code may take one budget for all
-- plans.
use Prim.Native.Nat.{ℕ, zero, suc, ◌+◌, ◌*◌, ◌-◌, ◌≤◌}
use native.Mathlib.Omega.{arith}
use native.Mathlib.Nat.{zero-add, suc-add}
use mathlib.Core.Path.{◌≡◌, refl, sym, ◌∙◌, ap}
use mathlib.Core.List.{List, ◌∷◌}
use mathlib.Core.Option.{Option, none, some}
use lib.ListN.{length, get_or}
use Rattle.job.specs.Job.{Job}
use Rattle.job.specs.Admitted.{Sided}
use Rattle.listing.specs.Listing.{Listing}
use Rattle.listing.specs.Model.{Model}
use Rattle.plan.specs.Plan.{on_plate, boards_of, total}
use Rattle.plan.specs.Feasible.{Feasible, NonePast}
use Rattle.layouts.specs.Unfold.{Waiting, State, Step, placed, left_over, idle, step, next_size, open_board, placing, run, steps_for, start_of, unfolded}
use Rattle.layouts.specs.Offcuts.{Event, did, over, chosen, events, events_of, offcuts_in, offcuts_of}
use Rattle.layouts.proofs.trees.WeightedSums.{wsum-none, weight, count_of-wsum}
use Rattle.layouts.proofs.machine.NextSize.{next-ended}
use Rattle.layouts.proofs.machine.MachineSteps.{none-waits}
use Rattle.layouts.proofs.machine.MachineEnds.{unfolds, steps-enough}
use Rattle.layouts.proofs.offcuts.Steps.{events-ended}

module _ (job : Job) (l : Listing) where
  -- nothing waits, and no board is left to open
  abbrev Settled : State → Type 0
  Settled st = (step job l st ≡ idle) × (next_size (length job.sizes) 0 l st.counts ≡ none)

  more-fuel : (n k : ℕ) (st : State) → Settled (run n job l st).last → events (n + k) job l st ≡ events n job l st
  unfolding events run placing
  more-fuel zero k st h = rw zero-add (events-ended job l st h.0 h.1 k)
  more-fuel (suc n) k st h = rw suc-add (go (step job l st) refl (next_size (length job.sizes) 0 l st.counts) refl (λ s. more-fuel n k s))
    where
      go : (s : Step) → step job l st ≡ s → (t : Option ℕ) → next_size (length job.sizes) 0 l st.counts ≡ t → ((s : State) → Settled (run n job l s).last → events (n + k) job l s ≡ events n job l s)
          → events (suc (n + k)) job l st ≡ events (suc n) job l st
      go (placed p st') e t f rec = rw (e, events) (ap (λ (es : List Event). did (chosen l st) p ∷ es) (rec st' (rw (e, run) at h)))
      go (left_over p st') e t f rec = rw (e, events) (ap (λ (es : List Event). over st.turn.board p ∷ es) (rec st' (rw (e, run) at h)))
      go idle e (some j) f rec = rw (e, f, events) (rec (open_board j st) (rw (e, f, run) at h))
      go idle e none f rec = rw (e, f, events) refl

module _ (job : Job) (l : Listing) (m : Model job l) (sided : Sided job) (ns : List ℕ) (past : NonePast l ns) (a : Feasible job l ns) where
  spent : (c : ℕ) → get_or (unfolded job l ns).last.counts c 0 ≡ 0
  spent = (unfolds job l m sided ns past a).all-0

  settled : Settled job l (unfolded job l ns).last
  unfolding boards_of
  settled = (
    ap (λ (w : Waiting). step job l (record { counts = (unfolded job l ns).last.counts; waiting = w; turn = (unfolded job l ns).last.turn })) (unfolds job l m sided ns past a).none_left
        ∙ none-waits job l (unfolded job l ns).last.turn (unfolded job l ns).last.counts,
    next-ended l (length job.sizes) 0 (unfolded job l ns).last.counts
        (λ i _. count_of-wsum (on_plate i) l (unfolded job l ns).last.counts (λ c _. spent c) ∙ wsum-none (weight (on_plate i) l) 1 (unfolded job l ns).last.counts (λ c _. spent c)),
  )

  from-least : (k : ℕ) → events (4 * total ns + k) job l (start_of ns) ≡ events (4 * total ns) job l (start_of ns)
  from-least k =
      more-fuel job l (4 * total ns) k (start_of ns) (rw (sym (steps-enough job l m sided ns past a (4 * total ns) (omega arith))) at settled)

  -- four steps for each counted cut are enough, and any more give the same
  events-enough : (fuel : ℕ) → 4 * total ns ≤ fuel → events fuel job l (start_of ns) ≡ events_of job l ns
  unfolding events_of steps_for
  events-enough fuel h =
      let e : 4 * total ns + (fuel - 4 * total ns) ≡ fuel = omega arith in
      let f : 4 * total ns + 1 ≡ suc (4 * total ns) = omega arith in
      (rw e at (from-least (fuel - 4 * total ns))) ∙ sym (rw f at (from-least 1))

  pub offcuts-enough : (fuel : ℕ) → 4 * total ns ≤ fuel → offcuts_in l (events fuel job l (start_of ns)) ≡ offcuts_of job l ns
  unfolding offcuts_of
  offcuts-enough fuel h = ap (offcuts_in l) (events-enough fuel h)
