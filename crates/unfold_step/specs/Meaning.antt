-- What a state of the code, an item that it places and a step mean, in the terms of document 01, "Unfolding".
use Rattle.std.specs.Prelude.{ℕ, cond, List, eqb}
use Rattle.layouts.specs.Placement.{Placement}
use Rattle.layouts.specs.Unfold.{State, Step, placed, left_over, idle}
use Rattle.unfold_waiting.specs.Meaning.{piece_of, waiting_of, turn_of}
use Rattle.unfold_step.specs.declared.state.State.{State as CodeState}
use Rattle.unfold_step.specs.declared.state.PlacedItem.{PlacedItem}
use Rattle.unfold_step.specs.declared.state.Step.{Step as CodeStep}
use Rattle.unfold_step.specs.declared.state.Step.TheVariants.{Placed, LeftOver, Idle}

-- a state on a board of size z (request Six), with the counts that are left
abbrev pub state_of : ℕ → CodeState → List ℕ → State
state_of z st ns = record { counts = ns; waiting = waiting_of st.waiting; turn = turn_of z st.turn }

-- the placement of an item that is placed there
abbrev pub placed_of : ℕ → PlacedItem → Placement
placed_of z p = record { turn = turn_of z p.turn; item = p.item.0; x = p.x; y = p.y }

-- what a step does, with the counts that it leaves
abbrev pub step_means : ℕ → CodeStep → List ℕ → Step
step_means z (Placed p st) ns = placed (placed_of z p) (state_of z st ns)
step_means z (LeftOver p st) ns = left_over (piece_of p) (state_of z st ns)
step_means z Idle ns = idle

-- what a cut on a plate takes from the counts on plate type j: 1 where the plate is of that type
abbrev pub spends : ℕ → ℕ → ℕ
spends j plate = cond (eqb plate j) 1 0

-- what a step takes from them
abbrev pub step_spends : ℕ → CodeStep → ℕ
step_spends j (Placed p st) = spends j p.plate.0
step_spends j (LeftOver p st) = 0
step_spends j Idle = 0

-- the counts that a step leaves of some counts
abbrev pub counts_after : Step → List ℕ → List ℕ
counts_after (placed p st) ns = st.counts
counts_after (left_over p st) ns = st.counts
counts_after idle ns = ns
