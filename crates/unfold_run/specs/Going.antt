-- How far a run has come: what is written so far and what is left to do make the whole unfolding, with its offcuts (request Two).
use Rattle.std.specs.Prelude.{ℕ, suc, ◌-◌, ◌≤◌, ◌≡◌, List, ◌++◌, length, Option, Some, None}
use Rattle.job.specs.Sizes.{max_pieces, max_offcuts, placements_size, offcuts_size}
use Rattle.job.specs.Job.{Job, size_at}
use Rattle.listing.specs.Listing.{Listing}
use Rattle.listing.specs.Holds.{Holds}
use Rattle.layouts.specs.Placement.{Placement, placement_words}
use Rattle.layouts.specs.Unfold.{State, Run, run, start_of}
use Rattle.layouts.specs.Offcuts.{events, Offcut, offcuts_in, offcut_words}
use Rattle.unfold_waiting.specs.Turns.{TurnTo, max_steps}
use Rattle.unfold_offcut.specs.declared.Lengths.{Lengths}
use Rattle.unfold_step.specs.Meaning.{state_of}
use Rattle.unfold_step.specs.Ready.{Within}
use Rattle.unfold_run.specs.declared.remaining.Remaining.{Remaining}
use Rattle.unfold_run.specs.declared.run.Progress.{Progress}
use Rattle.unfold_run.specs.declared.run.Ran.{Ran}
use Rattle.unfold_run.specs.Opening.{OpensFrom}

-- `whole` is the whole unfolding, `st` the state that it has come to, from which `fuel` steps are left; `left` are the boards that are left to be
-- opened, and `pieces` items are written to the buffer
pub record Going (job : Job) (l : Listing) (whole : Run) (fuel : ℕ) (st : State) (left : Remaining) (pieces : ℕ) (buffer : List ℕ) : Type 0 where
  -- the items placed so far
  pub done : List Placement
  pub written : Holds buffer (placement_words done)
  pub as_many : length done ≡ pieces
  -- they and those of the run that is left are the whole, which ends as that run does
  pub items : done ++ (run fuel job l st).placements ≡ whole.placements
  pub last : (run fuel job l st).last ≡ whole.last
  -- there is a count for each cut, and the boards left are those of the counts left
  pub counted : length l.cuts ≤ length st.counts
  pub boards-left : OpensFrom l (length job.sizes) left st.counts
  -- the pieces lie inside the board, by its own size (request Six), and no number is above that of the steps
  pub within : Within (size_at job st.turn.board.size) l st.waiting
  pub few-steps : fuel ≤ max_steps
  pub turns : TurnTo (max_steps - fuel) st.turn
  -- there is room for all items
  pub few-items : length whole.placements ≤ max_pieces
  pub room : placements_size ≤ length buffer

-- `os` are the offcuts of the whole unfolding; of `n` pieces that are left over so far the list has the words, if it is of full size
pub record Leaving (job : Job) (l : Listing) (lengths : Lengths) (os : List Offcut) (fuel : ℕ) (st : State) (n : ℕ) (list : List ℕ) : Type 0 where
  -- the pieces left over so far
  pub over : List Offcut
  pub listed : offcuts_size ≤ length list → Holds list (offcut_words lengths.first lengths.second over)
  pub as_many : length over ≡ n
  -- they and those that the steps left leave over are all
  pub to-come : over ++ offcuts_in l (events fuel job l st) ≡ os
  -- there is room for all of them
  pub few-offcuts : length os ≤ max_offcuts

-- the boards of the size of the open board that are left to be opened (request Six)
abbrev pub left_at : Progress → Remaining
left_at at = record { size = at.size; boards = at.boards }

-- the boards used, the items placed and the pieces left over so far
abbrev pub ran_at : Progress → Ran
ran_at at = record { boards = at.state.turn.board; pieces = at.pieces; offcuts = at.offcuts }

module _ (job : Job) (l : Listing) (lengths : Lengths) (whole : Run) (os : List Offcut) where
  -- the same of the code's values, with the counts that are left
  abbrev pub GoingAt : ℕ → Progress → List ℕ → List ℕ → List ℕ → Type 0
  GoingAt fuel at ns buffer list =
      Going job l whole fuel (state_of at.size.0 at.state ns) (left_at at) at.pieces buffer × Leaving job l lengths os fuel (state_of at.size.0 at.state ns) at.offcuts list

  -- after a step: the run goes on, or has ended where it stood
  abbrev pub Advanced : ℕ → Progress → Option Progress → List ℕ → List ℕ → List ℕ → Type 0
  Advanced fuel at (Some next) ns buffer list = GoingAt fuel next ns buffer list
  Advanced fuel at None ns buffer list = GoingAt 0 at ns buffer list

-- some steps of some unfolding are left
pub record GoesOn (job : Job) (l : Listing) (lengths : Lengths) (at : Progress) (ns buffer list : List ℕ) : Type 0 where
  pub whole : Run
  pub os : List Offcut
  pub fuel : ℕ
  pub going : GoingAt job l lengths whole os (suc fuel) at ns buffer list

-- what a run gives: the boards, the pieces and the offcuts, the words of the placements, and in a list of full size the words of the offcuts
pub record Gives (lengths : Lengths) (whole : Run) (os : List Offcut) (r : Ran) (buffer list : List ℕ) : Type 0 where
  pub boards-given : r.boards ≡ whole.last.turn.board.number
  pub pieces-given : r.pieces ≡ length whole.placements
  pub offcuts-given : r.offcuts ≡ length os
  pub words-given : Holds buffer (placement_words whole.placements)
  pub offcuts-listed : offcuts_size ≤ length list → Holds list (offcut_words lengths.first lengths.second os)

-- the run of some counts, within the budget of steps, and its offcuts
abbrev pub started : Job → Listing → List ℕ → Run
started job l ns = run max_steps job l (start_of ns)

abbrev pub started_offcuts : Job → Listing → List ℕ → List Offcut
started_offcuts job l ns = offcuts_in l (events max_steps job l (start_of ns))
