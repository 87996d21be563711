-- Request Two: what is left over from a state on, by the first step that is taken there.
use Prim.Native.Nat.{ℕ, zero, suc}
use mathlib.Core.Path.{◌≡◌, refl}
use mathlib.Core.List.{[], ◌∷◌}
use mathlib.Core.Option.{none, some}
use lib.ListN.{length}
use Rattle.job.specs.Job.{Job}
use Rattle.listing.specs.Listing.{Listing}
use Rattle.layouts.specs.Placement.{Placement}
use Rattle.layouts.specs.Unfold.{Piece, State, placed, left_over, idle, step, next_size, open_board}
use Rattle.layouts.specs.Offcuts.{events, offcut, offcuts_in}

module _ (job : Job) (l : Listing) (st : State) where
  -- nothing waits and no board is left: there are no events
  pub events-ended : step job l st ≡ idle → next_size (length job.sizes) 0 l st.counts ≡ none → (fuel : ℕ) → events fuel job l st ≡ []
  unfolding events
  events-ended e z zero = refl
  events-ended e z (suc fuel) = rw (e, z, events)

  -- .. and no offcuts
  pub offcuts-ended : step job l st ≡ idle → next_size (length job.sizes) 0 l st.counts ≡ none → (fuel : ℕ) → offcuts_in l (events fuel job l st) ≡ []
  unfolding offcuts_in
  offcuts-ended e z fuel = rw (events-ended e z fuel)

  -- an item is placed first
  pub offcuts-placed : (fuel : ℕ) (p : Placement) (st' : State) → step job l st ≡ placed p st' → offcuts_in l (events (suc fuel) job l st) ≡ offcuts_in l (events fuel job l st')
  unfolding events offcuts_in
  offcuts-placed fuel p st' e = rw (e, events)

  -- a piece is left over first
  pub offcuts-over : (fuel : ℕ) (p : Piece) (st' : State) → step job l st ≡ left_over p st' → offcuts_in l (events (suc fuel) job l st) ≡ offcut l st.turn.board p ∷ offcuts_in l (events fuel job l st')
  unfolding events offcuts_in
  offcuts-over fuel p st' e = rw (e, events)

  -- a board is opened first, of size j
  pub offcuts-open : (fuel j : ℕ) → step job l st ≡ idle → next_size (length job.sizes) 0 l st.counts ≡ some j → offcuts_in l (events (suc fuel) job l st) ≡ offcuts_in l (events fuel job l (open_board j st))
  unfolding events
  offcuts-open fuel j e h = rw (e, h, events)
