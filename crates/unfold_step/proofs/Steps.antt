-- Document 01, "Unfolding": what a step is, by the piece that is taken and the cut that is found, and what a run is, by its first step.
use Prim.Native.Nat.{ℕ, suc}
use mathlib.Core.Path.{◌≡◌, refl}
use mathlib.Core.Option.{Option, none, some}
use lib.ListN.{length}
use Rattle.job.specs.Job.{Job}
use Rattle.listing.specs.Listing.{Listing}
use Rattle.layouts.specs.Placement.{Placement}
use Rattle.layouts.specs.Unfold.{Piece, State, Taken, highest, search, Step, placed, left_over, idle, done, step, next_size, open_board, placing, run}
use Rattle.layouts.proofs.machine.Search.{spent-length}
use Rattle.unfold_step.specs.Meaning.{counts_after}

module _ (job : Job) (l : Listing) (st : State) where
  -- nothing waits
  pub step-idle : highest st.waiting ≡ none → step job l st ≡ idle
  unfolding step
  step-idle e = rw (e, step)

  module _ (t : Taken) (e : highest st.waiting ≡ some t) where
    -- no cut on the type of the piece taken has a count left
    pub step-over : search t.piece.plate 1 l.cuts st.counts ≡ none → step job l st ≡ left_over t.piece (record { counts = st.counts; waiting = t.rest; turn = st.turn })
    unfolding step
    step-over f = rw (e, step, f, step)

    -- a cut is found and done
    pub step_cut : (k : ℕ) → search t.piece.plate 1 l.cuts st.counts ≡ some k → step job l st ≡ done job l st t k
    unfolding step
    step_cut k f = rw (e, step, f, step)

  -- what holds of each of the three holds of the step
  pub step_by : (P : Step → Type 0)
      → (highest st.waiting ≡ none → P idle)
      → ((t : Taken) → highest st.waiting ≡ some t → search t.piece.plate 1 l.cuts st.counts ≡ none → P (left_over t.piece (record { counts = st.counts; waiting = t.rest; turn = st.turn })))
      → ((t : Taken) → highest st.waiting ≡ some t → (k : ℕ) → search t.piece.plate 1 l.cuts st.counts ≡ some k → P (done job l st t k))
      → P (step job l st)
  step_by P nothing over cut = by-piece (highest st.waiting) refl
    where
      by-cut : (t : Taken) → highest st.waiting ≡ some t → (o : Option ℕ) → search t.piece.plate 1 l.cuts st.counts ≡ o → P (step job l st)
      by-cut t e none f = rw (step-over t e f) (over t e f)
      by-cut t e (some k) f = rw (step_cut t e k f) (cut t e k f)

      by-piece : (o : Option Taken) → highest st.waiting ≡ o → P (step job l st)
      by-piece none e = rw (step-idle e) (nothing e)
      by-piece (some t) e = by-cut t e (search t.piece.plate 1 l.cuts st.counts) refl

  -- a step leaves as many counts as there were
  pub step-length : length (counts_after (step job l st) st.counts) ≡ length st.counts
  unfolding done
  step-length =
      step_by (λ s. length (counts_after s st.counts) ≡ length st.counts) (λ _. refl) (λ _ _ _. refl) (λ _ _ k _. spent-length l st.counts k)

  -- an item is placed first
  pub run-placed : (fuel : ℕ) (p : Placement) (st' : State) → step job l st ≡ placed p st' → run (suc fuel) job l st ≡ placing p (run fuel job l st')
  unfolding run
  run-placed fuel p st' e = rw (e, run)

  -- a piece is left over first
  pub run-over : (fuel : ℕ) (p : Piece) (st' : State) → step job l st ≡ left_over p st' → run (suc fuel) job l st ≡ run fuel job l st'
  unfolding run
  run-over fuel p st' e = rw (e, run)

  -- a board is opened first, of size j
  pub run-open : (fuel j : ℕ) → step job l st ≡ idle → next_size (length job.sizes) 0 l st.counts ≡ some j → run (suc fuel) job l st ≡ run fuel job l (open_board j st)
  unfolding run
  run-open fuel j e h = rw (e, h, run)
