-- A step of the code, on plain values: what it asks of a cut, and that what it makes is the step that document 01 names.
use Prim.Native.Nat.{ℕ, ◌-◌, ◌<◌}
use native.Mathlib.Omega.{arith}
use mathlib.Core.Path.{◌≡◌, refl, sym, ◌∙◌}
use mathlib.Core.Option.{some}
use lib.ListN.{length}
use Rattle.job.specs.declared.size.Size.{Size}
use Rattle.job.specs.Job.{Job, size_at}
use Rattle.listing.specs.Listing.{Listing}
use Rattle.listing.specs.Model.{Model}
use Rattle.layouts.specs.Unfold.{Waiting, State, Taken, taken, search, spent, highest, done, step}
use Rattle.layouts.proofs.machine.Search.{found, found-cut}
use Rattle.unfold_pick.specs.declared.Piece.{Piece as CodePiece}
use Rattle.std.specs.Prelude.{Some}
use Rattle.unfold_pick.specs.Next.{Next, next_of}
use Rattle.unfold_waiting.specs.declared.waiting.Waiting.{Waiting as CodeWaiting}
use Rattle.unfold_waiting.specs.Meaning.{piece_of, waiting_of}
use Rattle.unfold_waiting.specs.Without.{without}
use Rattle.unfold_waiting.proofs.CodeWaiting.{picked-taken}
use Rattle.unfold_step.specs.Meaning.{counts_after}
use Rattle.unfold_step.specs.Ready.{Cuttable, Ready}
use Rattle.unfold_step.proofs.Steps.{step_cut}
use Rattle.unfold_step.proofs.Inside.{taken_in}

-- the piece picked is taken, and the code's other pieces wait on
pub picked-rest : (w : CodeWaiting) (s : ℕ) (p : CodePiece) {r : Next} {rest : Waiting} → r ≡ next_of w.first w.second w.third → r ≡ Some (s, p) → rest ≡ without s (waiting_of w) → highest (waiting_of w) ≡ some (taken (piece_of p) s rest)
picked-rest w s p n e r = rw r (picked-taken w s p (sym n ∙ e))

-- the state without the piece taken
abbrev pub resting : State → Taken → State
resting st t = record { counts = st.counts; waiting = t.rest; turn = st.turn }

-- the counts after a cut is done
pub done-spends : (job : Job) (l : Listing) (st : State) (t : Taken) (c : ℕ) → spent st.counts c ≡ counts_after (done job l (resting st t) t c) st.counts
unfolding done
done-spends job l st t c = refl

module _ (job : Job) (l : Listing) (m : Model job l) (st : State) (t : Taken) (e : highest st.waiting ≡ some t) where
  -- the size of the board
  abbrev size : Size
  size = size_at job st.turn.board.size

  -- it is as ready as the state was
  pub rest-ready : Ready job l st → Ready job l (resting st t)
  rest-ready r = record { counted = r.counted; within = (taken_in job l m size st.waiting t e r.within).1; turns = r.turns }

  -- the piece taken is of a plate type of the listing
  pub taken-listed : Ready job l st → t.piece.plate < length l.plates
  taken-listed r = (taken_in job l m size st.waiting t e r.within).0.listed

  module _ (c : ℕ) (f : search t.piece.plate 1 l.cuts st.counts ≡ some c) where
    -- the cut found can be done on the piece
    pub found-cuttable : Ready job l st → Cuttable job l st.counts c t.piece
    found-cuttable r =
        let (is, on) = found-cut l t.piece.plate st.counts c f in
        let (d, s, at) = found l t.piece.plate st.counts c f in
        let place : c - 1 ≡ d = omega arith in
        record {
          from_one = is.0;
          to_last = is.1;
          left = rw place at.left;
          on = on;
          size = st.turn.board.size;
          in-board = (taken_in job l m size st.waiting t e r.within).0;
        }

    -- done on the state without the piece, it is the step
    pub done-step : done job l (resting st t) t c ≡ step job l st
    unfolding done
    done-step = sym (step_cut job l st t e c f)
