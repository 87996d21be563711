-- The offcuts of a run, on plain values: each step keeps that those left over and those to come are all.
use Prim.Native.Nat.{ℕ, suc, ◌+◌, ◌≤◌, ◌<◌}
use native.Mathlib.Omega.{arith}
use mathlib.Core.Path.{◌≡◌, refl, sym, ◌∙◌, ap}
use mathlib.Core.List.{List, [], ◌∷◌, ◌++◌, append_assoc, append-nil, flat_map}
use mathlib.Core.Option.{none, some}
use lib.ListN.{length, length-append}
use Rattle.job.specs.Sizes.{max_offcuts, offcuts_size}
use Rattle.job.specs.Job.{Job}
use Rattle.listing.specs.Listing.{Listing}
use Rattle.listing.specs.Holds.{Holds}
use Rattle.layouts.specs.Placement.{Placement}
use Rattle.layouts.specs.Unfold.{Piece, State, placed, left_over, idle, step, next_size, open_board, start_of}
use Rattle.layouts.specs.Offcuts.{events, Offcut, offcut, offcuts_in, offcut_words}
use Rattle.layouts.proofs.offcuts.Steps.{offcuts-ended, offcuts-placed, offcuts-over, offcuts-open}
use Rattle.unfold_waiting.specs.Turns.{max_steps}
use Rattle.unfold_offcut.specs.declared.Lengths.{Lengths}
use Rattle.unfold_run.specs.Going.{Leaving, started_offcuts}

module _ (job : Job) (l : Listing) (lengths : Lengths) (os : List Offcut) where
  abbrev words_of : List Offcut → List ℕ
  words_of = offcut_words lengths.first lengths.second

  -- a run of some counts begins with nothing left over
  pub leaving-start : (ns list : List ℕ) (st : State) → st ≡ start_of ns → os ≡ started_offcuts job l ns → Holds list [] → length os ≤ max_offcuts → Leaving job l lengths os max_steps st 0 list
  unfolding offcut_words flat_map
  leaving-start ns list st s e h f = rw s (record { over = []; listed = λ _. h; as_many = refl; to-come = sym e; few-offcuts = f })

  -- where no step is left, those left over are all
  module _ (st : State) (n : ℕ) (list : List ℕ) (g : Leaving job l lengths os 0 st n list) where
    all-over : g.over ≡ os
    unfolding events offcuts_in
    all-over = sym (append-nil g.over) ∙ g.to-come

    pub end_list : offcuts_size ≤ length list → Holds list (words_of os)
    end_list full = rw (← all-over) (g.listed full)

    pub end-offcuts : n ≡ length os
    end-offcuts = sym g.as_many ∙ ap length all-over

  module _ (fuel : ℕ) (st : State) (n : ℕ) (list : List ℕ) (g : Leaving job l lengths os (suc fuel) st n list) where
    -- from a state in which as much is left over
    moved : (fuel' : ℕ) (st' : State) → offcuts_in l (events (suc fuel) job l st) ≡ offcuts_in l (events fuel' job l st') → Leaving job l lengths os fuel' st' n list
    moved fuel' st' e =
        record {
          over = g.over;
          listed = g.listed;
          as_many = g.as_many;
          to-come = ap (λ (ps : List Offcut). g.over ++ ps) (sym e) ∙ g.to-come;
          few-offcuts = g.few-offcuts;
        }

    -- an item is placed
    pub leaving-placed : (p : Placement) (st' : State) → step job l st ≡ placed p st' → Leaving job l lengths os fuel st' n list
    leaving-placed p st' e = moved fuel st' (offcuts-placed job l st fuel p st' e)

    -- a board is opened, of size j
    pub leaving-open : (j : ℕ) → step job l st ≡ idle → next_size (length job.sizes) 0 l st.counts ≡ some j → (st' : State) → st' ≡ open_board j st → Leaving job l lengths os fuel st' n list
    leaving-open j e h st' f = rw f (moved fuel (open_board j st) (offcuts-open job l st fuel j e h))

    -- nothing waits, and no board is left
    pub leaving-ended : step job l st ≡ idle → next_size (length job.sizes) 0 l st.counts ≡ none → (st' : State) → st' ≡ st → Leaving job l lengths os 0 st' n list
    leaving-ended e h st' f = rw f (moved 0 st (offcuts-ended job l st e h (suc fuel) ∙ sym (offcuts-ended job l st e h 0)))

    -- a piece is left over
    module _ (p : Piece) (st' : State) (e : step job l st ≡ left_over p st') where
      abbrev here : Offcut
      here = offcut l st.turn.board p

      split : g.over ++ (here ∷ offcuts_in l (events fuel job l st')) ≡ os
      split = ap (λ (ps : List Offcut). g.over ++ ps) (sym (offcuts-over job l st fuel p st' e)) ∙ g.to-come

      -- there is room for it
      pub over-room : n < max_offcuts
      over-room =
          let k : length g.over + suc (length (offcuts_in l (events fuel job l st'))) ≡ length os = sym (length-append g.over (here ∷ offcuts_in l (events fuel job l st'))) ∙ ap length split in
          omega (arith, g.as_many, g.few-offcuts)

      -- and the run goes on with it listed
      pub leaving-over :
          {list' : List ℕ} {o : Offcut}
          → o ≡ here
          → (offcuts_size ≤ length list → (ps : List Offcut) → length ps ≡ n → Holds list (words_of ps) → Holds list' (words_of (ps ++ o ∷ [])))
          → length list' ≡ length list
          → Leaving job l lengths os fuel st' (n + 1) list'
      leaving-over f w k =
          record {
            over = g.over ++ here ∷ [];
            listed = λ full. rw f at (w (rw k at full) g.over g.as_many (g.listed (rw k at full)));
            as_many = simp length-append (omega (arith, g.as_many));
            to-come = append_assoc g.over (here ∷ []) (offcuts_in l (events fuel job l st')) ∙ split;
            few-offcuts = g.few-offcuts;
          }
