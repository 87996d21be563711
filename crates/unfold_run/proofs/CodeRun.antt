-- A run, on plain values: each step keeps that what is written and what is left to do make the whole.
use Prim.Native.Nat.{ℕ, suc, ◌+◌, ◌-◌, ◌≤◌, ◌<◌}
use native.Mathlib.Omega.{arith}
use mathlib.Core.Path.{◌≡◌, refl, sym, ◌∙◌, ap}
use mathlib.Core.List.{List, [], ◌∷◌, ◌++◌, append_assoc, append-nil, flat_map}
use mathlib.Core.Option.{none}
use lib.ListN.{length, length-append}
use Rattle.job.specs.Sizes.{max_pieces, placements_size}
use Rattle.job.specs.Job.{Job, size_at}
use Rattle.job.specs.Admitted.{Sided}
use Rattle.listing.specs.declared.plate.Plate.{Plate}
use Rattle.listing.specs.Listing.{Listing, plate_at}
use Rattle.listing.specs.Model.{Model}
use Rattle.listing.specs.Holds.{Holds}
use Rattle.layouts.specs.Placement.{Turn, Placement, placement_words}
use Rattle.layouts.specs.Unfold.{Piece, State, placed, left_over, idle, step, next_size, open_board, Run, placing, run, start_of}
use Rattle.layouts.proofs.machine.MachineSteps.{step-ends}
use Rattle.unfold_waiting.specs.Turns.{TurnTo, max_steps}
use Rattle.unfold_step.proofs.Steps.{step-length, run-placed, run-over, run-open}
use Rattle.unfold_step.proofs.Inside.{Kept, StepKeeps, step_keeps}
use Rattle.unfold_run.specs.declared.remaining.Remaining.{Remaining}
use Rattle.unfold_run.specs.Opening.{OpensFrom}
use Rattle.unfold_run.specs.Going.{Going, started}
use Rattle.unfold_run.proofs.CodeOpening.{next_here}

module _ (job : Job) (l : Listing) (m : Model job l) (whole : Run) where
  -- a run of some counts begins with nothing written
  started-so : (ns buffer : List ℕ) (left : Remaining) → whole ≡ started job l ns → Holds buffer [] → length l.cuts ≤ length ns → OpensFrom l (length job.sizes) left ns → length whole.placements ≤ max_pieces → placements_size ≤ length buffer
      → Going job l whole max_steps (start_of ns) left 0 buffer
  unfolding placement_words flat_map
  started-so ns buffer left e h c b f r =
      record {
        done = [];
        written = h;
        as_many = refl;
        items = ap (λ (w : Run). w.placements) (sym e);
        last = ap (λ (w : Run). w.last) (sym e);
        counted = c;
        boards-left = b;
        within = record { one = tt; two = tt; three = tt };
        few-steps = omega arith;
        turns = record { board-to = omega arith; strip-to = omega arith; stack-to = omega arith; place-to = omega arith };
        few-items = f;
        room = r;
      }

  pub going_start : (ns buffer : List ℕ) (left : Remaining) (st : State) → st ≡ start_of ns → whole ≡ started job l ns → Holds buffer [] → length l.cuts ≤ length ns → OpensFrom l (length job.sizes) left ns → length whole.placements ≤ max_pieces → placements_size ≤ length buffer → Going job l whole max_steps st left 0 buffer
  going_start ns buffer left st s e h c b f r = rw s (started-so ns buffer left e h c b f r)

  -- where no step is left, what is written is the whole
  module _ (st : State) (left : Remaining) (pieces : ℕ) (buffer : List ℕ) (g : Going job l whole 0 st left pieces buffer) where
    all_done : g.done ≡ whole.placements
    unfolding run
    all_done = sym (append-nil g.done) ∙ g.items

    pub end-words : Holds buffer (placement_words whole.placements)
    end-words = rw (← all_done) g.written

    pub end-pieces : pieces ≡ length whole.placements
    end-pieces = sym g.as_many ∙ ap length all_done

    pub end-last : st ≡ whole.last
    unfolding run
    end-last = g.last

  module _ (fuel : ℕ) (st : State) (left : Remaining) (pieces : ℕ) (buffer : List ℕ) (g : Going job l whole (suc fuel) st left pieces buffer) where
    keeps : Sided job → StepKeeps job l m (max_steps - suc fuel) (step job l st)
    keeps sided = step_keeps job l m sided (max_steps - suc fuel) st g.within g.turns

    turns-on : (u : Turn) → TurnTo (suc (max_steps - suc fuel)) u → TurnTo (max_steps - fuel) u
    turns-on u t =
        let f = g.few-steps in
        record { board-to = omega arith; strip-to = omega arith; stack-to = omega arith; place-to = omega arith }

    module _ (p : Placement) (st' : State) (e : step job l st ≡ placed p st') where
      split : g.done ++ (p ∷ (run fuel job l st').placements) ≡ whole.placements
      unfolding placing
      split = ap (λ (r : Run). g.done ++ r.placements) (sym (run-placed job l st fuel p st' e)) ∙ g.items

      -- there is room for the item placed
      pub placed-room : pieces < max_pieces
      placed-room =
          let n : length g.done + suc (length (run fuel job l st').placements) ≡ length whole.placements = sym (length-append g.done (p ∷ (run fuel job l st').placements)) ∙ ap length split in
          omega (arith, g.as_many, g.few-items)

      -- and the run goes on with it written
      pub going-placed : {buffer' : List ℕ} {left' : Remaining} {p' : Placement} → Sided job → p' ≡ p → ((ps : List Placement) → length ps ≡ pieces → Holds buffer (placement_words ps) → Holds buffer' (placement_words (ps ++ p' ∷ []))) → length buffer' ≡ length buffer → OpensFrom l (length job.sizes) left' st'.counts → Going job l whole fuel st' left' (pieces + 1) buffer'
      unfolding placing
      going-placed sided f w n o =
          let k : Kept job l m (max_steps - suc fuel) st' = rw e at (keeps sided) in
          let n' : length st'.counts ≡ length st.counts = rw e at (step-length job l st) in
          record {
            done = g.done ++ p ∷ [];
            written = rw f at (w g.done g.as_many g.written);
            as_many = simp length-append (omega (arith, g.as_many));
            items = append_assoc g.done (p ∷ []) (run fuel job l st').placements ∙ split;
            last = ap (λ (r : Run). r.last) (sym (run-placed job l st fuel p st' e)) ∙ g.last;
            counted = omega (arith, g.counted);
            boards-left = o;
            within = k.within;
            few-steps = omega (arith, g.few-steps);
            turns = turns-on st'.turn k.turns;
            few-items = g.few-items;
            room = omega (arith, g.room);
          }

    -- the run goes on after a piece is left over
    pub going-over : Sided job → (p : Piece) (st' : State) → step job l st ≡ left_over p st' → OpensFrom l (length job.sizes) left st'.counts → Going job l whole fuel st' left pieces buffer
    going-over sided p st' e o =
        let k : Kept job l m (max_steps - suc fuel) st' = rw e at (keeps sided) in
        let n' : length st'.counts ≡ length st.counts = rw e at (step-length job l st) in
        let r = run-over job l st fuel p st' e in
        record {
          done = g.done;
          written = g.written;
          as_many = g.as_many;
          items = ap (λ (x : Run). g.done ++ x.placements) (sym r) ∙ g.items;
          last = ap (λ (x : Run). x.last) (sym r) ∙ g.last;
          counted = omega (arith, g.counted);
          boards-left = o;
          within = k.within;
          few-steps = omega (arith, g.few-steps);
          turns = turns-on st'.turn k.turns;
          few-items = g.few-items;
          room = g.room;
        }

    -- .. and after a board is opened
    open-board : step job l st ≡ idle → (left' : Remaining) → OpensFrom l (length job.sizes) left' st.counts → (left'.boards ≡ 0 → ⊥) → Going job l whole fuel (open_board left'.size.0 st) left' pieces buffer
    unfolding open_board
    open-board e left' o h =
        let j = left'.size.0 in
        let r = run-open job l st fuel j e (next_here l (length job.sizes) left' st.counts o h) in
        let w : (plate_at l j).width ≡ (size_at job j).width = ap (λ (q : Plate). q.width) (m.first j o.listed) in
        let y : (plate_at l j).height ≡ (size_at job j).height = ap (λ (q : Plate). q.height) (m.first j o.listed) in
        let t = g.turns in
        record {
          done = g.done;
          written = g.written;
          as_many = g.as_many;
          items = ap (λ (x : Run). g.done ++ x.placements) (sym r) ∙ g.items;
          last = ap (λ (x : Run). x.last) (sym r) ∙ g.last;
          counted = g.counted;
          boards-left = o;
          within = record { one = record { listed = omega (arith, o.listed, m.size-plates); across = omega arith; up = omega arith }; two = tt; three = tt };
          few-steps = omega (arith, g.few-steps);
          turns = record { board-to = omega (arith, g.few-steps); strip-to = omega arith; stack-to = omega arith; place-to = omega arith };
          few-items = g.few-items;
          room = g.room;
        }

    pub going-open : step job l st ≡ idle → (left' : Remaining) → OpensFrom l (length job.sizes) left' st.counts → (left'.boards ≡ 0 → ⊥) → (st' : State) → st' ≡ open_board left'.size.0 st → Going job l whole fuel st' left' pieces buffer
    going-open e left' o h st' f = rw f (open-board e left' o h)

    -- it has ended where nothing waits and no board is left
    ended : step job l st ≡ idle → next_size (length job.sizes) 0 l st.counts ≡ none → Going job l whole 0 st left pieces buffer
    unfolding run
    ended e z =
        let r = step-ends job l st e z (suc fuel) in
        let t = g.turns in
        record {
          done = g.done;
          written = g.written;
          as_many = g.as_many;
          items = ap (λ (x : Run). g.done ++ x.placements) (sym r) ∙ g.items;
          last = ap (λ (x : Run). x.last) (sym r) ∙ g.last;
          counted = g.counted;
          boards-left = g.boards-left;
          within = g.within;
          few-steps = omega arith;
          turns = record { board-to = omega arith; strip-to = omega arith; stack-to = omega arith; place-to = omega arith };
          few-items = g.few-items;
          room = g.room;
        }

    pub going-ended : step job l st ≡ idle → next_size (length job.sizes) 0 l st.counts ≡ none → (st' : State) → st' ≡ st → Going job l whole 0 st' left pieces buffer
    going-ended e z st' f = rw f (ended e z)
