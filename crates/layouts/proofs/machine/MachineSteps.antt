-- Document 01, "Unfolding": single steps of the machine, and runs of several steps from one state to another.
use Prim.Native.Nat.{ℕ, zero, suc, ◌+◌, ◌≤◌, ◌<◌}
use native.Mathlib.Omega.{arith}
use native.Mathlib.Nat.{zero-add, add_assoc}
use mathlib.Core.Path.{◌≡◌, refl, ◌∙◌, ap}
use mathlib.Core.List.{List, [], ◌∷◌, ◌++◌, append_assoc}
use mathlib.Core.Option.{Option, none, some}
use lib.ListN.{length}
use Rattle.job.specs.Job.{Job}
use Rattle.listing.specs.Listing.{Listing, plate_at, cut_at}
use Rattle.layouts.specs.Layout.{width_of, height_of}
use Rattle.layouts.specs.Placement.{Opened, Turn, turn, Placement}
use Rattle.layouts.specs.Unfold.{Piece, Waiting, waiting, State, spent, search, highest, wait_at, wait, next_turn, Step, placed, left_over, idle, done, step, next_size, open_board, Run, placing, run}

-- a state: the pieces that wait, by stage, where the last item was placed, and the counts left
abbrev pub state : Option Piece → Option Piece → Option Piece → Turn → List ℕ → State
state a b c t ns = record { counts = ns; waiting = waiting a b c; turn = t }

-- a piece of plate type j at (x, y)
abbrev pub piece : ℕ → ℕ → ℕ → Piece
piece j x y = record { plate = j; x = x; y = y }

-- a residual of number j waits at (x, y), if it is kept
abbrev pub slot : ℕ → ℕ → ℕ → Option Piece
slot zero x y = none
slot (suc j) x y = some (piece (suc j) x y)

-- an item of type i at (x, y)
abbrev pub placement : Turn → ℕ → ℕ → ℕ → Placement
placement t i x y = record { turn = t; item = i; x = x; y = y }

-- some placements, and then those of a run
abbrev pub before : List Placement → Run → Run
before ps r = record { placements = ps ++ r.placements; last = r.last }

-- a run that ends where it begins
abbrev pub stays : State → Run
stays st = record { placements = []; last = st }

module _ (job : Job) (l : Listing) where
  -- a few steps lead from one state to another, and place these items
  pub record Leads (most : ℕ) (st : State) (ps : List Placement) (st' : State) : Type 0 where
    pub steps : ℕ
    pub few : steps ≤ most
    pub runs : (fuel : ℕ) → run (steps + fuel) job l st ≡ before ps (run fuel job l st')

  -- no step at all
  pub no_step : (st : State) → Leads 0 st [] st
  no_step st = record { steps = 0; few = omega arith; runs = λ fuel. rw (zero-add fuel) }

  -- one run and then another
  pub ◌and-then◌ : {m n : ℕ} {st st' st'' : State} {ps qs : List Placement} → Leads m st ps st' → Leads n st' qs st'' → Leads (m + n) st (ps ++ qs) st''
  ◌and-then◌ {st = st} {ps = ps} {qs = qs} p q =
      record {
        steps = p.steps + q.steps;
        few = omega (arith, p.few, q.few);
        runs = λ fuel. rw (add_assoc p.steps q.steps fuel) (p.runs (q.steps + fuel) ∙ ap (before ps) (q.runs fuel) ∙ rw append_assoc);
      }

  -- with a higher bound on the steps
  pub more-steps : {m n : ℕ} {st st' : State} {ps : List Placement} → m ≤ n → Leads m st ps st' → Leads n st ps st'
  more-steps h p = record { steps = p.steps; few = omega (arith, p.few); runs = p.runs }

  -- a step that places an item
  pub step-placed : (st st' : State) (p : Placement) → step job l st ≡ placed p st' → Leads 1 st (p ∷ []) st'
  unfolding run placing
  step-placed st st' p e =
      record { steps = 1; few = omega arith; runs = λ fuel. let s : 1 + fuel ≡ suc fuel = omega arith in rw (s, e, run) }

  -- a step that leaves a piece over
  pub step-over : (st st' : State) (p : Piece) → step job l st ≡ left_over p st' → Leads 1 st [] st'
  unfolding run
  step-over st st' p e =
      record { steps = 1; few = omega arith; runs = λ fuel. let s : 1 + fuel ≡ suc fuel = omega arith in rw (s, e, run) }

  -- a step that opens a board, once nothing waits
  pub step-open : (st : State) (j : ℕ) → step job l st ≡ idle → next_size (length job.sizes) 0 l st.counts ≡ some j → Leads 1 st [] (open_board j st)
  unfolding run
  step-open st j e p =
      record {
        steps = 1;
        few = omega arith;
        runs = λ fuel.
            let s : 1 + fuel ≡ suc fuel = omega arith in
            rw (s, e, p, run);
      }

  -- where nothing waits and no counts on sizes are left, the unfolding stays
  pub step-ends : (st : State) → step job l st ≡ idle → next_size (length job.sizes) 0 l st.counts ≡ none → (fuel : ℕ) → run fuel job l st ≡ stays st
  unfolding run
  step-ends st e p zero = refl
  step-ends st e p (suc fuel) = rw (e, p, run)

  module _ (a b : Option Piece) (j x y : ℕ) (t : Turn) (ns : List ℕ) where
    -- the piece of the highest stage is left over where no cut on its type has a count left
    pub over-3 : search j 1 l.cuts ns ≡ none → step job l (state a b (some (piece j x y)) t ns) ≡ left_over (piece j x y) (state a b none t ns)
    unfolding step highest
    over-3 e = rw (e, step)

    pub over-2 : search j 1 l.cuts ns ≡ none → step job l (state a (some (piece j x y)) none t ns) ≡ left_over (piece j x y) (state a none none t ns)
    unfolding step highest
    over-2 e = rw (e, step)

    pub over-1 : search j 1 l.cuts ns ≡ none → step job l (state (some (piece j x y)) none none t ns) ≡ left_over (piece j x y) (state none none none t ns)
    unfolding step highest
    over-1 e = rw (e, step)

  -- nothing waits
  pub none-waits : (t : Turn) (ns : List ℕ) → step job l (state none none none t ns) ≡ idle
  unfolding step highest
  none-waits t ns = refl

  -- where a residual waits, by its stage
  wait-0 : (j x y : ℕ) (w : Waiting) → j ≡ 0 → wait l j x y w ≡ w
  unfolding wait
  wait-0 zero x y w e = refl
  wait-0 (suc j) x y w e = absurd (omega arith)

  wait-1 : (j x y : ℕ) (b c : Option Piece) → (0 < j → (plate_at l j).stage ≡ 1) → wait l j x y (waiting none b c) ≡ waiting (slot j x y) b c
  unfolding wait wait_at
  wait-1 zero x y b c h = refl
  wait-1 (suc j) x y b c h = ap (λ (z : ℕ). wait_at z (piece (suc j) x y) (waiting none b c)) (h (omega arith))

  wait-2 : (j x y : ℕ) (a c : Option Piece) → (0 < j → (plate_at l j).stage ≡ 2) → wait l j x y (waiting a none c) ≡ waiting a (slot j x y) c
  unfolding wait wait_at
  wait-2 zero x y a c h = refl
  wait-2 (suc j) x y a c h = ap (λ (z : ℕ). wait_at z (piece (suc j) x y) (waiting a none c)) (h (omega arith))

  wait-3 : (j x y : ℕ) (a b : Option Piece) → (0 < j → (plate_at l j).stage ≡ 3) → wait l j x y (waiting a b none) ≡ waiting a b (slot j x y)
  unfolding wait wait_at
  wait-3 zero x y a b h = refl
  wait-3 (suc j) x y a b h = ap (λ (z : ℕ). wait_at z (piece (suc j) x y) (waiting a b none)) (h (omega arith))

  module _ (a b : Option Piece) (j x y : ℕ) (bd : Opened) (s k p : ℕ) (ns : List ℕ) (c : ℕ) (found : search j 1 l.cuts ns ≡ some c) where
    -- the item, the top and the right of the cut
    abbrev i : ℕ
    i = (cut_at l c).item

    abbrev t : ℕ
    t = (cut_at l c).top

    abbrev r : ℕ
    r = (cut_at l c).right

    -- the item is placed with the next turn, and these pieces wait
    abbrev places : Turn → Waiting → Step
    places u w = placed (placement u i x y) (record { counts = spent ns c; waiting = w; turn = u })

    -- a cut at stage 3 takes the next place: its top waits
    pub cut-3 : (0 < t → (plate_at l t).stage ≡ 3) → r ≡ 0
        → step job l (state a b (some (piece j x y)) (turn bd s k p) ns)
        ≡ placed (placement (turn bd s k (suc p)) i x y) (state a b (slot t x (y + height_of job i + job.blade)) (turn bd s k (suc p)) (spent ns c))
    unfolding step highest done next_turn width_of height_of
    cut-3 h e =
        rw (found, step)
        (ap (places (turn bd s k (suc p)))
        (ap (wait l t x (y + height_of job i + job.blade)) (wait-0 r (x + width_of job i + job.blade) y (waiting a b none) e) ∙ wait-3 t x (y + height_of job i + job.blade) a b h))

    -- a cut at stage 2 begins a stack: its right waits, and its top above it
    pub cut-2 : (0 < t → (plate_at l t).stage ≡ 3) → (0 < r → (plate_at l r).stage ≡ 2)
        → step job l (state a (some (piece j x y)) none (turn bd s k p) ns)
        ≡ placed (placement (turn bd s (suc k) 1) i x y)
        (state a (slot r (x + width_of job i + job.blade) y) (slot t x (y + height_of job i + job.blade)) (turn bd s (suc k) 1) (spent ns c))
    unfolding step highest done next_turn width_of height_of
    cut-2 h e =
        rw (found, step)
        (ap (places (turn bd s (suc k) 1))
        (ap (wait l t x (y + height_of job i + job.blade)) (wait-2 r (x + width_of job i + job.blade) y a none e) ∙ wait-3 t x (y + height_of job i + job.blade) a (slot r (x + width_of job i + job.blade) y) h))

    -- a cut at stage 1 begins a strip: its top waits, and its right beside it
    pub cut-1 : (0 < t → (plate_at l t).stage ≡ 1) → (0 < r → (plate_at l r).stage ≡ 2)
        → step job l (state (some (piece j x y)) none none (turn bd s k p) ns)
        ≡ placed (placement (turn bd (suc s) 1 1) i x y)
        (state (slot t x (y + height_of job i + job.blade)) (slot r (x + width_of job i + job.blade) y) none (turn bd (suc s) 1 1) (spent ns c))
    unfolding step highest done next_turn width_of height_of
    cut-1 h e =
        rw (found, step)
        (ap (places (turn bd (suc s) 1 1))
        (ap (wait l t x (y + height_of job i + job.blade)) (wait-2 r (x + width_of job i + job.blade) y none none e) ∙ wait-1 t x (y + height_of job i + job.blade) (slot r (x + width_of job i + job.blade) y) none h))
