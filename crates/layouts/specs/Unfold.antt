-- Document 01, "Unfolding": board after board, size by size (request Six), at most three pieces waiting, the piece of the highest stage first.
use Rattle.std.specs.Prelude.{ℕ, zero, suc, ◌+◌, ◌*◌, ◌-◌, true, false, ◌&&◌, List, [], ◌∷◌, ltb, eqb, length, get_or, set}
use Rattle.std.proofs.Math.Option.{Option, none, some}
use Rattle.job.specs.Job.{Job, position_at}
use Rattle.listing.specs.Listing.{Cut, Listing, plate_at, cut_at}
use Rattle.plan.specs.Plan.{on_plate, boards_of, total}
use Rattle.layouts.specs.Placement.{opened, Turn, turn, Placement}

-- a piece of a plate type, with its lower left corner
pub record Piece : Type 0 where
  pub plate : ℕ
  pub x : ℕ
  pub y : ℕ

-- "the pieces waiting are at most three, one of each stage"
pub record Waiting : Type 0 where
  pub first : Option Piece
  pub second : Option Piece
  pub third : Option Piece

abbrev pub waiting : Option Piece → Option Piece → Option Piece → Waiting
waiting a b c = record { first = a; second = b; third = c }

abbrev pub nothing_waits : Waiting
nothing_waits = waiting none none none

-- the counts that are left, the pieces that wait, and where the last item was placed
pub record State : Type 0 where
  pub counts : List ℕ
  pub waiting : Waiting
  pub turn : Turn

-- the counts after cut k, from 1, is done once: "the count falls by 1"
unfoldable pub spent : List ℕ → ℕ → List ℕ
spent ns zero = ns
spent ns (suc k) = set ns k (get_or ns k 0 - 1)

-- "the lowest-numbered" cut on plate type j that "has a count left"; the cuts are numbered from k
unfoldable pub search : ℕ → ℕ → List Cut → List ℕ → Option ℕ
search j k [] ns = none
search j k (c ∷ cs) [] = none
search j k (c ∷ cs) (n ∷ ns) = elim (on_plate j c && ltb 0 n) [ true ↦ some k | false ↦ search j (suc k) cs ns ]

-- a piece that is taken, its stage, and the pieces that wait on
pub record Taken : Type 0 where
  pub piece : Piece
  pub stage : ℕ
  pub rest : Waiting

abbrev pub taken : Piece → ℕ → Waiting → Taken
taken p s w = record { piece = p; stage = s; rest = w }

-- "always the piece of the highest stage is taken"
unfoldable pub highest : Waiting → Option Taken
highest w =
    elim w.third [
      | some p ↦ some (taken p 3 (waiting w.first w.second none))
      | none ↦
          elim w.second [
            | some p ↦ some (taken p 2 (waiting w.first none none))
            | none ↦
                elim w.first [
                  | some p ↦ some (taken p 1 nothing_waits)
                  | none ↦ none
                ]
          ]
    ]

-- a piece waits in the place of its stage
unfoldable pub wait_at : ℕ → Piece → Waiting → Waiting
wait_at stage p w =
    elim (eqb stage 1) [
      | true ↦ waiting (some p) w.second w.third
      | false ↦
          elim (eqb stage 2) [
            | true ↦ waiting w.first (some p) w.third
            | false ↦ waiting w.first w.second (some p)
          ]
    ]

-- a kept residual of type j, from 1, waits at (x, y); 0 is waste
unfoldable pub wait : Listing → ℕ → ℕ → ℕ → Waiting → Waiting
wait l zero x y w = w
wait l (suc j) x y w = wait_at (plate_at l (suc j)).stage (record { plate = suc j; x = x; y = y }) w

-- the item of a cut at stage 1 begins a strip, at stage 2 a stack, at stage 3 it takes the next place
unfoldable pub next_turn : ℕ → Turn → Turn
next_turn stage t =
    elim (eqb stage 1) [
      | true ↦ turn t.board (suc t.strip) 1 1
      | false ↦
          elim (eqb stage 2) [
            | true ↦ turn t.board t.strip (suc t.stack) 1
            | false ↦ turn t.board t.strip t.stack (suc t.place)
          ]
    ]

-- what a step does: an item is placed, a piece is left over, or nothing waits
pub data Step : Type 0 where
  placed : Placement → State → Step
  left_over : Piece → State → Step
  idle : Step

-- cut k on the piece taken: "the item lies in the piece's lower left corner", "top directly above the item, right directly beside it", each past the
-- blade, for "positions move accordingly" (request Four)
unfoldable pub done : Job → Listing → State → Taken → ℕ → Step
done job l st t k =
    let c = cut_at l k in
    let item = position_at job c.item in
    let x = t.piece.x in
    let y = t.piece.y in
    let here = next_turn t.stage st.turn in
    placed (record { turn = here; item = c.item; x = x; y = y })
    (record {
      counts = spent st.counts k;
      waiting = wait l c.top x (y + item.height + job.blade) (wait l c.right (x + item.width + job.blade) y t.rest);
      turn = here;
    })

-- one step: the piece of the highest stage is cut, or is left over
unfoldable pub step : Job → Listing → State → Step
step job l st =
    elim (highest st.waiting) [
      | none ↦ idle
      | some t ↦
          elim (search t.piece.plate 1 l.cuts st.counts) [
            | none ↦ left_over t.piece (record { counts = st.counts; waiting = t.rest; turn = st.turn })
            | some k ↦ done job l st t k
          ]
    ]

-- "boards are opened size by size in rising number" (request Six): of n sizes, from j on, the lowest on which counts are left
unfoldable pub next_size : ℕ → ℕ → Listing → List ℕ → Option ℕ
next_size zero j l ns = none
next_size (suc n) j l ns = elim (ltb 0 (boards_of l j ns)) [ true ↦ some j | false ↦ next_size n (suc j) l ns ]

-- the next board waits, a piece of the plate type of its size
unfoldable pub open_board : ℕ → State → State
open_board j st =
    record {
      counts = st.counts;
      waiting = waiting (some (record { plate = j; x = 0; y = 0 })) none none;
      turn = turn (opened (suc st.turn.board.number) j) 0 0 0;
    }

-- the placements, and the state in which the unfolding ends
pub record Run : Type 0 where
  pub placements : List Placement
  pub last : State

unfoldable pub placing : Placement → Run → Run
placing p r = record { placements = p ∷ r.placements; last = r.last }

-- boards are opened one after another, from 1, until the counts on the sizes are spent; "a board ends when nothing waits"
unfoldable pub run : ℕ → Job → Listing → State → Run
run zero job l st = record { placements = []; last = st }
run (suc fuel) job l st =
    elim (step job l st) [
      | placed p st' ↦ placing p (run fuel job l st')
      | left_over p st' ↦ run fuel job l st'
      | idle ↦
          elim (next_size (length job.sizes) 0 l st.counts) [
            | some j ↦ run fuel job l (open_board j st)
            | none ↦ record { placements = []; last = st }
          ]
    ]

-- steps that are enough: for each counted cut the cut itself, at most one board opened and two pieces left over; and one that ends
unfoldable pub steps_for : List ℕ → ℕ
steps_for ns = suc (4 * total ns)

-- before the first step nothing waits and no board is open
abbrev pub start_of : List ℕ → State
start_of ns = record { counts = ns; waiting = nothing_waits; turn = turn (opened 0 0) 0 0 0 }

unfoldable pub unfolded : Job → Listing → List ℕ → Run
unfolded job l ns = run (steps_for ns) job l (start_of ns)
