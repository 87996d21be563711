-- Request Two, "Offcuts": what the steps of an unfolding do, in order, and the pieces that they leave over.
use Rattle.std.specs.Prelude.{ℕ, zero, suc, true, false, ◌&&◌, leb, eqb, length}
use mathlib.Core.List.{List, [], ◌∷◌, flat_map}
use Rattle.std.proofs.Math.Option.{none, some}
use Rattle.job.specs.Job.{Job}
use Rattle.listing.specs.Listing.{Listing, plate_at}
use Rattle.layouts.specs.Placement.{Opened, Placement}
use Rattle.layouts.specs.Unfold.{Piece, State, search, highest, placed, left_over, idle, step, next_size, open_board, steps_for, start_of}

-- what a step does: a cut, by its number, places an item; or a piece is left over, on a board, which has its number and its size (request Six)
pub data Event : Type 0 where
  did : ℕ → Placement → Event
  over : Opened → Piece → Event

-- the number of the cut that the next step does, 0 if it does none
unfoldable pub chosen : Listing → State → ℕ
chosen l st =
    elim (highest st.waiting) [
      | none ↦ 0
      | some t ↦ elim (search t.piece.plate 1 l.cuts st.counts) [ none ↦ 0 | some k ↦ k ]
    ]

-- what the steps of `run` do, in order
unfoldable pub events : ℕ → Job → Listing → State → List Event
events zero job l st = []
events (suc fuel) job l st =
    elim (step job l st) [
      | placed p st' ↦ did (chosen l st) p ∷ events fuel job l st'
      | left_over p st' ↦ over st.turn.board p ∷ events fuel job l st'
      | idle ↦
          elim (next_size (length job.sizes) 0 l st.counts) [
            | some j ↦ events fuel job l (open_board j st)
            | none ↦ []
          ]
    ]

-- what the steps of an unfolding do
unfoldable pub events_of : Job → Listing → List ℕ → List Event
events_of job l ns = events (steps_for ns) job l (start_of ns)

-- the items that are placed, in order
unfoldable pub placed_in : List Event → List Placement
placed_in [] = []
placed_in (did k p ∷ es) = p ∷ placed_in es
placed_in (over b p ∷ es) = placed_in es

-- the cuts that are done, in order; those of them that are done on board b
unfoldable pub cuts_in : List Event → List ℕ
cuts_in [] = []
cuts_in (did k p ∷ es) = k ∷ cuts_in es
cuts_in (over b p ∷ es) = cuts_in es

unfoldable pub cuts_on : ℕ → List Event → List ℕ
cuts_on b [] = []
cuts_on b (did k p ∷ es) = elim (eqb p.turn.board.number b) [ true ↦ k ∷ cuts_on b es | false ↦ cuts_on b es ]
cuts_on b (over c p ∷ es) = cuts_on b es

-- the plate types of the pieces left over, in order
unfoldable pub types_over : List Event → List ℕ
types_over [] = []
types_over (did k p ∷ es) = types_over es
types_over (over b p ∷ es) = p.plate ∷ types_over es

-- "a piece left over in unfolding is listed as board, x, y, width, height": its sides are those of its plate type. Its words name the number of the board;
-- the size of that board is the one that its placements name (request Six)
pub record Offcut : Type 0 where
  pub board : Opened
  pub x : ℕ
  pub y : ℕ
  pub width : ℕ
  pub height : ℕ

unfoldable pub offcut : Listing → Opened → Piece → Offcut
offcut l b p =
    let q = plate_at l p.plate in
    record { board = b; x = p.x; y = p.y; width = q.width; height = q.height }

-- "the list, in the order pieces are left over"
unfoldable pub offcuts_in : Listing → List Event → List Offcut
offcuts_in l [] = []
offcuts_in l (did k p ∷ es) = offcuts_in l es
offcuts_in l (over b p ∷ es) = offcut l b p ∷ offcuts_in l es

-- the offcuts of the unfolding of a plan
unfoldable pub offcuts_of : Job → Listing → List ℕ → List Offcut
offcuts_of job l ns = offcuts_in l (events_of job l ns)

-- "a 1 if usable: its width reaches the first and its height the second of two set lengths"; else a 0
unfoldable pub usable : ℕ → ℕ → Offcut → ℕ
usable first second o = elim (leb first o.width && leb second o.height) [ true ↦ 1 | false ↦ 0 ]

-- offcuts as words, six for each
unfoldable pub offcut_words : ℕ → ℕ → List Offcut → List ℕ
offcut_words first second os =
    flat_map (λ o. o.board.number ∷ o.x ∷ o.y ∷ o.width ∷ o.height ∷ usable first second o ∷ []) os
