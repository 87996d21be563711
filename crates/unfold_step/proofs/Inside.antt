-- Every piece that waits lies inside the board, and no number runs ahead of the steps: each step keeps both.
use Prim.Native.Nat.{ℕ, zero, suc, ◌+◌, ◌≤◌, ◌<◌}
use native.Mathlib.Omega.{arith}
use mathlib.Core.Path.{◌≡◌, refl}
use mathlib.Core.Bool.{Bool, true, false}
use mathlib.Core.Option.{Option, none, some}
use lib.Dec.{eqb}
use Rattle.job.specs.declared.item.Position.{Position}
use Rattle.job.specs.declared.size.Size.{Size}
use Rattle.job.specs.Job.{Job, size_at, position_at}
use Rattle.job.specs.Admitted.{Sided}
use Rattle.listing.specs.declared.plate.Residuals.{Residuals}
use Rattle.listing.specs.Listing.{Listing, plate_at, cut_at}
use Rattle.listing.specs.Model.{Model, left_by}
use Rattle.listing.proofs.Plates.{may-cut}
use Rattle.listing.proofs.Residuals.{leaves_by}
use Rattle.listing.proofs.Kept.{kept-sides}
use Rattle.layouts.specs.Placement.{Turn}
use Rattle.layouts.specs.Unfold.{Piece, Waiting, State, search, Taken, highest, wait_at, wait, next_turn, Step, placed, left_over, idle, done, step}
use Rattle.layouts.proofs.trees.Cuts.{IsCut, plate_of, cut_fits, top-number, right-number, number-kept}
use Rattle.layouts.proofs.machine.MachineSteps.{piece}
use Rattle.layouts.proofs.machine.Search.{found-cut}
use Rattle.unfold_waiting.specs.Turns.{TurnTo}
use Rattle.unfold_step.specs.Ready.{InBoard, InSlot, Within}
use Rattle.unfold_step.proofs.Steps.{step_by}

-- the residuals r of a plate at (x, y), from which an item is cut with a blade of width b, end by (across, up), where something is left past the blade
pub record Ends (x y b across up : ℕ) (item : Position) (r : Residuals) : Type 0 where
  pub top-across : x + r.top.width ≤ across
  pub top_up : 1 ≤ r.top.height → y + item.height + b + r.top.height ≤ up
  pub right-across : 1 ≤ r.right.width → x + item.width + b + r.right.width ≤ across
  pub right-up : y + r.right.height ≤ up

module _ (job : Job) (l : Listing) (m : Model job l) where
  -- a cut c on the type of a piece that lies inside a board of size z
  module _ (z : Size) (c : ℕ) (is : IsCut l c) (p : Piece) (on : (cut_at l c).plate ≡ p.plate) (i : InBoard z l p) where
    abbrev item : Position
    item = position_at job (cut_at l c).item

    -- the piece ends inside the board by the sides of the cut's plate type, within which the item is
    ends-across : p.x + (plate_of l c).width ≤ z.width
    ends-across = rw on i.across

    ends-up : p.y + (plate_of l c).height ≤ z.height
    ends-up = rw on i.up

    item-within : (item.width ≤ (plate_of l c).width) × (item.height ≤ (plate_of l c).height)
    item-within = let p = may-cut job.mode item (plate_of l c) (cut_fits job l m c is).allowed in (p.in-width, p.in-height)

    -- the item lies inside the board
    pub item-across : p.x + item.width ≤ z.width
    item-across = omega (arith, ends-across, item-within.0)

    pub item-up : p.y + item.height ≤ z.height
    item-up = omega (arith, ends-up, item-within.1)

    -- and so do its residuals
    residuals-end : Ends p.x p.y job.blade z.width z.height item (left_by job l (cut_at l c))
    residuals-end =
        let a = ends-across in
        let b = ends-up in
        let (u, v) = item-within in
        leaves_by job.mode job.blade item (plate_of l c) (Ends p.x p.y job.blade z.width z.height item)
        (λ _. record { top-across = omega arith; top_up = λ h. omega arith; right-across = λ h. omega arith; right-up = omega arith })
        (λ _ _. record { top-across = omega arith; top_up = λ h. omega arith; right-across = λ h. omega arith; right-up = omega arith })
        (λ _ _. record { top-across = omega arith; top_up = λ h. omega arith; right-across = λ h. omega arith; right-up = omega arith })
        (λ _ _. record { top-across = omega arith; top_up = λ h. omega arith; right-across = λ h. omega arith; right-up = omega arith })

    module _ (sided : Sided job) where
      pub top_in : 0 < (cut_at l c).top → InBoard z l (piece (cut_at l c).top p.x (p.y + item.height + job.blade))
      top_in h =
          let (k, j, e, _) = number-kept job l m (left_by job l (cut_at l c)).top (cut_at l c).top (top-number job l m c is) h in
          record { listed = j; across = rw e residuals-end.top-across; up = rw e (residuals-end.top_up (kept-sides job sided (left_by job l (cut_at l c)).top k).1) }

      pub right-in : 0 < (cut_at l c).right → InBoard z l (piece (cut_at l c).right (p.x + item.width + job.blade) p.y)
      right-in h =
          let (k, j, e, _) = number-kept job l m (left_by job l (cut_at l c)).right (cut_at l c).right (right-number job l m c is) h in
          record { listed = j; across = rw e (residuals-end.right-across (kept-sides job sided (left_by job l (cut_at l c)).right k).0); up = rw e residuals-end.right-up }

  -- a residual that waits leaves the others where they are
  wait_at-in : (z : Size) (s : ℕ) (p : Piece) (w : Waiting) → InBoard z l p → Within z l w → Within z l (wait_at s p w)
  unfolding wait_at
  wait_at-in z s p w i h = go (eqb s 1) refl (eqb s 2) refl
    where
      go : (a : Bool) → eqb s 1 ≡ a → (b : Bool) → eqb s 2 ≡ b → Within z l (wait_at s p w)
      go true e b f = rw (e, wait_at) (record { one = i; two = h.two; three = h.three })
      go false e true f = rw (e, wait_at, f, wait_at) (record { one = h.one; two = i; three = h.three })
      go false e false f = rw (e, wait_at, f, wait_at) (record { one = h.one; two = h.two; three = i })

  wait-in : (z : Size) (j x y : ℕ) (w : Waiting) → (0 < j → InBoard z l (piece j x y)) → Within z l w → Within z l (wait l j x y w)
  unfolding wait
  wait-in z zero x y w i h = h
  wait-in z (suc j) x y w i h = wait_at-in z (plate_at l (suc j)).stage (piece (suc j) x y) w (i (omega arith)) h

  -- the piece taken lies inside the board, and so do those that wait on
  abbrev TakenIn : Size → Option Taken → Type 0
  TakenIn z none = Unit {0}
  TakenIn z (some t) = InBoard z l t.piece × Within z l t.rest

  highest-in : (z : Size) (a b c : Option Piece) → InSlot z l a → InSlot z l b → InSlot z l c → TakenIn z (highest (record { first = a; second = b; third = c }))
  unfolding highest
  highest-in size a b (some p) x y z = (z, record { one = x; two = y; three = tt })
  highest-in size a (some p) none x y z = (y, record { one = x; two = tt; three = tt })
  highest-in size (some p) none none x y z = (x, record { one = tt; two = tt; three = tt })
  highest-in size none none none x y z = tt

  pub taken_in : (z : Size) (w : Waiting) (t : Taken) → highest w ≡ some t → Within z l w → InBoard z l t.piece × Within z l t.rest
  taken_in z w t e h = rw e at (highest-in z w.first w.second w.third h.one h.two h.three)

  -- the next turn is at most one step ahead
  pub next-to : (n s : ℕ) (t : Turn) → TurnTo n t → TurnTo (suc n) (next_turn s t)
  unfolding next_turn
  next-to n s t h = go (eqb s 1) refl (eqb s 2) refl
    where
      go : (a : Bool) → eqb s 1 ≡ a → (b : Bool) → eqb s 2 ≡ b → TurnTo (suc n) (next_turn s t)
      go true e b f = rw (e, next_turn) (record { board-to = omega arith; strip-to = omega arith; stack-to = omega arith; place-to = omega arith })
      go false e true f = rw (e, next_turn, f, next_turn) (record { board-to = omega arith; strip-to = omega arith; stack-to = omega arith; place-to = omega arith })
      go false e false f = rw (e, next_turn, f, next_turn) (record { board-to = omega arith; strip-to = omega arith; stack-to = omega arith; place-to = omega arith })

  -- it is on the same board
  next-board : (s : ℕ) (t : Turn) → (next_turn s t).board ≡ t.board
  unfolding next_turn
  next-board s t = go (eqb s 1) refl (eqb s 2) refl
    where
      go : (a : Bool) → eqb s 1 ≡ a → (b : Bool) → eqb s 2 ≡ b → (next_turn s t).board ≡ t.board
      go true e b f = rw (e, next_turn)
      go false e true f = rw (e, next_turn, f, next_turn)
      go false e false f = rw (e, next_turn, f, next_turn)

  -- a state that a step leads to, after at most n others
  pub record Kept (n : ℕ) (st' : State) : Type 0 where
    pub within : Within (size_at job st'.turn.board.size) l st'.waiting
    pub turns : TurnTo (suc n) st'.turn

  abbrev pub StepKeeps : ℕ → Step → Type 0
  StepKeeps n (placed p st') = Kept n st'
  StepKeeps n (left_over p st') = Kept n st'
  StepKeeps n idle = Unit {0}

  module _ (sided : Sided job) (n : ℕ) (st : State) (w : Within (size_at job st.turn.board.size) l st.waiting) (t : TurnTo n st.turn) where
    -- the size of the board
    abbrev size : Size
    size = size_at job st.turn.board.size

    done-keeps : (u : Taken) → highest st.waiting ≡ some u → (k : ℕ) → search u.piece.plate 1 l.cuts st.counts ≡ some k → StepKeeps n (done job l st u k)
    unfolding done
    done-keeps u e k f =
        let (i, r) = taken_in size st.waiting u e w in
        let (is, on) = found-cut l u.piece.plate st.counts k f in
        let c = cut_at l k in
        let item = position_at job c.item in
        let x = u.piece.x in
        let y = u.piece.y in
        record {
          within = rw (next-board u.stage st.turn) (wait-in size c.top x (y + item.height + job.blade) (wait l c.right (x + item.width + job.blade) y u.rest) (top_in size k is u.piece on i sided) (wait-in size c.right (x + item.width + job.blade) y u.rest (right-in size k is u.piece on i sided) r));
          turns = next-to n u.stage st.turn t;
        }

    -- each step keeps the pieces inside the board
    pub step_keeps : StepKeeps n (step job l st)
    step_keeps =
        step_by job l st (StepKeeps n) (λ _. tt)
        (λ u e f. record { within = (taken_in size st.waiting u e w).1; turns = record { board-to = omega arith; strip-to = omega arith; stack-to = omega arith; place-to = omega arith } })
        done-keeps

  -- the piece that a step leaves over lies inside the board
  abbrev OverIn : Size → Step → Type 0
  OverIn z (placed p st') = Unit {0}
  OverIn z (left_over p st') = InBoard z l p
  OverIn z idle = Unit {0}

  pub over-in : (z : Size) (st : State) (p : Piece) (st' : State) → Within z l st.waiting → step job l st ≡ left_over p st' → InBoard z l p
  unfolding done
  over-in z st p st' w e = rw e at (step_by job l st (OverIn z) (λ _. tt) (λ u f _. (taken_in z st.waiting u f w).0) (λ _ _ _ _. tt))
