-- Requests Two and Four: the item and the residuals of a cut lie in the piece that is cut, and at least b apart from each other.
use Prim.Native.Nat.{ℕ, zero, suc, ◌+◌, ◌≤◌, ◌<◌}
use native.Mathlib.Omega.{arith}
use mathlib.Core.Path.{◌≡◌, sym, ap}
use mathlib.Core.Logic.{◌⊎◌, inl, inr}
use mathlib.Core.Bool.{Bool, true, false, cond}
use mathlib.Core.List.{List, [], ◌∷◌, ◌++◌}
use lib.Dec.{eqb}
use Rattle.job.specs.declared.mode.Mode.{Mode}
use Rattle.job.specs.declared.item.Position.{Position}
use Rattle.job.specs.Job.{Job}
use Rattle.job.specs.Admitted.{Sided}
use Rattle.listing.specs.declared.plate.Plate.{Plate}
use Rattle.listing.specs.Plate.{may_cut, leaves}
use Rattle.listing.specs.Listing.{Listing, plate_at, cut_at}
use Rattle.listing.specs.Model.{Model, item_of, left_by}
use Rattle.listing.proofs.Plates.{may-cut}
use Rattle.listing.proofs.Kept.{kept-sides}
use Rattle.listing.proofs.Residuals.{leaves_by}
use Rattle.layouts.specs.Layout.{width_of, height_of}
use Rattle.layouts.specs.Placement.{Opened, turn}
use Rattle.layouts.specs.Unfold.{Piece}
use Rattle.layouts.specs.Rules.{Every}
use Rattle.layouts.specs.Offcuts.{Offcut, offcut}
use Rattle.layouts.specs.Parts.{item_part, InBoard, ApartBy, Clear, Pairs}
use Rattle.layouts.proofs.lists.Every.{every_map, every_append}
use Rattle.layouts.proofs.trees.Cuts.{IsCut, plate_of, cut_fits, top-number, right-number, number-kept}
use Rattle.layouts.proofs.machine.MachineSteps.{piece, slot, placement}
use Rattle.layouts.proofs.offcuts.Events.{maybe, top_at, right_at, kids}

-- two lists, each of which is pairwise so, and so each entry of the one with each of the other
module _ {A : Type 0} where
  pub pairs-append : (R : A → A → Type 0) (l m : List A) → Pairs R l → Pairs R m → Every (λ a. Every (R a) m) l → Pairs R (l ++ m)
  pairs-append R [] m p q c = q
  pairs-append R (a ∷ l) m p q c = (every_append (R a) l m p.0 c.0, pairs-append R l m p.1 q c.1)

-- a rectangle in another
pub record In (r s : Offcut) : Type 0 where
  pub left : s.x ≤ r.x
  pub low : s.y ≤ r.y
  pub right : r.x + r.width ≤ s.x + s.width
  pub up : r.y + r.height ≤ s.y + s.height

pub in-trans : {r s t : Offcut} → In r s → In s t → In r t
in-trans {r} {s} {t} p q =
    record {
      left = omega (arith, p.left, q.left);
      low = omega (arith, p.low, q.low);
      right = omega (arith, p.right, q.right);
      up = omega (arith, p.up, q.up);
    }

pub in-board : (job : Job) (r s : Offcut) → r.board.size ≡ s.board.size → In r s → InBoard job s → InBoard job r
in-board job r s e p q = record { across = rw e (omega (arith, p.right, q.across)); up = rw e (omega (arith, p.up, q.up)) }

-- parts of what is apart are apart
pub apart_in : (g : ℕ) (r r' s s' : Offcut) → In r r' → In s s' → ApartBy g r' s' → ApartBy g r s
apart_in g r r' s s' p q (inl h) = inl (omega (arith, p.right, q.left))
apart_in g r r' s s' p q (inr (inl h)) = inr (inl (omega (arith, q.right, p.left)))
apart_in g r r' s s' p q (inr (inr (inl h))) = inr (inr (inl (omega (arith, p.up, q.low))))
apart_in g r r' s s' p q (inr (inr (inr h))) = inr (inr (inr (omega (arith, q.up, p.low))))

apart-sym : (g : ℕ) (r s : Offcut) → ApartBy g r s → ApartBy g s r
apart-sym g r s (inl h) = inr (inl h)
apart-sym g r s (inr (inl h)) = inl h
apart-sym g r s (inr (inr (inl h))) = inr (inr (inr h))
apart-sym g r s (inr (inr (inr h))) = inr (inr (inl h))

pub clear-sym : (job : Job) (r s : Offcut) → Clear job r s → Clear job s r
clear-sym job r s (inl h) = inl (λ e. h (sym e))
clear-sym job r s (inr h) = inr (apart-sym job.blade r s h)

-- where the residuals of a cut lie, with a blade of width g: one whose divided side is 0 is none, for b or less remains there
record Lies (g : ℕ) (item : Position) (p t r : Plate) : Type 0 where
  top-across : t.width ≤ p.width
  top_up : 1 ≤ t.height → item.height + g + t.height ≤ p.height
  right-across : 1 ≤ r.width → item.width + g + r.width ≤ p.width
  right-up : r.height ≤ p.height
  beside : (r.height ≤ item.height) ⊎ (t.width ≤ item.width)

lies : (m : Mode) (g : ℕ) (item : Position) (p : Plate) → may_cut m item p ≡ true → Lies g item p (leaves m g item p).top (leaves m g item p).right
lies m g item p h =
    let f = may-cut m item p h in
    let a : item.width ≤ p.width = f.in-width in
    let b : item.height ≤ p.height = f.in-height in
    leaves_by m g item p (λ r. Lies g item p r.top r.right)
    (λ _. record { top-across = omega arith; top_up = λ u. omega arith; right-across = λ u. omega arith; right-up = omega arith; beside = inl (omega arith) })
    (λ _ _. record { top-across = omega arith; top_up = λ u. omega arith; right-across = λ u. omega arith; right-up = omega arith; beside = inr (omega arith) })
    (λ _ _. record { top-across = omega arith; top_up = λ u. omega arith; right-across = λ u. omega arith; right-up = omega arith; beside = inl (omega arith) })
    (λ _ _. record { top-across = omega arith; top_up = λ u. omega arith; right-across = λ u. omega arith; right-up = omega arith; beside = inr (omega arith) })

slot-every : (P : Piece → Type 0) (r x y : ℕ) → (0 < r → P (piece r x y)) → Every P (maybe (slot r x y))
slot-every P zero x y h = tt
slot-every P (suc r) x y h = (h (omega arith), tt)

slot-pairs : (R : Piece → Piece → Type 0) (r x y : ℕ) → Pairs R (maybe (slot r x y))
slot-pairs R zero x y = tt
slot-pairs R (suc r) x y = (tt, tt)

-- two pieces of board b that are apart
abbrev pub Off : Job → Listing → Opened → Piece → Piece → Type 0
Off job l b p q = ApartBy job.blade (offcut l b p) (offcut l b q)

module _ (job : Job) (l : Listing) (m : Model job l) (sided : Sided job) where
  module _ (b : Opened) (j x y c : ℕ) (i : IsCut l c) (on : (cut_at l c).plate ≡ j) where
    abbrev whole : Offcut
    whole = offcut l b (piece j x y)

    abbrev part : ℕ → ℕ → ℕ → Offcut
    part s k p = item_part job (placement (turn b s k p) (cut_at l c).item x y)

    lie : Lies job.blade (item_of job (cut_at l c)) (plate_of l c) (left_by job l (cut_at l c)).top (left_by job l (cut_at l c)).right
    lie = lies job.mode job.blade (item_of job (cut_at l c)) (plate_of l c) (cut_fits job l m c i).allowed

    across : (plate_of l c).width ≡ (plate_at l j).width
    across = ap (λ (z : ℕ). (plate_at l z).width) on

    upwards : (plate_of l c).height ≡ (plate_at l j).height
    upwards = ap (λ (z : ℕ). (plate_at l z).height) on

    -- a residual that has a number is the plate type of that number, and its sides are at least 1
    top-is : 0 < (cut_at l c).top → plate_at l (cut_at l c).top ≡ (left_by job l (cut_at l c)).top
    top-is h = (number-kept job l m (left_by job l (cut_at l c)).top (cut_at l c).top (top-number job l m c i) h).2

    top-high : 0 < (cut_at l c).top → 1 ≤ (left_by job l (cut_at l c)).top.height
    top-high h = (kept-sides job sided _ (number-kept job l m (left_by job l (cut_at l c)).top (cut_at l c).top (top-number job l m c i) h).0).1

    right_is : 0 < (cut_at l c).right → plate_at l (cut_at l c).right ≡ (left_by job l (cut_at l c)).right
    right_is h = (number-kept job l m (left_by job l (cut_at l c)).right (cut_at l c).right (right-number job l m c i) h).2

    right-wide : 0 < (cut_at l c).right → 1 ≤ (left_by job l (cut_at l c)).right.width
    right-wide h = (kept-sides job sided _ (number-kept job l m (left_by job l (cut_at l c)).right (cut_at l c).right (right-number job l m c i) h).0).0

    -- the item, the top and the right lie in the piece
    pub item_in : (s k p : ℕ) → In (part s k p) whole
    unfolding offcut item_part width_of height_of
    item_in s k p =
        let f = may-cut job.mode (item_of job (cut_at l c)) (plate_of l c) (cut_fits job l m c i).allowed in
        record { left = omega arith; low = omega arith; right = omega (arith, f.in-width, across); up = omega (arith, f.in-height, upwards) }

    top_in : Every (λ q. In (offcut l b q) whole) (top_at job l c x y)
    unfolding offcut height_of
    top_in =
        slot-every (λ q. In (offcut l b q) whole) (cut_at l c).top x (y + height_of job (cut_at l c).item + job.blade)
        (λ h. record {
          left = omega arith;
          low = omega arith;
          right = omega (arith, lie.top-across, across, ap (λ (q : Plate). q.width) (top-is h));
          up = omega (arith, lie.top_up (top-high h), upwards, ap (λ (q : Plate). q.height) (top-is h));
        })

    right-in : Every (λ q. In (offcut l b q) whole) (right_at job l c x y)
    unfolding offcut width_of
    right-in =
        slot-every (λ q. In (offcut l b q) whole) (cut_at l c).right (x + width_of job (cut_at l c).item + job.blade) y
        (λ h. record {
          left = omega arith;
          low = omega arith;
          right = omega (arith, lie.right-across (right-wide h), across, ap (λ (q : Plate). q.width) (right_is h));
          up = omega (arith, lie.right-up, upwards, ap (λ (q : Plate). q.height) (right_is h));
        })

    -- the item is at least b apart from both, and they from each other
    top-off : (s k p : ℕ) → Every (λ q. ApartBy job.blade (part s k p) (offcut l b q)) (top_at job l c x y)
    unfolding offcut item_part height_of
    top-off s k p =
        slot-every (λ q. ApartBy job.blade (part s k p) (offcut l b q)) (cut_at l c).top x (y + height_of job (cut_at l c).item + job.blade)
        (λ h. inr (inr (inl (omega arith))))

    right-off : (s k p : ℕ) → Every (λ q. ApartBy job.blade (part s k p) (offcut l b q)) (right_at job l c x y)
    unfolding offcut item_part width_of
    right-off s k p =
        slot-every (λ q. ApartBy job.blade (part s k p) (offcut l b q)) (cut_at l c).right (x + width_of job (cut_at l c).item + job.blade) y
        (λ h. inl (omega arith))

    beside : Every (λ p. Every (λ q. Off job l b p q) (right_at job l c x y)) (top_at job l c x y)
    unfolding offcut width_of height_of
    beside =
        slot-every (λ p. Every (λ q. Off job l b p q) (right_at job l c x y)) (cut_at l c).top x (y + height_of job (cut_at l c).item + job.blade)
        (λ t.
        slot-every (λ q. Off job l b (piece (cut_at l c).top x (y + height_of job (cut_at l c).item + job.blade)) q) (cut_at l c).right (x + width_of job (cut_at l c).item + job.blade) y
        (λ r. go t r lie.beside))
      where
        go : 0 < (cut_at l c).top → 0 < (cut_at l c).right → ((left_by job l (cut_at l c)).right.height ≤ (item_of job (cut_at l c)).height) ⊎ ((left_by job l (cut_at l c)).top.width ≤ (item_of job (cut_at l c)).width)
            → Off job l b (piece (cut_at l c).top x (y + height_of job (cut_at l c).item + job.blade)) (piece (cut_at l c).right (x + width_of job (cut_at l c).item + job.blade) y)
        go t r (inl h) = inr (inr (inr (omega (arith, ap (λ (q : Plate). q.height) (right_is r)))))
        go t r (inr h) = inl (omega (arith, ap (λ (q : Plate). q.width) (top-is t)))

    beside' : Every (λ p. Every (λ q. Off job l b p q) (top_at job l c x y)) (right_at job l c x y)
    beside' = turned (top_at job l c x y) (right_at job l c x y) beside
      where
        column : (q : Piece) (ps : List Piece) (qs : List Piece) → Every (λ p. Every (λ q. Off job l b p q) (q ∷ qs)) ps → Every (λ p. Off job l b q p) ps
        column q ps qs h = every_map (λ p (z : Every (λ q. Off job l b p q) (q ∷ qs)). apart-sym job.blade (offcut l b p) (offcut l b q) z.0) ps h

        turned : (ps qs : List Piece) → Every (λ p. Every (λ q. Off job l b p q) qs) ps → Every (λ q. Every (λ p. Off job l b q p) ps) qs
        turned ps [] h = tt
        turned ps (q ∷ qs) h = (column q ps qs h, turned ps qs (every_map (λ p (z : Every (λ q. Off job l b p q) (q ∷ qs)). z.1) ps h))

    -- so it is with the pieces that wait after the cut
    pub kids-in : Every (λ q. In (offcut l b q) whole) (kids job l c x y)
    kids-in = go (eqb (plate_of l c).stage 1)
      where
        go : (t : Bool) → Every (λ q. In (offcut l b q) whole) (cond t (right_at job l c x y ++ top_at job l c x y) (top_at job l c x y ++ right_at job l c x y))
        go true = every_append _ (right_at job l c x y) (top_at job l c x y) right-in top_in
        go false = every_append _ (top_at job l c x y) (right_at job l c x y) top_in right-in

    pub kids-off : (s k p : ℕ) → Every (λ q. ApartBy job.blade (part s k p) (offcut l b q)) (kids job l c x y)
    kids-off s k p = go (eqb (plate_of l c).stage 1)
      where
        go : (t : Bool) → Every (λ q. ApartBy job.blade (part s k p) (offcut l b q)) (cond t (right_at job l c x y ++ top_at job l c x y) (top_at job l c x y ++ right_at job l c x y))
        go true = every_append _ (right_at job l c x y) (top_at job l c x y) (right-off s k p) (top-off s k p)
        go false = every_append _ (top_at job l c x y) (right_at job l c x y) (top-off s k p) (right-off s k p)

    pub kids-apart : Pairs (Off job l b) (kids job l c x y)
    kids-apart = go (eqb (plate_of l c).stage 1)
      where
        top : Pairs (Off job l b) (top_at job l c x y)
        top = slot-pairs (Off job l b) (cut_at l c).top x (y + height_of job (cut_at l c).item + job.blade)

        right : Pairs (Off job l b) (right_at job l c x y)
        right = slot-pairs (Off job l b) (cut_at l c).right (x + width_of job (cut_at l c).item + job.blade) y

        go : (t : Bool) → Pairs (Off job l b) (cond t (right_at job l c x y ++ top_at job l c x y) (top_at job l c x y ++ right_at job l c x y))
        go true = pairs-append (Off job l b) (right_at job l c x y) (top_at job l c x y) right top beside'
        go false = pairs-append (Off job l b) (top_at job l c x y) (right_at job l c x y) top right beside
