-- Requests Two and Four: the offcuts of any run lie inside their boards, and at least b apart from each other and from the items. Each part of a board, item or
-- offcut, lies in the piece that it came from, and the pieces that wait are apart.
use Prim.Native.Nat.{ℕ, suc, ◌<◌}
use native.Mathlib.Omega.{arith}
use mathlib.Core.Path.{◌≡◌, refl, ap}
use mathlib.Core.Logic.{◌⊎◌, inl, inr}
use mathlib.Core.List.{List, [], ◌∷◌, ◌++◌}
use Rattle.job.specs.Job.{Job}
use Rattle.job.specs.Admitted.{Sided}
use Rattle.listing.specs.declared.plate.Plate.{Plate}
use Rattle.listing.specs.Listing.{Listing, cut_at}
use Rattle.listing.specs.Model.{Model}
use Rattle.layouts.specs.Placement.{Opened, opened, turn}
use Rattle.layouts.specs.Unfold.{Piece, steps_for, start_of, unfolded}
use Rattle.layouts.specs.Rules.{Every, Some}
use Rattle.layouts.specs.Offcuts.{Event, did, over, events_of, placed_in, Offcut, offcut, offcuts_in}
use Rattle.layouts.specs.Balance.{size_on}
use Rattle.layouts.specs.Parts.{item_part, InBoard, ApartBy, Clear, Pairs, OffcutsLie}
use Rattle.layouts.proofs.lists.Every.{every_map, every_append, every-both}
use Rattle.layouts.proofs.trees.Cuts.{IsCut}
use Rattle.layouts.proofs.machine.MachineSteps.{piece, placement}
use Rattle.layouts.proofs.machine.Search.{found-cut}
use Rattle.layouts.proofs.offcuts.Events.{Runs, stays, leaves, cuts, opens, kids, same-items, run-follows}
use Rattle.layouts.proofs.offcuts.Sized.{offcuts-sized}
use Rattle.layouts.proofs.offcuts.Parts.{pairs-append, In, in-trans, in-board, apart_in, clear-sym, Off, item_in, kids-in, kids-off, kids-apart}

-- the parts of boards, items placed and pieces left over, in order
unfoldable parts_in : Job → Listing → List Event → List Offcut
parts_in job l [] = []
parts_in job l (did k p ∷ es) = item_part job p ∷ parts_in job l es
parts_in job l (over b p ∷ es) = offcut l b p ∷ parts_in job l es

-- an entry of two lists is one of the first or of the second
module _ {A : Type 0} where
  some-append : (P : A → Type 0) (l m : List A) → Some P (l ++ m) → Some P l ⊎ Some P m
  some-append P [] m h = inr h
  some-append P (a ∷ l) m (inl h) = inl (inl h)
  some-append P (a ∷ l) m (inr h) = go (some-append P l m h)
    where
      go : Some P l ⊎ Some P m → Some P (a ∷ l) ⊎ Some P m
      go (inl s) = inl (inr s)
      go (inr s) = inr s

module _ (job : Job) (l : Listing) where
  -- a part is on a later board, or on this one and in a piece that waits
  abbrev Within : Opened → List Piece → Offcut → Type 0
  Within b ps r = (b.number < r.board.number) ⊎ ((r.board ≡ b) × Some (λ p. In r (offcut l b p)) ps)

  -- a part of a piece is clear of the parts of those that it is apart from
  off-within : (b : Opened) (o r s : Offcut) (ps : List Piece) → In r o → r.board ≡ b → Every (λ p. ApartBy job.blade o (offcut l b p)) ps → Within b ps s → Clear job r s
  off-within b o r s ps i e h (inl q) = inl (λ (f : r.board.number ≡ s.board.number). omega (arith, ap (λ (z : Opened). z.number) e))
  off-within b o r s ps i e h (inr (_, q)) = inr (go ps h q)
    where
      go : (ps : List Piece) → Every (λ p. ApartBy job.blade o (offcut l b p)) ps → Some (λ p. In s (offcut l b p)) ps → ApartBy job.blade r s
      go [] h q = absurd q
      go (p ∷ ps) h (inl q) = apart_in job.blade r o s (offcut l b p) i q h.0
      go (p ∷ ps) h (inr q) = go ps h.1 q

  -- what a run makes of the pieces that wait
  record Lie (b : Opened) (ps : List Piece) (es : List Event) : Type 0 where
    inside : Every (InBoard job) (parts_in job l es)
    within : Every (Within b ps) (parts_in job l es)
    clear : Pairs (Clear job) (parts_in job l es)

module _ (job : Job) (l : Listing) (m : Model job l) (sided : Sided job) where
  -- Where the pieces that wait lie inside the board and are apart, so are the parts that are made of them, and those of later boards.
  parts-lie : {ps qs : List Piece} {b b' : Opened} {ns ns' : List ℕ} {es : List Event} → Runs job l ps b ns es b' ns' qs
      → Every (λ p. InBoard job (offcut l b p)) ps → Pairs (Off job l b) ps → Lie job l b ps es
  unfolding parts_in offcut item_part
  parts-lie stays h a = record { inside = tt; within = tt; clear = tt }
  parts-lie (leaves {j = j} {x = x} {y = y} {b = b} {ps = ps} {es = es} e r) h a = go (parts-lie r h.1 a.1)
    where
      o : Offcut
      o = offcut l b (piece j x y)

      self : In o o
      self = record { left = omega arith; low = omega arith; right = omega arith; up = omega arith }

      more : (s : Offcut) → Within job l b ps s → Within job l b (piece j x y ∷ ps) s
      more s (inl q) = inl q
      more s (inr (f, q)) = inr (f, inr q)

      go : Lie job l b ps es → Lie job l b (piece j x y ∷ ps) (over b (piece j x y) ∷ es)
      go rec =
          record {
            inside = (h.0, rec.inside);
            within = (inr (refl, inl self), every_map more (parts_in job l es) rec.within);
            clear = (every_map (λ s (w : Within job l b ps s). off-within job l b o o s ps self refl a.0 w) (parts_in job l es) rec.within, rec.clear);
          }
  parts-lie (cuts {j = j} {x = x} {y = y} {c = c} {s = s} {k = k} {p = p} {b = b} {ps = ps} {ns = ns} {es = es} e r) h a = go (parts-lie r inside pairs)
    where
      i : IsCut l c
      i = (found-cut l j ns c e).0

      on : (cut_at l c).plate ≡ j
      on = (found-cut l j ns c e).1

      o : Offcut
      o = offcut l b (piece j x y)

      it : Offcut
      it = item_part job (placement (turn b s k p) (cut_at l c).item x y)

      in-o : In it o
      in-o = item_in job l m sided b j x y c i on s k p

      self : (t : Offcut) → In t t
      self t = record { left = omega arith; low = omega arith; right = omega arith; up = omega arith }

      into : Every (λ q. In (offcut l b q) o) (kids job l c x y)
      into = kids-in job l m sided b j x y c i on

      inside : Every (λ q. InBoard job (offcut l b q)) (kids job l c x y ++ ps)
      inside =
          every_append (λ q. InBoard job (offcut l b q)) (kids job l c x y) ps
          (every_map (λ q (z : In (offcut l b q) o). in-board job (offcut l b q) o refl z h.0) (kids job l c x y) into) h.1

      -- what is apart from the piece is apart from what lies in it
      off : (t : Offcut) → In t o → Every (λ q. ApartBy job.blade t (offcut l b q)) ps
      off t z = every_map (λ q (w : Off job l b (piece j x y) q). apart_in job.blade t o (offcut l b q) (offcut l b q) z (self (offcut l b q)) w) ps a.0

      pairs : Pairs (Off job l b) (kids job l c x y ++ ps)
      pairs =
          pairs-append (Off job l b) (kids job l c x y) ps (kids-apart job l m sided b j x y c i on) a.1
          (every_map (λ q (z : In (offcut l b q) o). off (offcut l b q) z) (kids job l c x y) into)

      some_in : (t : Offcut) (qs : List Piece) → Every (λ q. In (offcut l b q) o) qs → Some (λ q. In t (offcut l b q)) qs → In t o
      some_in t [] z w = absurd w
      some_in t (q ∷ qs) z (inl w) = in-trans w z.0
      some_in t (q ∷ qs) z (inr w) = some_in t qs z.1 w

      more : (t : Offcut) → Within job l b (kids job l c x y ++ ps) t → Within job l b (piece j x y ∷ ps) t
      more t (inl q) = inl q
      more t (inr (f, q)) = inr (f, cases (some-append (λ q. In t (offcut l b q)) (kids job l c x y) ps q))
        where
          cases : Some (λ q. In t (offcut l b q)) (kids job l c x y) ⊎ Some (λ q. In t (offcut l b q)) ps → Some (λ q. In t (offcut l b q)) (piece j x y ∷ ps)
          cases (inl w) = inl (some_in t (kids job l c x y) into w)
          cases (inr w) = inr w

      off-all : Every (λ q. ApartBy job.blade it (offcut l b q)) (kids job l c x y ++ ps)
      off-all = every_append (λ q. ApartBy job.blade it (offcut l b q)) (kids job l c x y) ps (kids-off job l m sided b j x y c i on s k p) (off it in-o)

      go : Lie job l b (kids job l c x y ++ ps) es → Lie job l b (piece j x y ∷ ps) (did c (placement (turn b s k p) (cut_at l c).item x y) ∷ es)
      go rec =
          record {
            inside = (in-board job it o refl in-o h.0, rec.inside);
            within = (inr (refl, inl in-o), every_map more (parts_in job l es) rec.within);
            clear = (every_map (λ t (w : Within job l b (kids job l c x y ++ ps) t). off-within job l b it it t (kids job l c x y ++ ps) (self it) refl off-all w) (parts_in job l es) rec.within, rec.clear);
          }
  parts-lie (opens {j = j} {b = b} {es = es} z e r) h a = go (parts-lie r (board-inside, tt) (tt, tt))
    where
      next : Opened
      next = opened (suc b.number) j

      board-inside : InBoard job (offcut l next (piece j 0 0))
      board-inside =
          record {
            across = omega (arith, ap (λ (q : Plate). q.width) (m.first j z));
            up = omega (arith, ap (λ (q : Plate). q.height) (m.first j z));
          }

      later : (t : Offcut) → Within job l next (piece j 0 0 ∷ []) t → Within job l b [] t
      later t (inl q) = inl (omega arith)
      later t (inr (f, q)) = inl (omega (arith, ap (λ (z : Opened). z.number) f))

      go : Lie job l next (piece j 0 0 ∷ []) es → Lie job l b [] es
      go rec = record { inside = rec.inside; within = every_map later (parts_in job l es) rec.within; clear = rec.clear }

-- offcuts and items among the parts
module _ (job : Job) (l : Listing) where
  over-every : (P : Offcut → Type 0) (es : List Event) → Every P (parts_in job l es) → Every P (offcuts_in l es)
  unfolding parts_in offcuts_in
  over-every P [] h = tt
  over-every P (did k p ∷ es) h = over-every P es h.1
  over-every P (over b p ∷ es) h = (h.0, over-every P es h.1)

  item-every : (P : Offcut → Type 0) (es : List Event) → Every P (parts_in job l es) → Every (λ p. P (item_part job p)) (placed_in es)
  unfolding parts_in placed_in
  item-every P [] h = tt
  item-every P (did k p ∷ es) h = (h.0, item-every P es h.1)
  item-every P (over b p ∷ es) h = item-every P es h.1

  over-pairs : (R : Offcut → Offcut → Type 0) (es : List Event) → Pairs R (parts_in job l es) → Pairs R (offcuts_in l es)
  unfolding parts_in offcuts_in
  over-pairs R [] h = tt
  over-pairs R (did k p ∷ es) h = over-pairs R es h.1
  over-pairs R (over b p ∷ es) h = (over-every (R (offcut l b p)) es h.0, over-pairs R es h.1)

  over-items : (es : List Event) → Pairs (Clear job) (parts_in job l es) → Every (λ o. Every (λ p. Clear job o (item_part job p)) (placed_in es)) (offcuts_in l es)
  unfolding parts_in offcuts_in placed_in
  over-items [] h = tt
  over-items (did k p ∷ es) h =
      every_map (λ o (z : Clear job (item_part job p) o × Every (λ q. Clear job o (item_part job q)) (placed_in es)). (clear-sym job (item_part job p) o z.0, z.1)) (offcuts_in l es)
      (every-both (λ o. Clear job (item_part job p) o) (λ o. Every (λ q. Clear job o (item_part job q)) (placed_in es)) (offcuts_in l es) (over-every (Clear job (item_part job p)) es h.0) (over-items es h.1))
  over-items (over b p ∷ es) h = (item-every (Clear job (offcut l b p)) es h.0, over-items es h.1)

module _ (job : Job) (l : Listing) (m : Model job l) (sided : Sided job) (ns : List ℕ) where
  all-parts : Lie job l (opened 0 0) [] (events_of job l ns)
  unfolding events_of
  all-parts = parts-lie job l m sided (run-follows job l m sided (steps_for ns) ns) tt tt

  same : placed_in (events_of job l ns) ≡ (unfolded job l ns).placements
  unfolding events_of unfolded
  same = same-items (steps_for ns) job l (start_of ns)

  sizes : Every (λ o. o.board.size ≡ size_on o.board.number (placed_in (events_of job l ns))) (offcuts_in l (events_of job l ns))
  unfolding events_of
  sizes = offcuts-sized job l (run-follows job l m sided (steps_for ns) ns)

  -- the offcuts of any counts: inside their boards, at least b apart from each other and from the items
  pub offcuts-lie : OffcutsLie job (unfolded job l ns).placements (offcuts_in l (events_of job l ns))
  offcuts-lie =
      record {
        sized = rw same at sizes;
        inside = over-every job l (InBoard job) (events_of job l ns) all-parts.inside;
        apart = over-pairs job l (Clear job) (events_of job l ns) all-parts.clear;
        off-items = rw same at (over-items job l (events_of job l ns) all-parts.clear);
      }
