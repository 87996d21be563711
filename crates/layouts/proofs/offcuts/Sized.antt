-- Request Six: the sizes of the boards that a run opens. Each board is cut as soon as it is opened, so that its placements name its size, and no board is
-- left over.
use Prim.Native.Nat.{ℕ, zero, suc, ◌+◌, ◌≤◌, ◌<◌}
use native.Mathlib.Omega.{arith}
use mathlib.Core.Path.{◌≡◌, refl, sym, ◌∙◌, ap}
use mathlib.Core.Logic.{◌⊎◌, inl, inr}
use mathlib.Core.Bool.{Bool, true, false, cond, ◌&&◌}
use mathlib.Core.List.{List, [], ◌∷◌, ◌++◌}
use mathlib.Core.Option.{Option, none, some}
use lib.Dec.{ltb, eqb}
use lib.ListN.{length, get_or}
use borrow.Author.Tests.{ltb-false, eq-eqb, ne_eqb}
use Rattle.job.specs.Lists.{sum_of, occurs}
use Rattle.job.specs.Job.{Job}
use Rattle.job.proofs.Sums.{bit-diff, occurs-cons}
use Rattle.listing.specs.Listing.{Cut, Listing, cut_at}
use Rattle.listing.specs.Model.{Model, Numbered, left_by}
use Rattle.listing.specs.declared.plate.Plate.{Plate}
use Rattle.listing.proofs.ModelLaws.{residual-number}
use Rattle.plan.specs.Plan.{count_of, on_plate, boards_of}
use Rattle.layouts.specs.Placement.{Opened, opened, turn, Placement}
use Rattle.layouts.specs.Unfold.{Piece, search}
use Rattle.layouts.specs.Rules.{Every, Filled}
use Rattle.layouts.specs.Offcuts.{Event, placed_in, types_over, Offcut, offcut, offcuts_in}
use Rattle.layouts.specs.Balance.{size_on}
use Rattle.layouts.proofs.lists.Every.{every_map, every_append}
use Rattle.layouts.proofs.trees.Cuts.{IsCut, plate_of, top-number, right-number}
use Rattle.layouts.proofs.machine.Search.{none-no-some, found-cut}
use Rattle.layouts.proofs.machine.Greedy.{pick}
use Rattle.layouts.proofs.machine.MachineSteps.{piece, slot, placement}
use Rattle.layouts.proofs.offcuts.Events.{Runs, stays, leaves, cuts, opens, maybe, top_at, right_at, kids}
use Rattle.layouts.proofs.offcuts.Flow.{opened_in}

-- where the search finds no cut on a plate type, the counts on it come to 0
none-counted : (j k : ℕ) (cs : List Cut) (ns : List ℕ) → search j k cs ns ≡ none → count_of (on_plate j) cs ns ≡ 0
unfolding search count_of
none-counted j k [] ns e = refl
none-counted j k (c ∷ cs) [] e = refl
none-counted j k (c ∷ cs) (n ∷ ns) e = go (on_plate j c) (ltb 0 n) refl e (none-counted j (suc k) cs ns)
  where
    go : (a b : Bool) → ltb 0 n ≡ b → ◌≡◌ {A = Option ℕ} (elim (a && b) as (λ _. Option ℕ) [ true ↦ some k | false ↦ search j (suc k) cs ns ]) none
        → (search j (suc k) cs ns ≡ none → count_of (on_plate j) cs ns ≡ 0) → cond a n 0 + count_of (on_plate j) cs ns ≡ 0
    go true true p e rec = absurd (none-no-some (sym e))
    go true false p e rec = omega (arith, ltb-false 0 n p, rec e)
    go false b p e rec = omega (arith, rec e)

-- a board of which counts are left is cut
pub cut-next : (l : Listing) (j : ℕ) (ns : List ℕ) → 0 < boards_of l j ns → pick l j ns ≡ none → ⊥
unfolding boards_of
cut-next l j ns h e = omega (arith, none-counted j 1 l.cuts ns e)

-- the placement that a board's number finds
size-here : (n : ℕ) (p : Placement) (ps : List Placement) → p.turn.board.number ≡ n → size_on n (p ∷ ps) ≡ p.turn.board.size
unfolding size_on
size-here n p ps e = rw (eq-eqb p.turn.board.number n e, size_on)

size-past : (n : ℕ) (p : Placement) (ps : List Placement) → (p.turn.board.number ≡ n → ⊥) → size_on n (p ∷ ps) ≡ size_on n ps
unfolding size_on
size-past n p ps d = rw (ne_eqb p.turn.board.number n d, size_on)

module _ (job : Job) (l : Listing) where
  -- the boards opened are of sizes of the job
  pub opened-sized : {ps qs : List Piece} {b b' : Opened} {ns ns' : List ℕ} {es : List Event} (r : Runs job l ps b ns es b' ns' qs) → Every (λ z. z < length job.sizes) (opened_in job l r)
  opened-sized stays = tt
  opened-sized (leaves e r) = opened-sized r
  opened-sized (cuts e r) = opened-sized r
  opened-sized (opens z e r) = (z, opened-sized r)

  -- in a run that ends with nothing waiting, the placements on board n name the size with which it was opened
  pub size-met :
      {ps : List Piece} {b b' : Opened} {ns ns' : List ℕ} {es : List Event}
      (r : Runs job l ps b ns es b' ns' [])
      (k n : ℕ)
      → n ≡ suc (b.number + k)
      → k < length (opened_in job l r)
      → size_on n (placed_in es) ≡ get_or (opened_in job l r) k 0
  unfolding placed_in
  size-met stays k n e h = absurd (omega arith)
  size-met (leaves q r) k n e h = size-met r k n e h
  size-met (cuts {b = b} q r) k n e h = size-past n _ _ (λ (f : b.number ≡ n). omega arith) ∙ size-met r k n e h
  size-met (opens {j = j} {ns = ns} z p (leaves q r)) k n e h = absurd (cut-next l j ns p q)
  size-met (opens {b = b} z p (cuts q r)) zero n e h = size-here n _ _ (omega arith)
  size-met (opens {b = b} z p (cuts q r)) (suc k) n e h = size-past n _ _ (λ (f : suc b.number ≡ n). omega arith) ∙ size-met r k n (omega arith) (omega arith)

  -- an offcut of a later board, whose size the placements name
  abbrev Later : Opened → List Placement → Offcut → Type 0
  Later b ps o = (b.number < o.board.number) × (o.board.size ≡ size_on o.board.number ps)

  -- an offcut of the board at hand, where pieces wait on it, or of a later one
  abbrev Known : Opened → List Piece → List Placement → Offcut → Type 0
  Known b ws ps o = ((o.board ≡ b) × Filled ws) ⊎ Later b ps o

  -- past a placement on the board at hand
  later-past : (b : Opened) (p : Placement) (ps : List Placement) → p.turn.board ≡ b → (o : Offcut) → Later b ps o → Later b (p ∷ ps) o
  later-past b p ps e o (h, s) =
      (h, s ∙ sym (size-past o.board.number p ps (λ (f : p.turn.board.number ≡ o.board.number). omega (arith, ap (λ (z : Opened). z.number) e))))

  pub over-known : {ps qs : List Piece} {b b' : Opened} {ns ns' : List ℕ} {es : List Event} → Runs job l ps b ns es b' ns' qs → Every (Known b ps (placed_in es)) (offcuts_in l es)
  unfolding placed_in offcuts_in offcut
  over-known stays = tt
  over-known (leaves {j = j} {x = x} {y = y} {b = b} {ps = ps} {es = es} e r) = (inl (refl, tt), every_map more (offcuts_in l es) (over-known r))
    where
      more : (o : Offcut) → Known b ps (placed_in es) o → Known b (piece j x y ∷ ps) (placed_in es) o
      more o (inl (f, g)) = inl (f, tt)
      more o (inr f) = inr f
  over-known (cuts {j = j} {x = x} {y = y} {c = c} {s = s} {k = k} {p = p} {b = b} {ps = ps} {es = es} e r) = every_map more (offcuts_in l es) (over-known r)
    where
      it : Placement
      it = placement (turn b s k p) (cut_at l c).item x y

      more : (o : Offcut) → Known b (kids job l c x y ++ ps) (placed_in es) o → Known b (piece j x y ∷ ps) (it ∷ placed_in es) o
      more o (inl (f, g)) = inl (f, tt)
      more o (inr f) = inr (later-past b it (placed_in es) refl o f)
  over-known (opens z p stays) = tt
  over-known (opens {j = j} {ns = ns} z p (leaves q r)) = absurd (cut-next l j ns p q)
  over-known (opens {j = j} {b = b} z e (cuts {c = c} {s = s} {k = k} {p = p} {es = es} q r)) = every_map more (offcuts_in l es) (over-known r)
    where
      it : Placement
      it = placement (turn (opened (suc b.number) j) s k p) (cut_at l c).item 0 0

      more : (o : Offcut) → Known (opened (suc b.number) j) (kids job l c 0 0 ++ []) (placed_in es) o → Known b [] (it ∷ placed_in es) o
      more o (inl (f, g)) =
          let n : o.board.number ≡ suc b.number = ap (λ (z : Opened). z.number) f in
          inr (omega arith, ap (λ (z : Opened). z.size) f ∙ sym (size-here o.board.number it (placed_in es) (sym n)))
      more o (inr (h, s)) = let (g, t) = later-past (opened (suc b.number) j) it (placed_in es) refl o (h, s) in inr (omega arith, t)

  -- of a run from its beginning: the size of an offcut's board is the one that the placements on it name
  pub offcuts-sized : {qs : List Piece} {b b' : Opened} {ns ns' : List ℕ} {es : List Event} → Runs job l [] b ns es b' ns' qs
      → Every (λ o. o.board.size ≡ size_on o.board.number (placed_in es)) (offcuts_in l es)
  offcuts-sized {b = b} {es = es} r = every_map only (offcuts_in l es) (over-known r)
    where
      only : (o : Offcut) → Known b [] (placed_in es) o → o.board.size ≡ size_on o.board.number (placed_in es)
      only o (inl (f, g)) = absurd g
      only o (inr (h, s)) = s

module _ (job : Job) (l : Listing) (m : Model job l) where
  -- what waits of a cut is of residual types
  slot-above : (q : Plate) (r x y : ℕ) → Numbered job l q r → Every (λ p. l.sizes ≤ p.plate) (maybe (slot r x y))
  slot-above q zero x y h = tt
  slot-above q (suc r) x y h = (residual-number job l m q (suc r) h (omega arith), tt)

  kids-above : (c x y : ℕ) → IsCut l c → (ps : List Piece) → Every (λ p. l.sizes ≤ p.plate) ps → Every (λ p. l.sizes ≤ p.plate) (kids job l c x y ++ ps)
  kids-above c x y i ps h = every_append (λ p. l.sizes ≤ p.plate) (kids job l c x y) ps (go (eqb (plate_of l c).stage 1)) h
    where
      top : Every (λ p. l.sizes ≤ p.plate) (top_at job l c x y)
      top = slot-above (left_by job l (cut_at l c)).top (cut_at l c).top _ _ (top-number job l m c i)

      right : Every (λ p. l.sizes ≤ p.plate) (right_at job l c x y)
      right = slot-above (left_by job l (cut_at l c)).right (cut_at l c).right _ _ (right-number job l m c i)

      go : (t : Bool) → Every (λ p. l.sizes ≤ p.plate) (cond t (right_at job l c x y ++ top_at job l c x y) (top_at job l c x y ++ right_at job l c x y))
      go true = every_append _ (right_at job l c x y) (top_at job l c x y) right top
      go false = every_append _ (top_at job l c x y) (right_at job l c x y) top right

  -- so what is left over is
  over-above : {ps qs : List Piece} {b b' : Opened} {ns ns' : List ℕ} {es : List Event} → Runs job l ps b ns es b' ns' qs → Every (λ p. l.sizes ≤ p.plate) ps → Every (λ j. l.sizes ≤ j) (types_over es)
  unfolding types_over
  over-above stays h = tt
  over-above (leaves e r) h = (h.0, over-above r h.1)
  over-above (cuts {j = j} {x = x} {y = y} {c = c} {ps = ps} {ns = ns} e r) h = over-above r (kids-above c x y (found-cut l j ns c e).0 ps h.1)
  over-above (opens z p stays) h = tt
  over-above (opens {j = j} {ns = ns} z p (leaves e r)) h = absurd (cut-next l j ns p e)
  over-above (opens {j = j} {ns = ns} z p (cuts {c = c} e r)) h = over-above r (kids-above c 0 0 (found-cut l j ns c e).0 [] tt)

  -- no board is left over
  pub none_over : {qs : List Piece} {b b' : Opened} {ns ns' : List ℕ} {es : List Event} → Runs job l [] b ns es b' ns' qs → (j : ℕ) → j < l.sizes → occurs j (types_over es) ≡ 0
  unfolding occurs sum_of
  none_over {es = es} r j h = go (types_over es) (over-above r tt)
    where
      go : (is : List ℕ) → Every (λ i. l.sizes ≤ i) is → occurs j is ≡ 0
      go [] k = refl
      go (i ∷ is) k = omega (arith, occurs-cons j i is, bit-diff {a = i} {b = j} (λ (e : i ≡ j). omega (arith, k.0)), go is k.1)
