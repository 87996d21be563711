-- The items of the first stack, and of the first strip, of some lines are those of as many lines.
use Prim.Native.Nat.{ℕ, ◌+◌, ◌-◌, ◌<◌}
use native.Mathlib.Omega.{arith}
use mathlib.Core.Path.{◌≡◌, refl, sym, ap, ◌∙◌}
use mathlib.Core.List.{List, [], ◌∷◌, flat_map}
use mathlib.Core.Option.{Option, none, some}
use lib.ListN.{length, take, drop}
use Rattle.job.specs.Job.{Job}
use Rattle.layouts.specs.Layout.{Stack, Strip, Sheet, sheet}
use Rattle.layouts.specs.Placement.{Placement, items_of_strip}
use Rattle.layouts.specs.Lines.{Level, stack, strip, board, begun, in_strip, in_board, in_set, beside, before, grouped, rows_of}
use Rattle.layouts.specs.Rules.{Filled}
use Rattle.layouts.proofs.row.Grouping.{grouped-on, grouped-new}
use Rattle.placement.specs.PlacementRead.{items_placed}
use Rattle.layouts_strips.specs.declared.stack.StackMeasure.{StackMeasure}
use Rattle.layouts_strips.specs.First.{first_strip, stack_of, strip_of}
use Rattle.layouts_strips.specs.Measures.{StackIs, StackSmall}
use Rattle.layouts_strips.proofs.CodeFirst.{stack-items, items-in}
use Rattle.fold_counts.specs.Key.{items_in}

no_stack : stack_of [] ≡ []
unfolding grouped
no_stack = refl

stack-in : (rs : List Placement) → stack_of rs ≡ items_placed (take (length (stack_of rs)) rs)
stack-in [] = rw no_stack refl
stack-in (r ∷ rs) = go (begun rs) refl (stack-in rs)
  where
    go : (o : Option Level) → begun rs ≡ o → stack_of rs ≡ items_placed (take (length (stack_of rs)) rs) → stack_of (r ∷ rs) ≡ items_placed (take (length (stack_of (r ∷ rs))) (r ∷ rs))
    go none e rec = rw (stack-items r rs, e) (ap (λ (xs : List ℕ). r.item ∷ xs) rec)
    go (some v) e rec = rw (stack-items r rs, e) refl

-- the items of a strip that goes on, or not
abbrev when_strip : Option Level → List ℕ → List ℕ
when_strip none xs = xs
when_strip (some stack) xs = xs
when_strip (some strip) xs = []
when_strip (some board) xs = []

first-in : (z i : ℕ) (bs : List Sheet) → first_strip (in_set z i bs) ≡ in_strip i (first_strip bs)
unfolding in_set in_board in_strip
first-in z i [] = refl
first-in z i (sheet j [] ∷ bs) = refl
first-in z i (sheet j (s ∷ ss) ∷ bs) = refl

first-before : (z : ℕ) (v : Level) (i : ℕ) (bs : List Sheet) → items_of_strip (first_strip (before z v (i ∷ []) bs)) ≡ i ∷ when_strip (some v) (items_of_strip (first_strip bs))
unfolding before beside items_of_strip flat_map
first-before z stack i [] = refl
first-before z strip i [] = refl
first-before z board i [] = refl
first-before z stack i (sheet j [] ∷ bs) = refl
first-before z stack i (sheet j (s ∷ b) ∷ bs) = refl
first-before z strip i (sheet j b ∷ bs) = refl
first-before z board i (b ∷ bs) = refl

strip-items : (r : Placement) (rs : List Placement) → items_of_strip (strip_of (r ∷ rs)) ≡ r.item ∷ when_strip (begun rs) (items_of_strip (strip_of rs))
strip-items r rs = go (begun rs) refl
  where
    go : (o : Option Level) → begun rs ≡ o → items_of_strip (strip_of (r ∷ rs)) ≡ r.item ∷ when_strip o (items_of_strip (strip_of rs))
    go none e = ap (λ (bs : List Sheet). items_of_strip (first_strip bs)) (grouped-on r rs e) ∙ ap items_of_strip (first-in r.turn.board.size r.item (grouped rs)) ∙ items-in r.item (first_strip (grouped rs))
    go (some v) e = ap (λ (bs : List Sheet). items_of_strip (first_strip bs)) (grouped-new r rs v e) ∙ first-before r.turn.board.size v r.item (grouped rs)

no-strip : items_of_strip (strip_of []) ≡ []
unfolding grouped items_of_strip flat_map
no-strip = refl

strip-in : (rs : List Placement) → items_of_strip (strip_of rs) ≡ items_placed (take (length (items_of_strip (strip_of rs))) rs)
strip-in [] = rw no-strip refl
strip-in (r ∷ rs) = go (begun rs) refl (strip-in rs)
  where
    go : (o : Option Level) → begun rs ≡ o → items_of_strip (strip_of rs) ≡ items_placed (take (length (items_of_strip (strip_of rs))) rs) → items_of_strip (strip_of (r ∷ rs)) ≡ items_placed (take (length (items_of_strip (strip_of (r ∷ rs)))) (r ∷ rs))
    go none e rec = rw (strip-items r rs, e) (ap (λ (xs : List ℕ). r.item ∷ xs) rec)
    go (some stack) e rec = rw (strip-items r rs, e) (ap (λ (xs : List ℕ). r.item ∷ xs) rec)
    go (some strip) e rec = rw (strip-items r rs, e) refl
    go (some board) e rec = rw (strip-items r rs, e) refl

-- the items of the lines of a stack, and of a strip, by where they end
pub stack-types : (job : Job) (ws : List ℕ) (p : ℕ) (m : StackMeasure) → StackIs job p (stack_of (drop p (rows_of ws))) m → items_in p (m.end - p) (rows_of ws) ≡ stack_of (drop p (rows_of ws))
stack-types job ws p m s =
    let e : m.end - p ≡ length (stack_of (drop p (rows_of ws))) = omega (arith, s.ended) in
    rw e (sym (stack-in (drop p (rows_of ws))))

pub strip-types : (ws : List ℕ) (a end : ℕ) → end ≡ a + length (items_of_strip (strip_of (drop a (rows_of ws)))) → items_in a (end - a) (rows_of ws) ≡ items_of_strip (strip_of (drop a (rows_of ws)))
strip-types ws a end h =
    let e : end - a ≡ length (items_of_strip (strip_of (drop a (rows_of ws)))) = omega arith in
    rw e (sym (strip-in (drop a (rows_of ws))))

-- a stack that ends behind where it begins is not empty
filled-from : (k : Stack) → 0 < length k → Filled k
filled-from [] h = absurd (omega arith)
filled-from (i ∷ is) h = tt

pub stack-filled : (job : Job) (p lines : ℕ) (k : Stack) (m : StackMeasure) → StackIs job p k m → StackSmall p lines m → Filled k
stack-filled job p lines k m s t = filled-from k (omega (arith, s.ended, t.begun))

pub strip-filled : (a end : ℕ) (s : Strip) → a < end → end ≡ a + length (items_of_strip s) → Filled (items_of_strip s)
strip-filled a end s h e = filled-from (items_of_strip s) (omega arith)
