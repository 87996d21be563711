-- A set of layouts by its first stack or its first strip: lines make the first stack, and behind it the set of the lines after it; so with the first strip.
use mathlib.Core.Path.{◌≡◌, refl, sym, ap, ◌∙◌}
use Prim.Native.Nat.{ℕ, suc, ◌+◌}
use mathlib.Core.List.{List, [], ◌∷◌, flat_map}
use mathlib.Core.Bool.{cond}
use mathlib.Core.Option.{Option, none, some}
use native.Mathlib.Omega.{arith}
use lib.ListN.{length, drop, length-append}
use Rattle.job.specs.Job.{Job}
use Rattle.layouts.specs.Layout.{Stack, Strip, Board, Sheet, sheet, strip_height}
use Rattle.layouts.specs.Placement.{Placement, items_of_strip, items_of_board}
use Rattle.layouts.specs.Lines.{Level, stack, strip, board, begun, in_strip, in_board, in_set, beside, before, grouped}
use Rattle.layouts.specs.LayoutsRow.{Laid, laid_at, laid_board, laid_set}
use Rattle.layouts.proofs.row.Grouping.{grouped-on, grouped-new}
use Rattle.layouts_strips.specs.Begun.{begins_strip}
use Rattle.layouts_strips.specs.First.{first_strip, first_stack, first_size, size_named, stack_of, strip_of, laid_from, below_next, strip_plate}

-- a stack, or a strip, that goes on
abbrev pub when_on : Option Level → Stack → Stack
when_on none k = k
when_on (some v) k = []

abbrev pub when_stack : Option Level → Strip → Strip
when_stack none s = []
when_stack (some stack) s = s
when_stack (some strip) s = []
when_stack (some board) s = []

-- the first stack: an item, and the stack of the lines after it where these go on with it
first-in : (z i : ℕ) (bs : List Sheet) → first_stack (in_set z i bs) ≡ i ∷ first_stack bs
unfolding in_set in_board in_strip
first-in z i [] = refl
first-in z i (sheet j [] ∷ bs) = refl
first-in z i (sheet j ([] ∷ ss) ∷ bs) = refl
first-in z i (sheet j ((k ∷ ks) ∷ ss) ∷ bs) = refl

first-before : (z : ℕ) (v : Level) (k : Stack) (bs : List Sheet) → first_stack (before z v k bs) ≡ k
unfolding before beside
first-before z v k [] = refl
first-before z stack k (sheet j [] ∷ bs) = refl
first-before z stack k (sheet j (s ∷ b) ∷ bs) = refl
first-before z strip k (sheet j b ∷ bs) = refl
first-before z board k (b ∷ bs) = refl

pub stack-items : (r : Placement) (rs : List Placement) → stack_of (r ∷ rs) ≡ r.item ∷ when_on (begun rs) (stack_of rs)
stack-items r rs = go (begun rs) refl
  where
    go : (o : Option Level) → begun rs ≡ o → stack_of (r ∷ rs) ≡ r.item ∷ when_on o (stack_of rs)
    go none e = ap first_stack (grouped-on r rs e) ∙ first-in r.turn.board.size r.item (grouped rs)
    go (some v) e = ap first_stack (grouped-new r rs v e) ∙ first-before r.turn.board.size v (r.item ∷ []) (grouped rs)

-- the first board has the size that the first line names
size_in : (z i : ℕ) (bs : List Sheet) → first_size (in_set z i bs) ≡ z
unfolding in_set
size_in z i [] = refl
size_in z i (sheet j b ∷ bs) = refl

size-before : (z : ℕ) (v : Level) (k : Stack) (bs : List Sheet) → first_size (before z v k bs) ≡ z
unfolding before
size-before z v k [] = refl
size-before z stack k (sheet j b ∷ bs) = refl
size-before z strip k (sheet j b ∷ bs) = refl
size-before z board k (b ∷ bs) = refl

pub first-size : (rs : List Placement) → first_size (grouped rs) ≡ size_named rs
unfolding grouped
first-size [] = refl
first-size (r ∷ rs) = go (begun rs) refl
  where
    go : (o : Option Level) → begun rs ≡ o → first_size (grouped (r ∷ rs)) ≡ r.turn.board.size
    go none e = ap first_size (grouped-on r rs e) ∙ size_in r.turn.board.size r.item (grouped rs)
    go (some v) e = ap first_size (grouped-new r rs v e) ∙ size-before r.turn.board.size v (r.item ∷ []) (grouped rs)

-- a stack before a set, by what the set's first line begins
abbrev ahead : ℕ → Option Level → Stack → List Sheet → List Sheet
ahead z none k bs = before z board k bs
ahead z (some v) k bs = before z v k bs

-- an item below it, whichever size its own line names
in-before : (z z' : ℕ) (v : Level) (i : ℕ) (k : Stack) (bs : List Sheet) → in_set z i (before z' v k bs) ≡ before z v (i ∷ k) bs
unfolding in_set in_board in_strip before beside
in-before z z' v i k [] = refl
in-before z z' stack i k (sheet j [] ∷ bs) = refl
in-before z z' stack i k (sheet j (s ∷ ss) ∷ bs) = refl
in-before z z' strip i k (sheet j b ∷ bs) = refl
in-before z z' board i k (b ∷ bs) = refl

in-ahead : (z z' : ℕ) (o : Option Level) (i : ℕ) (k : Stack) (bs : List Sheet) → in_set z i (ahead z' o k bs) ≡ ahead z o (i ∷ k) bs
in-ahead z z' none i k bs = in-before z z' board i k bs
in-ahead z z' (some v) i k bs = in-before z z' v i k bs

-- the lines behind as many as a stack has
abbrev behind_stack : Stack → List Placement → List Placement
behind_stack k rs = drop (length k) rs

-- some lines are a stack, and the set of the lines after it
record StackFirst (rs : List Placement) : Type 0 where
  first : Stack
  whole : grouped rs ≡ ahead (size_named rs) (begun (behind_stack first rs)) first (grouped (behind_stack first rs))

-- a line before lines that begin something, and before lines that are such
stack-alone : (r : Placement) (rs : List Placement) (v : Level) → begun rs ≡ some v → StackFirst (r ∷ rs)
stack-alone r rs v e = record { first = r.item ∷ []; whole = grouped-new r rs v e ∙ rw e }

stack-more : (r : Placement) (rs : List Placement) → begun rs ≡ none → StackFirst rs → StackFirst (r ∷ rs)
stack-more r rs e f =
    let after = behind_stack f.first rs in
    record {
      first = r.item ∷ f.first;
      whole = grouped-on r rs e ∙ ap (in_set r.turn.board.size r.item) f.whole ∙ in-ahead r.turn.board.size (size_named rs) (begun after) r.item f.first (grouped after);
    }

none-begun : begun [] ≡ some board
unfolding begun
none-begun = refl

stack-first : (r : Placement) (rs : List Placement) → StackFirst (r ∷ rs)
stack-first r [] = stack-alone r [] board none-begun
stack-first r (r' ∷ rs) = go (begun (r' ∷ rs)) refl (stack-first r' rs)
  where
    go : (o : Option Level) → begun (r' ∷ rs) ≡ o → StackFirst (r' ∷ rs) → StackFirst (r ∷ r' ∷ rs)
    go none e f = stack-more r (r' ∷ rs) e f
    go (some v) e f = stack-alone r (r' ∷ rs) v e

-- that stack is the first of the set, and the first strip is the stack, and the strip of the lines after it where these begin a stack of it
first-ahead : (z : ℕ) (o : Option Level) (k : Stack) (bs : List Sheet) → first_stack (ahead z o k bs) ≡ k
first-ahead z none k bs = first-before z board k bs
first-ahead z (some v) k bs = first-before z v k bs

strip-before : (z : ℕ) (v : Level) (k : Stack) (bs : List Sheet) → first_strip (before z v k bs) ≡ k ∷ when_stack (some v) (first_strip bs)
unfolding before beside
strip-before z stack k [] = refl
strip-before z strip k [] = refl
strip-before z board k [] = refl
strip-before z stack k (sheet j [] ∷ bs) = refl
strip-before z stack k (sheet j (s ∷ b) ∷ bs) = refl
strip-before z strip k (sheet j b ∷ bs) = refl
strip-before z board k (b ∷ bs) = refl

strip-ahead : (z : ℕ) (o : Option Level) (k : Stack) (bs : List Sheet) → first_strip (ahead z o k bs) ≡ k ∷ when_stack o (first_strip bs)
strip-ahead z none k bs = strip-before z board k bs
strip-ahead z (some v) k bs = strip-before z v k bs

-- the first strip of some lines: its first stack, and the further ones
pub strip-stacks :
    (r : Placement) (rs : List Placement)
    → strip_of (r ∷ rs)
    ≡ stack_of (r ∷ rs)
    ∷ when_stack (begun (drop (length (stack_of (r ∷ rs))) (r ∷ rs))) (strip_of (drop (length (stack_of (r ∷ rs))) (r ∷ rs)))
strip-stacks r rs =
    let z = r.turn.board.size in
    let f = stack-first r rs in
    let after = behind_stack f.first (r ∷ rs) in
    let e : stack_of (r ∷ rs) ≡ f.first = ap first_stack f.whole ∙ first-ahead z (begun after) f.first (grouped after) in
    rw e (ap first_strip f.whole ∙ strip-ahead z (begun after) f.first (grouped after))

-- a strip on a board of size z before a set, by what the set's first line begins
abbrev pub over : ℕ → Option Level → Strip → List Sheet → List Sheet
over z o s [] = sheet z (s ∷ []) ∷ []
over z none s (b ∷ bs) = sheet z (s ∷ []) ∷ b ∷ bs
over z (some stack) s (b ∷ bs) = sheet z (s ∷ []) ∷ b ∷ bs
over z (some strip) s (sheet j b ∷ bs) = sheet z (s ∷ b) ∷ bs
over z (some board) s (b ∷ bs) = sheet z (s ∷ []) ∷ b ∷ bs

in-over : (z z' : ℕ) (o : Option Level) (i : ℕ) (s : Strip) (bs : List Sheet) → in_set z i (over z' o s bs) ≡ over z o (in_strip i s) bs
unfolding in_set in_board
in-over z z' o i s [] = refl
in-over z z' none i s (b ∷ bs) = refl
in-over z z' (some stack) i s (b ∷ bs) = refl
in-over z z' (some strip) i s (sheet j b ∷ bs) = refl
in-over z z' (some board) i s (b ∷ bs) = refl

beside-over : (z z' : ℕ) (o : Option Level) (k : Stack) (s : Strip) (bs : List Sheet) → before z stack k (over z' o s bs) ≡ over z o (k ∷ s) bs
unfolding before beside
beside-over z z' o k s [] = refl
beside-over z z' none k s (b ∷ bs) = refl
beside-over z z' (some stack) k s (b ∷ bs) = refl
beside-over z z' (some strip) k s (sheet j b ∷ bs) = refl
beside-over z z' (some board) k s (b ∷ bs) = refl

pub first-over : (z : ℕ) (o : Option Level) (s : Strip) (bs : List Sheet) → first_strip (over z o s bs) ≡ s
first-over z o s [] = refl
first-over z none s (b ∷ bs) = refl
first-over z (some stack) s (b ∷ bs) = refl
first-over z (some strip) s (sheet j b ∷ bs) = refl
first-over z (some board) s (b ∷ bs) = refl

before-strip : (z : ℕ) (k : Stack) (bs : List Sheet) → before z strip k bs ≡ over z (some strip) (k ∷ []) bs
unfolding before
before-strip z k [] = refl
before-strip z k (sheet j b ∷ bs) = refl

before-board : (z : ℕ) (k : Stack) (bs : List Sheet) → before z board k bs ≡ over z (some board) (k ∷ []) bs
unfolding before
before-board z k [] = refl
before-board z k (b ∷ bs) = refl

-- the items of a strip
pub items-in : (i : ℕ) (s : Strip) → items_of_strip (in_strip i s) ≡ i ∷ items_of_strip s
unfolding items_of_strip in_strip flat_map
items-in i [] = refl
items-in i (k ∷ ks) = refl

items-one : (i : ℕ) (s : Strip) → length (items_of_strip ((i ∷ []) ∷ s)) ≡ suc (length (items_of_strip s))
unfolding items_of_strip flat_map
items-one i s = refl

items-none : length (items_of_strip []) ≡ 0
unfolding items_of_strip flat_map
items-none = refl

-- the lines behind as many as a strip has
abbrev pub behind_strip : Strip → List Placement → List Placement
behind_strip s rs = drop (length (items_of_strip s)) rs

-- some lines are a strip, and the set of the lines after it
pub record StripFirst (rs : List Placement) : Type 0 where
  pub first : Strip
  pub whole : grouped rs ≡ over (size_named rs) (begun (behind_strip first rs)) first (grouped (behind_strip first rs))

strip-in : (r : Placement) (rs : List Placement) → begun rs ≡ none → StripFirst rs → StripFirst (r ∷ rs)
strip-in r rs e f =
    let after = behind_strip f.first rs in
    record {
      first = in_strip r.item f.first;
      whole = rw (items-in r.item f.first) (grouped-on r rs e ∙ ap (in_set r.turn.board.size r.item) f.whole ∙ in-over r.turn.board.size (size_named rs) (begun after) r.item f.first (grouped after));
    }

strip-beside : (r : Placement) (rs : List Placement) → begun rs ≡ some stack → StripFirst rs → StripFirst (r ∷ rs)
strip-beside r rs e f =
    let after = behind_strip f.first rs in
    record {
      first = (r.item ∷ []) ∷ f.first;
      whole = rw (items-one r.item f.first) (grouped-new r rs stack e ∙ ap (before r.turn.board.size stack (r.item ∷ [])) f.whole ∙ beside-over r.turn.board.size (size_named rs) (begun after) (r.item ∷ []) f.first (grouped after));
    }

strip-alone : (r : Placement) (rs : List Placement) → begun rs ≡ some strip → StripFirst (r ∷ rs)
strip-alone r rs e =
    record {
      first = (r.item ∷ []) ∷ [];
      whole = rw (items-one r.item [], items-none) (grouped-new r rs strip e ∙ before-strip r.turn.board.size (r.item ∷ []) (grouped rs) ∙ rw e);
    }

strip-last : (r : Placement) (rs : List Placement) → begun rs ≡ some board → StripFirst (r ∷ rs)
strip-last r rs e =
    record {
      first = (r.item ∷ []) ∷ [];
      whole = rw (items-one r.item [], items-none) (grouped-new r rs board e ∙ before-board r.turn.board.size (r.item ∷ []) (grouped rs) ∙ rw e);
    }

pub strip-first : (r : Placement) (rs : List Placement) → StripFirst (r ∷ rs)
strip-first r [] = strip-last r [] none-begun
strip-first r (r' ∷ rs) = go (begun (r' ∷ rs)) refl (strip-first r' rs)
  where
    go : (o : Option Level) → begun (r' ∷ rs) ≡ o → StripFirst (r' ∷ rs) → StripFirst (r ∷ r' ∷ rs)
    go none e f = strip-in r (r' ∷ rs) e f
    go (some stack) e f = strip-beside r (r' ∷ rs) e f
    go (some strip) e f = strip-alone r (r' ∷ rs) e
    go (some board) e f = strip-last r (r' ∷ rs) e

module _ (job : Job) where
  -- a set with nothing below its first strip
  pub laid-from-none : (line : ℕ) (bs : List Sheet) → laid_set job line bs ≡ laid_from job (first_size bs) line 0 bs
  unfolding laid_set
  laid-from-none line [] = refl
  laid-from-none line (sheet z b ∷ bs) = refl

  board-items : (s : Strip) (b : Board) → length (items_of_board (s ∷ b)) ≡ length (items_of_strip s) + length (items_of_board b)
  unfolding items_of_board flat_map
  board-items s b = length-append (items_of_strip s) (flat_map items_of_strip b)

  no_items : length (items_of_board []) ≡ 0
  unfolding items_of_board flat_map
  no_items = refl

  module _ (z line y : ℕ) (s : Strip) where
    laid-alone : (j : ℕ) (bs : List Sheet) → laid_from job z line y (sheet j (s ∷ []) ∷ bs) ≡ laid_at z line y s ∷ laid_from job (first_size bs) (line + length (items_of_strip s)) 0 bs
    unfolding laid_board
    laid-alone j bs =
        let e : length (items_of_strip s) + 0 ≡ length (items_of_strip s) = omega arith in
        rw (board-items s [], no_items, e) (ap (λ (l : List Laid). laid_at z line y s ∷ l) (laid-from-none (line + length (items_of_strip s)) bs))

    laid_beside : (j j' : ℕ) (b : Board) (bs : List Sheet) → laid_from job z line y (sheet j (s ∷ b) ∷ bs) ≡ laid_at z line y s ∷ laid_from job z (line + length (items_of_strip s)) (y + strip_height job s + job.blade) (sheet j' b ∷ bs)
    unfolding laid_board
    laid_beside j j' b bs =
        let e : line + (length (items_of_strip s) + length (items_of_board b)) ≡ line + length (items_of_strip s) + length (items_of_board b) = omega arith in
        rw (board-items s b, e)

    laid-over : (j : ℕ) (o : Option Level) (bs : List Sheet) → laid_from job z line y (over j o s bs) ≡ laid_at z line y s ∷ laid_from job (cond (begins_strip o) z (first_size bs)) (line + length (items_of_strip s)) (below_next o (y + strip_height job s + job.blade)) bs
    laid-over j o [] = laid-alone j []
    laid-over j none (b ∷ bs) = laid-alone j (b ∷ bs)
    laid-over j (some stack) (b ∷ bs) = laid-alone j (b ∷ bs)
    laid-over j (some strip) (sheet j' b ∷ bs) = laid_beside j j' b bs
    laid-over j (some board) (b ∷ bs) = laid-alone j (b ∷ bs)

  -- the strips of some lines: the first, and those of the lines after it
  pub laid-strips :
      (z line y : ℕ) (r : Placement) (rs : List Placement) {s : Strip}
      → strip_of (r ∷ rs) ≡ s
      → laid_from job z line y (grouped (r ∷ rs))
      ≡ laid_at z line y s ∷ laid_from job (strip_plate (behind_strip s (r ∷ rs)) z) (line + length (items_of_strip s)) (below_next (begun (behind_strip s (r ∷ rs))) (y + strip_height job s + job.blade)) (grouped (behind_strip s (r ∷ rs)))
  laid-strips z line y r rs {s} a =
      let f = strip-first r rs in
      let after = behind_strip f.first (r ∷ rs) in
      let e : f.first ≡ s = sym (ap first_strip f.whole ∙ first-over r.turn.board.size (begun after) f.first (grouped after)) ∙ a in
      ap (laid_from job z line y) f.whole ∙ rw (← first-size (behind_strip s (r ∷ rs)), e) (laid-over z line y s r.turn.board.size (begun (behind_strip s (r ∷ rs))) (grouped (behind_strip s (r ∷ rs))))
