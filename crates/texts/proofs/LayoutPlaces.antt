-- The numbers and places of the layouts row of a fold text stand in the table of refusals.
use Prim.Native.Nat.{ℕ, suc, ◌+◌, ◌≤◌}
use native.Mathlib.Omega.{arith}
use mathlib.Core.Path.{◌≡◌, refl, ap, ◌∙◌}
use mathlib.Core.Bool.{Bool, true, false, ◌&&◌}
use mathlib.Core.List.{List, [], ◌∷◌, ◌++◌, flat_map}
use mathlib.Core.Option.{Option, none, some}
use lib.Dec.{ltb, eqb}
use lib.ListN.{length, length-append}
use borrow.Author.Tests.{ltb-false}
use Rattle.job.specs.Verdict.{Verdict, refuse, ◌then◌, refuse_if, lowest}
use Rattle.job.specs.Job.{Job, max_pieces, max_sizes, max_types, no_item}
use Rattle.job.proofs.Verdicts.{refuse_if-pass}
use Rattle.layouts.specs.Layout.{Board, Sheet, sheet, strips_of, strip_height}
use Rattle.layouts.specs.Placement.{opened, Turn, turn, Placement, items_of_strip, items_of_board, items_of_set, lines_of}
use Rattle.layouts.specs.Lines.{Level, stack, strip, board, same_turn, follows, in_turn, turns, begun, in_strip, in_board, in_set, beside, before, grouped}
use Rattle.layouts.specs.LayoutsRow.{Laid, laid_at, laid_board, laid_set, lowest_strip, breaks_stage, past_board, positioned, lacks, layouts_row}
use Rattle.layouts.proofs.row.Grouping.{grouped-on, grouped-new}
use Rattle.texts.specs.Reader.{max_lines}
use Rattle.texts.specs.Refused.{InTable}
use Rattle.texts.proofs.Places.{Near, near-pass, near-refuse, near-if, near-then, near-lowest}

-- so many lines from line k on: each is a line of the text
pub record Lines (k n : ℕ) : Type 0 where
  pub low : 1 ≤ k
  pub high : k + n ≤ suc max_lines

-- 15
near-in-turn : (k : ℕ) (t : Turn) (rs : List Placement) → Lines k (length rs) → Near (in_turn k t rs)
unfolding in_turn
near-in-turn k t [] h = near-pass
near-in-turn k t (r ∷ rs) h = go (follows t r.turn) (near-in-turn (suc k) r.turn rs (omega arith))
  where
    go : (b : Bool) → Near (in_turn (suc k) r.turn rs) → Near (elim b [ false ↦ refuse 15 k | true ↦ in_turn (suc k) r.turn rs ])
    go true n = n
    go false n = near-refuse 15 k (omega arith)

near-turns : (k : ℕ) (rs : List Placement) → Lines k (length rs) → Near (turns k rs)
unfolding turns
near-turns k [] h = near-pass
near-turns k (r ∷ rs) h = go (same_turn r.turn (turn (opened 1 r.turn.board.size) 1 1 1)) (near-in-turn (suc k) r.turn rs (omega arith))
  where
    go : (b : Bool) → Near (in_turn (suc k) r.turn rs) → Near (elim b [ false ↦ refuse 15 k | true ↦ in_turn (suc k) r.turn rs ])
    go true n = n
    go false n = near-refuse 15 k (omega arith)

-- 18
near-positioned : (k : ℕ) (rs ps : List Placement) → Lines k (length rs) → Near (positioned k rs ps)
unfolding positioned
near-positioned k [] ps h = near-pass
near-positioned k (r ∷ rs) [] h = near-pass
near-positioned k (r ∷ rs) (p ∷ ps) h = go (eqb r.x p.x && eqb r.y p.y) (near-positioned (suc k) rs ps (omega arith))
  where
    go : (b : Bool) → Near (positioned (suc k) rs ps) → Near (elim b [ false ↦ refuse 18 k | true ↦ positioned (suc k) rs ps ])
    go true n = n
    go false n = near-refuse 18 k (omega arith)

-- a line lies in the set once
items-in : (z i : ℕ) (bs : List Sheet) → length (items_of_set (in_set z i bs)) ≡ suc (length (items_of_set bs))
unfolding items_of_set items_of_board items_of_strip flat_map in_set in_board in_strip
items-in z i [] = refl
items-in z i (sheet j [] ∷ bs) = refl
items-in z i (sheet j ([] ∷ ss) ∷ bs) = refl
items-in z i (sheet j ((k ∷ ks) ∷ ss) ∷ bs) = refl

items-before : (z : ℕ) (v : Level) (i : ℕ) (bs : List Sheet) → length (items_of_set (before z v (i ∷ []) bs)) ≡ suc (length (items_of_set bs))
unfolding items_of_set items_of_board items_of_strip flat_map before beside
items-before z v i [] = refl
items-before z stack i (sheet j [] ∷ bs) = refl
items-before z stack i (sheet j (s ∷ ss) ∷ bs) = refl
items-before z strip i (sheet j b ∷ bs) = refl
items-before z board i (sheet j b ∷ bs) = refl

-- the items of a set of lines are as many as the lines
pub items-grouped : (rs : List Placement) → length (items_of_set (grouped rs)) ≡ length rs
unfolding items_of_set flat_map grouped
items-grouped [] = refl
items-grouped (r ∷ rs) = go (begun rs) refl (items-grouped rs)
  where
    go : (o : Option Level) → begun rs ≡ o → length (items_of_set (grouped rs)) ≡ length rs → length (items_of_set (grouped (r ∷ rs))) ≡ suc (length rs)
    go none e h = ap (λ (bs : List Sheet). length (items_of_set bs)) (grouped-on r rs e) ∙ items-in r.turn.board.size r.item (grouped rs) ∙ ap suc h
    go (some v) e h = ap (λ (bs : List Sheet). length (items_of_set bs)) (grouped-new r rs v e) ∙ items-before r.turn.board.size v r.item (grouped rs) ∙ ap suc h

-- 16 and 17
module _ (number : ℕ) (bad : Laid → Bool) (job : Job) (table : (k : ℕ) → 1 ≤ k → k ≤ suc max_lines → InTable number k) where
  near-strip : (s : Laid) (ss : List Laid) → InTable number s.line → Near (lowest_strip number bad ss) → Near (lowest_strip number bad (s ∷ ss))
  unfolding lowest_strip
  near-strip s ss h n = go (bad s)
    where
      go : (b : Bool) → Near (elim b [ true ↦ refuse number s.line | false ↦ lowest_strip number bad ss ])
      go true = near-refuse number s.line h
      go false = n

  near-board :
      (z k y : ℕ) (b : Board) (us : List Laid)
      → Lines k (length (items_of_board b))
      → Near (lowest_strip number bad us)
      → Near (lowest_strip number bad (laid_board job z k y b ++ us))
  unfolding laid_board items_of_board flat_map
  near-board z k y [] us h n = n
  near-board z k y (s ∷ ss) us h n =
      let e = length-append (items_of_strip s) (flat_map items_of_strip ss) in
      let k' : ℕ = k + length (items_of_strip s) in
      let y' : ℕ = y + strip_height job s + job.blade in
      near-strip (laid_at z k y s) (laid_board job z k' y' ss ++ us) (table k (omega arith) (omega arith)) (near-board z k' y' ss us (omega arith) n)

  near_none : Near (lowest_strip number bad [])
  unfolding lowest_strip
  near_none = near-pass

  near-set : (k : ℕ) (bs : List Sheet) → Lines k (length (items_of_set bs)) → Near (lowest_strip number bad (laid_set job k bs))
  unfolding laid_set items_of_set flat_map
  near-set k [] h = near_none
  near-set k (sheet z b ∷ bs) h =
      let e = length-append (items_of_board b) (flat_map (λ c. items_of_board (strips_of c)) bs) in
      let k' : ℕ = k + length (items_of_board b) in
      near-board z k 0 b (laid_set job k' bs) (omega arith) (near-set k' bs (omega arith))

-- the layouts row of lines numbered from k
pub near-row : (k : ℕ) (job : Job) (rs : List Placement) → 1 ≤ k → k ≤ suc (suc (max_sizes + max_types)) → length job.items ≤ max_types → Near (layouts_row k job rs)
unfolding layouts_row
near-row k job rs low high few =
    near-then (refuse_if (ltb max_pieces (length rs)) 10 0) (turns k rs then stage then past then places then demands)
    (near-if (ltb max_pieces (length rs)) 10 0 (omega arith)) (λ e.
    let pieces = ltb-false max_pieces (length rs) (refuse_if-pass (ltb max_pieces (length rs)) 10 0 e) in
    let h : Lines k (length rs) = omega arith in
    let g : Lines k (length (items_of_set (grouped rs))) = omega (arith, items-grouped rs) in
    near-then (turns k rs) (stage then past then places then demands) (near-turns k rs h) (λ e.
    near-then stage (past then places then demands) (near-set 16 (breaks_stage job) job (λ p a b. omega arith) k (grouped rs) g) (λ e.
    near-then past (places then demands) (near-set 17 (past_board job) job (λ p a b. omega arith) k (grouped rs) g) (λ e.
    near-then places demands (near-positioned k rs (lines_of job (grouped rs)) h) (λ e.
    near-lowest 11 (lacks rs) no_item 1 job.items (λ p a b. omega arith))))))
  where
    stage : Verdict
    stage = lowest_strip 16 (breaks_stage job) (laid_set job k (grouped rs))

    past : Verdict
    past = lowest_strip 17 (past_board job) (laid_set job k (grouped rs))

    places : Verdict
    places = positioned k rs (lines_of job (grouped rs))

    demands : Verdict
    demands = lowest 11 (lacks rs) 1 job.items
