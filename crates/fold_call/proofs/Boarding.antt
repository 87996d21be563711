-- The boards of lines: one more wherever the next line begins a board, or there is none. A value of each board's size, added up over the boards, is their
-- number where it is 1, and their cost where it is the size's.
use Prim.Native.Nat.{ℕ, ◌+◌, ◌*◌, ◌≤◌, ◌<◌}
use native.Mathlib.Omega.{arith}
use mathlib.Core.Path.{◌≡◌, refl, ap, ◌∙◌}
use mathlib.Core.List.{List, [], ◌∷◌}
use mathlib.Core.Option.{Option, none, some}
use lib.ListN.{length, get_or, drop}
use Rattle.job.specs.Sizes.{words_of_placement}
use Rattle.job.specs.Lists.{sum_of}
use Rattle.job.specs.Job.{Job}
use Rattle.plan.specs.Plan.{cost_at}
use Rattle.layouts.specs.Layout.{Stack as Items, Sheet, sheet, sheet_size}
use Rattle.layouts.specs.Placement.{Placement}
use Rattle.layouts.specs.Rules.{Filled}
use Rattle.layouts.specs.Lines.{Level, stack, strip, board, begun, in_set, before, grouped, rows_of, set_of}
use Rattle.layouts.proofs.row.Grouping.{grouped-on, grouped-new}
use Rattle.layouts.proofs.row.RowBack.{grouped-some}
use Rattle.placement.specs.PlacementRead.{placement_at}
use Rattle.placement.proofs.Rows.{rows-from, rows_end}
use Rattle.layouts_strips.specs.First.{first_size, size_named}
use Rattle.layouts_strips.specs.Measures.{LentLines}
use Rattle.layouts_strips.proofs.CodeFirst.{first-size}
use Rattle.fold_call.specs.declared.boards.Boards.{Boards}
use Rattle.fold_call.specs.Boarded.{at_board, WithBoard}

module _ (f : ℕ → ℕ) where
  -- the values of the boards of a set added up, and those of a set whose first board is of size z
  abbrev pub value_of : List Sheet → ℕ
  value_of bs = sum_of (λ b. f (sheet_size b)) bs

  abbrev pub value_from : ℕ → List Sheet → ℕ
  value_from z [] = 0
  value_from z (sheet j b ∷ bs) = f z + value_of bs

  value-first : (bs : List Sheet) → value_of bs ≡ value_from (first_size bs) bs
  unfolding sum_of
  value-first [] = refl
  value-first (sheet z b ∷ bs) = refl

  -- a line that goes on with a stack makes no board more, one that begins a board makes one
  value_in : (z y i : ℕ) (bs : List Sheet) → Filled bs → value_from z (in_set y i bs) ≡ value_from z bs
  unfolding in_set
  value_in z y i [] h = absurd h
  value_in z y i (sheet j b ∷ bs) h = refl

  value_before : (z y : ℕ) (v : Level) (k : Items) (bs : List Sheet) → Filled bs → value_from z (before y v k bs) ≡ at_board (some v) (f z + value_of bs) (value_from z bs)
  unfolding before
  value_before z y v k [] h = absurd h
  value_before z y stack k (sheet j b ∷ bs) h = refl
  value_before z y strip k (sheet j b ∷ bs) h = refl
  value_before z y board k (b ∷ bs) h = refl

  -- a line before others
  value_line : (z : ℕ) (r : Placement) (rs : List Placement) → value_from z (grouped (r ∷ rs)) ≡ at_board (begun rs) (f z + value_from (size_named rs) (grouped rs)) (value_from z (grouped rs))
  unfolding grouped begun before sum_of
  value_line z r [] = refl
  value_line z r (r' ∷ rs) = go (begun (r' ∷ rs)) refl
    where
      size : ℕ
      size = r.turn.board.size

      more : value_of (grouped (r' ∷ rs)) ≡ value_from (size_named (r' ∷ rs)) (grouped (r' ∷ rs))
      more = value-first (grouped (r' ∷ rs)) ∙ ap (λ (j : ℕ). value_from j (grouped (r' ∷ rs))) (first-size (r' ∷ rs))

      go : (o : Option Level) → begun (r' ∷ rs) ≡ o → value_from z (grouped (r ∷ r' ∷ rs)) ≡ at_board (begun (r' ∷ rs)) (f z + value_from (size_named (r' ∷ rs)) (grouped (r' ∷ rs))) (value_from z (grouped (r' ∷ rs)))
      go none e = rw (grouped-on r (r' ∷ rs) e, e) (value_in z size r.item (grouped (r' ∷ rs)) (grouped-some r' rs))
      go (some v) e = rw (grouped-new r (r' ∷ rs) v e, e, ← more) (value_before z size v (r.item ∷ []) (grouped (r' ∷ rs)) (grouped-some r' rs))

  module _ (ws : List ℕ) (lines : ℕ) (words : length ws ≡ words_of_placement * lines) where
    -- before the first line nothing is counted, and its board is of the size that it names
    pub boards-start : {z : ℕ} → z ≡ size_named (rows_of ws) → 0 + value_from z (grouped (drop 0 (rows_of ws))) ≡ value_of (set_of ws)
    unfolding set_of
    boards-start e = rw (e, ← first-size (rows_of ws)) (omega (arith, value-first (grouped (rows_of ws))))

    -- what is counted, and the boards of the lines that are left, are all
    pub boards-next : (n z c : ℕ) {m y whole : ℕ} → c < lines → n + value_from z (grouped (drop c (rows_of ws))) ≡ whole → m ≡ at_board (begun (drop (c + 1) (rows_of ws))) (n + f z) n → y ≡ at_board (begun (drop (c + 1) (rows_of ws))) (size_named (drop (c + 1) (rows_of ws))) z → m + value_from y (grouped (drop (c + 1) (rows_of ws))) ≡ whole
    boards-next n z c {m} {y} {whole} h e p q = go (begun rest) p q line
      where
        rest : List Placement
        rest = drop (c + 1) (rows_of ws)

        line : value_from z (grouped (drop c (rows_of ws))) ≡ at_board (begun rest) (f z + value_from (size_named rest) (grouped rest)) (value_from z (grouped rest))
        line = ap (λ (rs : List Placement). value_from z (grouped rs)) (rows-from ws lines c words h) ∙ value_line z (placement_at ws c) rest

        go : (o : Option Level) → m ≡ at_board o (n + f z) n → y ≡ at_board o (size_named rest) z → value_from z (grouped (drop c (rows_of ws))) ≡ at_board o (f z + value_from (size_named rest) (grouped rest)) (value_from z (grouped rest)) → m + value_from y (grouped rest) ≡ whole
        go none a b l = rw b (omega arith)
        go (some stack) a b l = rw b (omega arith)
        go (some strip) a b l = rw b (omega arith)
        go (some board) a b l = rw b (omega arith)

    pub boards-end : (n z c : ℕ) {whole : ℕ} → lines ≤ c → n + value_from z (grouped (drop c (rows_of ws))) ≡ whole → n ≡ whole
    unfolding grouped
    boards-end n z c {whole} h e =
        let none_left : drop c (rows_of ws) ≡ [] = rows_end ws lines c words h in
        let g : n + 0 ≡ whole = rw none_left at e in
        omega arith

-- a line begins at most one board
pub begun-few : (o : Option Level) (n : ℕ) → at_board o (n + 1) n ≤ n + 1
begun-few none n = omega arith
begun-few (some stack) n = omega arith
begun-few (some strip) n = omega arith
begun-few (some board) n = omega arith

-- the board of a line that is lent is of a size of the job
pub next-sized : {job ws : List ℕ} {n : ℕ} → LentLines job ws n → (c : ℕ) {z y : ℕ} → c < n → z < get_or job 2 0 → y ≡ at_board (begun (drop c (rows_of ws))) (size_named (drop c (rows_of ws))) z → y < get_or job 2 0
next-sized {job} {ws} {n} l c {z} {y} h k e = rw e (go (begun (drop c (rows_of ws))))
  where
    named : size_named (drop c (rows_of ws)) < get_or job 2 0
    named = rw (rows-from ws n c l.whole h) (l.sized c h)

    go : (o : Option Level) → at_board o (size_named (drop c (rows_of ws))) z < get_or job 2 0
    go none = k
    go (some stack) = k
    go (some strip) = k
    go (some board) = named

-- what is counted next, by what the line begins
pub with-board :
    (job : Job) (rs : List Placement) (at : Boards) (o : Option Level) {next : Boards}
    → o ≡ begun rs
    → next.number ≡ at_board o (at.number + 1) at.number
    → next.cost ≡ at_board o (at.cost + cost_at job at.size.0) at.cost
    → next.size.0 ≡ at_board o (size_named rs) at.size.0
    → WithBoard job rs at next
with-board job rs at o e a b c = record { number-next = rw (← e) a; cost-next = rw (← e) b; size-next = rw (← e) c }
