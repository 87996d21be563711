-- What a line begins, and the size that it names, by its words, as the code tests them.
use mathlib.Core.Path.{◌≡◌, sym, ap, ◌∙◌}
use Prim.Native.Nat.{ℕ, ◌*◌, ◌≤◌, ◌<◌}
use mathlib.Core.Logic.{◌⊎◌, inl, inr}
use mathlib.Core.Bool.{Bool, true, false, cond}
use mathlib.Core.List.{List}
use mathlib.Core.Option.{Option, none, some}
use borrow.Author.Tests.{ne_eqb, eq-eqb}
use lib.ListN.{length, get_or, drop}
use Rattle.job.specs.Sizes.{words_of_placement}
use Rattle.job.proofs.Tests.{not-both, at-most-or-above}
use Rattle.layouts.specs.Placement.{Placement}
use Rattle.layouts.specs.Lines.{Level, stack, strip, board, level_of, begun, rows_of}
use Rattle.layouts_strips.specs.Begun.{begins_strip}
use Rattle.layouts_strips.specs.First.{size_named, strip_plate}
use Rattle.layouts_strips.specs.Measures.{LentLines}
use Rattle.placement.specs.PlacementRead.{placement_at}
use Rattle.placement.proofs.Rows.{rows-from, rows_end}

-- past the last line
pub begun-past : (ws : List ℕ) (n c : ℕ) → length ws ≡ words_of_placement * n → n ≤ c → some board ≡ begun (drop c (rows_of ws))
unfolding begun
begun-past ws n c e h = rw (rows_end ws n c e h)

-- at a line
begun-line : (ws : List ℕ) (n c : ℕ) → length ws ≡ words_of_placement * n → c < n → begun (drop c (rows_of ws)) ≡ level_of (placement_at ws c).turn
unfolding begun
begun-line ws n c e h = rw (rows-from ws n c e h)

module _ (ws : List ℕ) (n c : ℕ) (e : length ws ≡ words_of_placement * n) (h : c < n) {r : Placement} (read : r ≡ placement_at ws c) where
  line-begun : begun (drop c (rows_of ws)) ≡ level_of r.turn
  line-begun = begun-line ws n c e h ∙ rw read

  pub begun-place : (r.turn.place ≡ 1 → ⊥) → none ≡ begun (drop c (rows_of ws))
  unfolding level_of
  begun-place p = sym (line-begun ∙ rw (ne_eqb _ _ p, level_of))

  pub begun-stack : r.turn.place ≡ 1 → (r.turn.stack ≡ 1 → ⊥) → some stack ≡ begun (drop c (rows_of ws))
  unfolding level_of
  begun-stack p q = sym (line-begun ∙ rw (eq-eqb _ _ p, level_of, ne_eqb _ _ q))

  pub begun-strip : r.turn.place ≡ 1 → r.turn.stack ≡ 1 → (r.turn.strip ≡ 1 → ⊥) → some strip ≡ begun (drop c (rows_of ws))
  unfolding level_of
  begun-strip p q s = sym (line-begun ∙ rw (eq-eqb _ _ p, level_of, eq-eqb _ _ q, ne_eqb _ _ s))

  pub begun-board : r.turn.place ≡ 1 → r.turn.stack ≡ 1 → r.turn.strip ≡ 1 → some board ≡ begun (drop c (rows_of ws))
  unfolding level_of
  begun-board p q s = sym (line-begun ∙ rw (eq-eqb _ _ p, level_of, eq-eqb _ _ q, eq-eqb _ _ s))

-- a line that goes on, or begins less than a board, is there
pub line-inside : (test : Option Level → Bool) (ws : List ℕ) (n c : ℕ) {b : Bool} → test (some board) ≡ false → length ws ≡ words_of_placement * n → b ≡ test (begun (drop c (rows_of ws))) → b ≡ true → c < n
line-inside test ws n c f e t u = go (at-most-or-above n c)
  where
    go : (n ≤ c) ⊎ (c < n) → c < n
    go (inl h) = absurd (not-both u (t ∙ ap test (sym (begun-past ws n c e h)) ∙ f))
    go (inr h) = h

-- request Six: the size that a line names, and none past the last line
pub size-past : (ws : List ℕ) (n c : ℕ) → length ws ≡ words_of_placement * n → n ≤ c → 0 ≡ size_named (drop c (rows_of ws))
size-past ws n c e h = rw (rows_end ws n c e h)

pub size-line : (ws : List ℕ) (n c : ℕ) → length ws ≡ words_of_placement * n → c < n → {r : Placement} → r ≡ placement_at ws c → r.turn.board.size ≡ size_named (drop c (rows_of ws))
size-line ws n c e h i = rw (rows-from ws n c e h, i)

-- the plate type of a strip, as the code tests what its first line begins
pub plate-same : (rs : List Placement) (j : ℕ) {b : Bool} → b ≡ begins_strip (begun rs) → b ≡ true → j ≡ strip_plate rs j
plate-same rs j t u = rw (← t, u)

pub plate-named : (rs : List Placement) (j : ℕ) {b : Bool} {z : ℕ} → b ≡ begins_strip (begun rs) → b ≡ false → z ≡ size_named rs → z ≡ strip_plate rs j
plate-named rs j t u e = rw (← t, u) e

-- at a line that is lent it is a size where the given one is
pub plate-sized : {job ws : List ℕ} {n : ℕ} → LentLines job ws n → (c j : ℕ) → c < n → j < get_or job 2 0 → strip_plate (drop c (rows_of ws)) j < get_or job 2 0
plate-sized {job} {ws} {n} l c j h z = go (begins_strip (begun (drop c (rows_of ws))))
  where
    named : size_named (drop c (rows_of ws)) < get_or job 2 0
    named = rw (rows-from ws n c l.whole h) (l.sized c h)

    go : (b : Bool) → cond b j (size_named (drop c (rows_of ws))) < get_or job 2 0
    go true = z
    go false = named

pub first-sized : {job ws : List ℕ} {n : ℕ} → LentLines job ws n → 0 < n → size_named (rows_of ws) < get_or job 2 0
first-sized {job} {ws} {n} l h = rw (rows-from ws n 0 l.whole h) (l.sized 0 h)
