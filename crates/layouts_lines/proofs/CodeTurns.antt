-- Lines in turn, on plain values: what is left to look at from the line behind c others on is the whole.
use mathlib.Core.Path.{◌≡◌, sym, ap, ◌∙◌}
use Prim.Native.Nat.{ℕ, suc, ◌+◌, ◌*◌, ◌-◌, ◌≤◌, ◌<◌}
use mathlib.Core.Bool.{Bool, true, false, cond, not}
use mathlib.Core.List.{List, [], ◌∷◌}
use native.Mathlib.Omega.{arith}
use borrow.Author.Tests.{not-true, not-false}
use lib.ListN.{length, drop}
use Rattle.job.specs.Sizes.{words_of_placement}
use Rattle.job.specs.Verdict.{Verdict, pass, refuse}
use Rattle.layouts.specs.Placement.{opened, Turn, turn, Placement}
use Rattle.layouts.specs.Lines.{rows_of, same_turn, follows, in_turn, turns}
use Rattle.placement.specs.PlacementRead.{placement_at}
use Rattle.placement.proofs.Rows.{rows-from, rows_end}

-- what the first line is, 1, 1, 1, 1, of its own size
abbrev pub first_turn : Placement → Turn
first_turn r = turn (opened 1 r.turn.board.size) 1 1 1

-- what a test says of lines that were read it says of the lines that they are
pub first_read : {f : Bool} {r r' : Placement} → f ≡ same_turn r.turn (first_turn r) → r ≡ r' → f ≡ same_turn r'.turn (first_turn r')
first_read e i = rw (← i) e

pub next-read : {f : Bool} {r s r' s' : Placement} → f ≡ follows r.turn s.turn → r ≡ r' → s ≡ s' → f ≡ follows r'.turn s'.turn
next-read e i j = rw (← i, ← j) e

-- the first line, and a further one
turns-cons : (k : ℕ) (r : Placement) (rs : List Placement) (t : Bool) → same_turn r.turn (first_turn r) ≡ t → turns k (r ∷ rs) ≡ cond t (in_turn (suc k) r.turn rs) (refuse 15 k)
unfolding turns
turns-cons k r rs true e = rw (e, turns)
turns-cons k r rs false e = rw (e, turns)

in_turn-cons : (k : ℕ) (u : Turn) (r : Placement) (rs : List Placement) (t : Bool) → follows u r.turn ≡ t → in_turn k u (r ∷ rs) ≡ cond t (in_turn (suc k) r.turn rs) (refuse 15 k)
unfolding in_turn
in_turn-cons k u r rs true e = rw (e, in_turn)
in_turn-cons k u r rs false e = rw (e, in_turn)

module _ (ws : List ℕ) (lines k : ℕ) (whole : length ws ≡ words_of_placement * lines) where
  -- no lines run in turn
  pub turns-none : lines ≡ 0 → pass ≡ turns k (rows_of ws)
  unfolding turns
  turns-none e = let z : rows_of ws ≡ [] = rows_end ws lines 0 whole (omega arith) in rw z

  module _ (some : 0 < lines) where
    first : (t : Bool) → same_turn (placement_at ws 0).turn (first_turn (placement_at ws 0)) ≡ t → turns k (rows_of ws) ≡ cond t (in_turn (suc k) (placement_at ws 0).turn (drop 1 (rows_of ws))) (refuse 15 k)
    first t e = let z : rows_of ws ≡ placement_at ws 0 ∷ drop 1 (rows_of ws) = rows-from ws lines 0 whole some in ap (turns k) z ∙ turns-cons k (placement_at ws 0) (drop 1 (rows_of ws)) t e

    -- the first line is 1, 1, 1, 1, or is refused
    pub first-refused : {f : Bool} → f ≡ same_turn (placement_at ws 0).turn (first_turn (placement_at ws 0)) → not f ≡ true → refuse 15 k ≡ turns k (rows_of ws)
    first-refused e t = sym (first false (sym e ∙ not-true _ t))

    pub first-passed : {f : Bool} → f ≡ same_turn (placement_at ws 0).turn (first_turn (placement_at ws 0)) → not f ≡ false → turns k (rows_of ws) ≡ in_turn (k + 1) (placement_at ws (1 - 1)).turn (drop 1 (rows_of ws))
    first-passed e t = let z : k + 1 ≡ suc k = omega arith in rw z (first true (sym e ∙ not-false _ t))

  module _ (c : ℕ) {v : Verdict} (w : v ≡ in_turn (k + c) (placement_at ws (c - 1)).turn (drop c (rows_of ws))) where
    -- past the last line
    pub turns-end : lines ≤ c → pass ≡ v
    unfolding in_turn
    turns-end h = sym (w ∙ rw (rows_end ws lines c whole h))

    module _ (h : c < lines) where
      next : (t : Bool) → follows (placement_at ws (c - 1)).turn (placement_at ws c).turn ≡ t → v ≡ cond t (in_turn (suc (k + c)) (placement_at ws c).turn (drop (c + 1) (rows_of ws))) (refuse 15 (k + c))
      next t e = w ∙ ap (in_turn (k + c) (placement_at ws (c - 1)).turn) (rows-from ws lines c whole h) ∙ in_turn-cons (k + c) (placement_at ws (c - 1)).turn (placement_at ws c) (drop (c + 1) (rows_of ws)) t e

      -- a line is the next in turn after the one before it, or is refused
      pub turn-refused : {f : Bool} → f ≡ follows (placement_at ws (c - 1)).turn (placement_at ws c).turn → not f ≡ true → refuse 15 (k + c) ≡ v
      turn-refused e t = sym (next false (sym e ∙ not-true _ t))

      pub turn-passed : {f : Bool} → f ≡ follows (placement_at ws (c - 1)).turn (placement_at ws c).turn → not f ≡ false → v ≡ in_turn (k + (c + 1)) (placement_at ws (c + 1 - 1)).turn (drop (c + 1) (rows_of ws))
      turn-passed e t =
          let a : k + (c + 1) ≡ suc (k + c) = omega arith in
          let b : c + 1 - 1 ≡ c = omega arith in
          rw (a, b) (next true (sym e ∙ not-false _ t))
