-- Strips in the form that a stage 1 cut begins: the cut pattern of such strips cuts nothing short.
use Prim.Native.Nat.{ℕ}
use native.Mathlib.Omega.{arith}
use mathlib.Core.Path.{◌≡◌, refl, sym, ap, ap₂, ◌∙◌}
use mathlib.Core.Logic.{◌≢◌}
use mathlib.Core.List.{[], ◌∷◌}
use Rattle.job.specs.Lists.{sum_of}
use Rattle.job.proofs.Sums.{sum_of-same}
use Rattle.layouts.specs.Layout.{Stack, Strip, Board}
use Rattle.layouts.specs.Placement.{items_of_strip, items_of_board}
use Rattle.layouts.specs.Rules.{Every, Filled}
use Rattle.layouts.proofs.trees.Tree.{leaf, tsum}
use Rattle.layouts.proofs.trees.Pattern.{stack_of, strip_of, board_of, stack_tree, strip_tree, board_tree}
use Rattle.layouts.proofs.patterns.Order.{strip-sum, board-sum}

-- a strip in the form that a stage 1 cut begins: a single item first, and no empty stack beside it
abbrev pub Formed : Strip → Type 0
Formed [] = ⊥
Formed ([] ∷ ks) = ⊥
Formed ((i ∷ is) ∷ ks) = (is ≡ []) × Every Filled ks

-- the layout of the pattern of strips of that form: nothing is cut short
stack-back : (s : Stack) → stack_of (stack_tree s) ≡ s
stack-back [] = refl
stack-back (i ∷ s) = ap (λ (r : Stack). i ∷ r) (stack-back s)

strip-back : (s : Strip) → Every Filled s → strip_of (strip_tree s) ≡ s
strip-back [] h = refl
strip-back ([] ∷ s) h = absurd h.0
strip-back ((i ∷ k) ∷ s) h = ap₂ (λ (a : Stack) (b : Strip). (i ∷ a) ∷ b) (stack-back k) (strip-back s h.1)

pub formed-back : (b : Board) → Every Formed b → board_of (board_tree b) ≡ b
formed-back [] h = refl
formed-back ([] ∷ b) h = absurd h.0
formed-back (([] ∷ ks) ∷ b) h = absurd h.0
formed-back (((i ∷ is) ∷ ks) ∷ b) h =
    rw h.0.0 (ap₂ (λ (s : Strip) (r : Board). ((i ∷ []) ∷ s) ∷ r) (strip-back ks h.0.1) (formed-back b h.1))

-- and its items are the strips' items
module _ (f : ℕ → ℕ) where
  stack-total : (s : Stack) → tsum f (stack_tree s) ≡ sum_of f s
  unfolding sum_of
  stack-total [] = refl
  stack-total (i ∷ s) = omega (arith, stack-total s)

  strip-total : (s : Strip) → Every Filled s → tsum f (strip_tree s) ≡ sum_of (λ k. sum_of f k) s
  unfolding sum_of
  strip-total [] h = refl
  strip-total ([] ∷ s) h = absurd h.0
  strip-total ((i ∷ k) ∷ s) h = omega (arith, stack-total k, strip-total s h.1)

  board-total : (b : Board) → Every Formed b → tsum f (board_tree b) ≡ sum_of (λ s. sum_of (λ k. sum_of f k) s) b
  unfolding sum_of
  board-total [] h = refl
  board-total ([] ∷ b) h = absurd h.0
  board-total (([] ∷ ks) ∷ b) h = absurd h.0
  board-total (((i ∷ is) ∷ ks) ∷ b) h =
      let z : sum_of f is ≡ 0 = rw h.0.0 refl in omega (arith, strip-total ks h.0.1, board-total b h.1)

  pub formed-items : (b : Board) → Every Formed b → tsum f (board_tree b) ≡ sum_of f (items_of_board b)
  formed-items b h =
      board-total b h
      ∙ sum_of-same (λ s. sum_of (λ k. sum_of f k) s) (λ s. sum_of f (items_of_strip s)) b (λ s. sym (strip-sum f s))
      ∙ sym (board-sum f b)

-- it is not empty where they are not
pub formed-node : (b : Board) → Filled b → Every Formed b → board_tree b ≢ leaf
formed-node [] n q e = absurd n
formed-node ([] ∷ b) n q e = absurd q.0
formed-node (([] ∷ ks) ∷ b) n q e = absurd q.0
formed-node (((i ∷ is) ∷ ks) ∷ b) n q e = let z : ◌≡◌ {A = ℕ} 0 1 = cc in omega arith
