-- Folding's order keeps the items of a strip; the layout of a cut pattern is in that order already, and gives the pattern back.
use Prim.Native.Nat.{ℕ, ◌-◌, ◌≤◌}
use native.Mathlib.Omega.{arith}
use mathlib.Core.Path.{◌≡◌, refl, sym, ap, ap₂, ◌∙◌}
use mathlib.Core.Bool.{Bool, true, false}
use mathlib.Core.List.{[], ◌∷◌, map}
use Rattle.job.specs.Lists.{sum_of}
use Rattle.job.specs.Mode.{three}
use Rattle.job.specs.Job.{Job}
use Rattle.job.specs.Admitted.{Sided}
use Rattle.job.proofs.Sums.{sum_of-map, sum_of-same, sum_of-parts}
use Rattle.listing.specs.Plate.{plate}
use Rattle.layouts.specs.Layout.{Stack, Strip, Board, width_of, height_of, stack_height, strip_height, full_stack}
use Rattle.layouts.specs.Placement.{items_of_strip, items_of_board}
use Rattle.layouts.specs.Rules.{Every, Filled}
use Rattle.layouts.specs.Fold.{falling, to_front, ordered}
use Rattle.layouts.proofs.lists.Every.{every_map, every-of-map}
use Rattle.layouts.specs.Exact.{Falling}
use Rattle.layouts.proofs.lists.Sort.{every-falling, sum-falling, filled-falling, falling-same, every_front, sum-front, front_same}
use Rattle.layouts.proofs.rules.RulesExact.{full-exact}
use Rattle.layouts.proofs.trees.Tree.{Tree, leaf, node}
use Rattle.layouts.proofs.trees.Pattern.{Pattern, strip_of, board_of}
use Rattle.layouts.proofs.patterns.PatternSteps.{cut-1}
use Rattle.layouts.proofs.patterns.PatternRules.{Beside, single-high, strip-high, beside}

-- the items of a strip, of a board, by their sums
pub strip-sum : (f : ℕ → ℕ) (s : Strip) → sum_of f (items_of_strip s) ≡ sum_of (λ k. sum_of f k) s
unfolding items_of_strip
strip-sum f s = sum_of-parts f (λ k. k) s

pub board-sum : (f : ℕ → ℕ) (b : Board) → sum_of f (items_of_board b) ≡ sum_of (λ s. sum_of f (items_of_strip s)) b
unfolding items_of_board
board-sum f b = sum_of-parts f items_of_strip b

module _ (job : Job) where
  -- folding's order, by the mode
  pub ordered-three :
      (s : Strip)
      → three job.mode ≡ true
      → ordered job s ≡ to_front (full_stack job (strip_height job s)) (map (falling (width_of job)) s)
  unfolding ordered
  ordered-three s t = rw t refl

  pub ordered-two : (s : Strip) → three job.mode ≡ false → ordered job s ≡ falling (stack_height job) s
  unfolding ordered
  ordered-two s t = rw t refl

  -- every sum over the items of a strip is kept, and with it the items of a board
  ordered-sum : (f : ℕ → ℕ) (s : Strip) → sum_of (λ k. sum_of f k) (ordered job s) ≡ sum_of (λ k. sum_of f k) s
  ordered-sum f s = go (three job.mode) refl
    where
      go : (t : Bool) → three job.mode ≡ t → sum_of (λ k. sum_of f k) (ordered job s) ≡ sum_of (λ k. sum_of f k) s
      go true t =
          rw (ordered-three s t)
          (sum-front (full_stack job (strip_height job s)) (λ k. sum_of f k) (map (falling (width_of job)) s)
          ∙ sum_of-map (λ k. sum_of f k) (falling (width_of job)) s
          ∙ sum_of-same (λ k. sum_of f (falling (width_of job) k)) (λ k. sum_of f k) s (sum-falling (width_of job) f))
      go false t = rw (ordered-two s t) (sum-falling (stack_height job) (λ k. sum_of f k) s)

  pub ordered-strip-sum : (f : ℕ → ℕ) (s : Strip) → sum_of f (items_of_strip (ordered job s)) ≡ sum_of f (items_of_strip s)
  ordered-strip-sum f s = strip-sum f (ordered job s) ∙ ordered-sum f s ∙ sym (strip-sum f s)

  pub ordered-board-sum : (f : ℕ → ℕ) (b : Board) → sum_of f (items_of_board (map (ordered job) b)) ≡ sum_of f (items_of_board b)
  ordered-board-sum f b =
      board-sum f (map (ordered job) b)
      ∙ sum_of-map (λ s. sum_of f (items_of_strip s)) (ordered job) b
      ∙ sum_of-same (λ s. sum_of f (items_of_strip (ordered job s))) (λ s. sum_of f (items_of_strip s)) b (ordered-strip-sum f)
      ∙ sym (board-sum f b)

  -- no stack becomes empty
  pub ordered-filled : (s : Strip) → Every Filled s → Every Filled (ordered job s)
  ordered-filled s h = go (three job.mode) refl
    where
      go : (t : Bool) → three job.mode ≡ t → Every Filled (ordered job s)
      go true t =
          rw (ordered-three s t)
          (every_front (full_stack job (strip_height job s)) Filled (map (falling (width_of job)) s)
          (every-of-map Filled (falling (width_of job)) s (every_map (λ k (q : Filled k). filled-falling (width_of job) k q) s h)))
      go false t = rw (ordered-two s t) (every-falling (stack_height job) Filled s h)

  -- stacks that fall are left as they are
  same-stacks : (s : Strip) → Every (Falling (width_of job)) s → map (falling (width_of job)) s ≡ s
  same-stacks [] h = refl
  same-stacks (k ∷ s) h = ap₂ (λ (a : Stack) (b : Strip). a ∷ b) (falling-same (width_of job) k h.0) (same-stacks s h.1)

  module _ (sided : Sided job) where
    -- a strip that a stage 1 cut begins is in order
    ordered-strip :
        (w i : ℕ) (a : Tree)
        → Beside job (w - width_of job i) (height_of job i) (strip_of a)
        → ordered job ((i ∷ []) ∷ strip_of a) ≡ (i ∷ []) ∷ strip_of a
    ordered-strip w i a u = go (three job.mode) refl
      where
        s : Strip
        s = (i ∷ []) ∷ strip_of a

        go : (t : Bool) → three job.mode ≡ t → ordered job ((i ∷ []) ∷ strip_of a) ≡ (i ∷ []) ∷ strip_of a
        go true t =
            ordered-three s t
            ∙ ap (to_front (full_stack job (strip_height job s))) (same-stacks s ((tt, tt), u.falls))
            ∙ front_same (full_stack job (strip_height job s)) (i ∷ []) (strip_of a)
            ((full-exact job (strip_height job s) (i ∷ [])).1 (refl, single-high job i ∙ sym (strip-high job w i a u)))
        go false t =
            ordered-two s t
            ∙ falling-same (stack_height job) s (
              every_map (λ k (q : stack_height job k ≤ height_of job i). omega (arith, single-high job i)) (strip_of a) u.low,
              u.order t,
            )

    -- the layout of a pattern is in order
    pub ordered-pattern : (w h : ℕ) (x : Tree) → Pattern job (plate w h 1) x → map (ordered job) (board_of x) ≡ board_of x
    ordered-pattern w h leaf p = refl
    ordered-pattern w h (node i a b) p =
        let q = (cut-1 job w h i a b).0 p in
        ap₂ (λ (s : Strip) (r : Board). s ∷ r)
        (ordered-strip w i a (beside job sided (w - width_of job i) (height_of job i) a q.1))
        (ordered-pattern w (h - height_of job i - job.blade) b q.2)
