-- The stacks of a three-stage strip: the one that comes to the front, and the others.
use Prim.Native.Nat.{ℕ, ◌+◌}
use mathlib.Core.Path.{◌≡◌, refl, sym, ap, ◌∙◌}
use mathlib.Core.Bool.{Bool, true, false, cond, ◌&&◌}
use mathlib.Core.List.{List, [], ◌∷◌, ◌++◌, map}
use lib.Dec.{eqb}
use Rattle.job.specs.Lists.{gap_sum}
use Rattle.job.specs.Job.{Job}
use Rattle.listing.specs.Listing.{Listing, cut_at}
use Rattle.layouts.specs.Layout.{Stack, Strip, width_of, height_of, stack_height, single, full_stack}
use Rattle.layouts.specs.Rules.{Filled}
use Rattle.layouts.specs.Fold.{insert_by, falling, first_of, without, to_front, cut_of, stack_cuts, strip_cuts}
use Rattle.layouts.proofs.lists.Sort.{length-falling, sum-falling, filled-falling}
use Rattle.layouts_strips.specs.declared.stack.StackMeasure.{StackMeasure}
use Rattle.layouts_strips.specs.Measures.{StackIs}
use Rattle.layouts_strips.proofs.CodeStaged.{single-length}
use Rattle.fold_counts.specs.Chain.{chain_cuts, chain_rest}
use Rattle.fold_counts.specs.Strip.{strip_begun, strip_above, others, turn_cuts, turn_next}

module _ (job : Job) (h : ℕ) where
  -- the test by the measures of a stack
  pub measured-full : (p : ℕ) (k : Stack) (m : StackMeasure) {t : Bool} → StackIs job p k m → t ≡ (eqb m.end (p + 1) && eqb m.height h) → t ≡ full_stack job h k
  unfolding full_stack
  measured-full p k m s e = e ∙ rw (s.ended, s.high) (ap (λ (u : Bool). u && eqb (stack_height job k) h) (single-length p k))

  -- ordering a stack keeps it
  full-falling : (k : Stack) → full_stack job h (falling (width_of job) k) ≡ full_stack job h k
  unfolding full_stack stack_height gap_sum
  full-falling k =
      rw (← single-length 0 (falling (width_of job) k), length-falling (width_of job) k, single-length 0 k, sum-falling (width_of job) (λ i. height_of job i + job.blade) k)

  -- a full stack has no further item
  pub full-one : (i : ℕ) (is : Stack) → full_stack job h (i ∷ is) ≡ true → is ≡ []
  unfolding full_stack single
  full-one i [] e = refl
  full-one i (x ∷ is) e = absurd (mathlib.Core.Bool.false≢true e)

  -- the first full stack: here, or among those that are left
  pub front-here : (k : Stack) (s : Strip) → full_stack job h k ≡ true → first_of (full_stack job h) (k ∷ s) ≡ k ∷ []
  unfolding first_of
  front-here k s e = rw (e, first_of)

  pub front-next : (k : Stack) (s : Strip) → full_stack job h k ≡ false → first_of (full_stack job h) (k ∷ s) ≡ first_of (full_stack job h) s
  unfolding first_of
  front-next k s e = rw (e, first_of)

  -- ordering the stacks keeps which is first

  first-sorted : (s : Strip) → first_of (full_stack job h) (map (falling (width_of job)) s) ≡ map (falling (width_of job)) (first_of (full_stack job h) s)
  unfolding first_of
  first-sorted [] = refl
  first-sorted (k ∷ s) = go (full_stack job h k) refl (first-sorted s)
    where
      go : (t : Bool) → full_stack job h k ≡ t → first_of (full_stack job h) (map (falling (width_of job)) s) ≡ map (falling (width_of job)) (first_of (full_stack job h) s) → first_of (full_stack job h) (map (falling (width_of job)) (k ∷ s)) ≡ map (falling (width_of job)) (first_of (full_stack job h) (k ∷ s))
      go true e rec = front-here (falling (width_of job) k) (map (falling (width_of job)) s) (full-falling k ∙ e) ∙ ap (map (falling (width_of job))) (sym (front-here k s e))
      go false e rec = front-next (falling (width_of job) k) (map (falling (width_of job)) s) (full-falling k ∙ e) ∙ rec ∙ ap (map (falling (width_of job))) (sym (front-next k s e))

  one-sorted : (i : ℕ) → map (falling (width_of job)) ((i ∷ []) ∷ []) ≡ (i ∷ []) ∷ []
  unfolding falling insert_by
  one-sorted i = refl

  -- a strip in folding's order: the item of the first full stack, and then the others
  pub front-others : (s : Strip) (i : ℕ) → first_of (full_stack job h) s ≡ (i ∷ []) ∷ [] → to_front (full_stack job h) (map (falling (width_of job)) s) ≡ (i ∷ []) ∷ others job h false s
  unfolding to_front
  front-others s i e =
      ap (λ (x : Strip). x ++ without (full_stack job h) (map (falling (width_of job)) s)) (first-sorted s ∙ ap (map (falling (width_of job))) e ∙ one-sorted i)

  -- the others, one stack after another
  module _ (k : Stack) (s : Strip) where
    others-front : full_stack job h k ≡ true → others job h false (k ∷ s) ≡ others job h true s
    unfolding without
    others-front e = rw (full-falling k, e, without)

    others-further : (passed : Bool) → (passed ≡ false → full_stack job h k ≡ false) → others job h passed (k ∷ s) ≡ falling (width_of job) k ∷ others job h passed s
    unfolding without
    others-further true e = refl
    others-further false e = rw (full-falling k, e refl, without)

  module _ (l : Listing) where
    -- the cuts of a stack are a run from the top
    stack-chain : (j : ℕ) (xs : Stack) → stack_cuts l j xs ≡ chain_cuts l true j xs
    unfolding stack_cuts chain_cuts
    stack-chain j [] = refl
    stack-chain j (i ∷ is) = ap (λ (ks : List ℕ). cut_of l j i ∷ ks) (stack-chain (cut_at l (cut_of l j i)).top is)

    strip-chain : (j : ℕ) (xs : Stack) (s : Strip) → Filled xs → strip_cuts l j (xs ∷ s) ≡ chain_cuts l true j xs ++ strip_cuts l (chain_rest l true j xs) s
    unfolding strip_cuts chain_cuts chain_rest
    strip-chain j [] s f = absurd f
    strip-chain j (i ∷ is) s f = ap (λ (ks : List ℕ). cut_of l j i ∷ ks ++ strip_cuts l (cut_at l (cut_of l j i)).right s) (stack-chain (cut_at l (cut_of l j i)).top is)

    -- a turn of the loop over the stacks
    pub others-turn : (j : ℕ) (k : Stack) (s : Strip) (passed front : Bool) → Filled k → front ≡ cond passed false (full_stack job h k) → strip_cuts l j (others job h passed (k ∷ s)) ≡ turn_cuts l front j (falling (width_of job) k) ++ strip_cuts l (turn_next l front j (falling (width_of job) k)) (others job h (cond front true passed) s)
    others-turn j k s true true f e = absurd (mathlib.Core.Bool.false≢true (sym e))
    others-turn j k s true false f e = rw (others-further k s true (λ z. absurd (mathlib.Core.Bool.false≢true (sym z)))) (strip-chain j (falling (width_of job) k) (others job h true s) (filled-falling (width_of job) k f))
    others-turn j k s false true f e = rw (others-front k s (sym e)) refl
    others-turn j k s false false f e = rw (others-further k s false (λ z. sym e)) (strip-chain j (falling (width_of job) k) (others job h false s) (filled-falling (width_of job) k f))

    -- a strip whose first stack is one item
    pub begun-one : (j i : ℕ) (s : Strip) → strip_begun l j ((i ∷ []) ∷ s) ≡ cut_of l j i ∷ strip_cuts l (cut_at l (cut_of l j i)).right s
    unfolding strip_begun
    begun-one j i s = refl

    pub above-one : (j i : ℕ) (s : Strip) → strip_above l j ((i ∷ []) ∷ s) ≡ (cut_at l (cut_of l j i)).top
    unfolding strip_above
    above-one j i s = refl
