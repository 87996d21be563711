-- A two-stage strip in folding's order: its items by falling height, a stack each; what the stage rule says of a strip.
use Prim.Native.Nat.{ℕ}
use native.Mathlib.Omega.{arith}
use mathlib.Core.Path.{◌≡◌, refl, sym, ap, ◌∙◌}
use mathlib.Core.Logic.{inl, inr}
use mathlib.Core.Bool.{true, false}
use mathlib.Core.List.{List, [], ◌∷◌, map, flat_map}
use Rattle.job.specs.Lists.{any, all}
use Rattle.job.specs.Mode.{three}
use Rattle.job.specs.Job.{Job}
use Rattle.job.proofs.Tests.{and_left}
use Rattle.job.proofs.Sums.{gap_sum-one}
use Rattle.listing.specs.Listing.{Listing, cut_at}
use Rattle.layouts.specs.Layout.{Stack, Strip, height_of, stack_height, strip_height, single, full_stack, stage_rule}
use Rattle.layouts.specs.Placement.{items_of_strip}
use Rattle.layouts.specs.Rules.{Filled}
use Rattle.layouts.specs.Fold.{insert_by, falling, ordered, cut_of, stack_cuts, strip_cuts}
use Rattle.layouts.proofs.lists.Sort.{Inserted, insert-order, filled-falling}
use Rattle.layouts.proofs.patterns.Order.{ordered-two}
use Rattle.fold_counts.specs.Key.{key_of}
use Rattle.fold_counts.specs.Chain.{chain_cuts, chain_rest}
use Rattle.fold_counts.specs.Strip.{strip_begun, strip_above}

-- the stage rule: in two stages each stack is one item, in three some stack is a single item of the strip's height
module _ (job : Job) (s : Strip) (rule : stage_rule job s ≡ true) where
  pub rule-two : three job.mode ≡ false → all single s ≡ true
  unfolding stage_rule
  rule-two t = and_left (all single s) _ (rw t at rule)

  pub rule-three : three job.mode ≡ true → any (full_stack job (strip_height job s)) s ≡ true
  unfolding stage_rule
  rule-three t = and_left (any (full_stack job (strip_height job s)) s) _ (rw t at rule)

-- a sort of images is the images of a sort
module _ {A B : Type 0} (f : A → B) (key : B → ℕ) (key' : A → ℕ) (same : (a : A) → key (f a) ≡ key' a) where
  insert-map : (a : A) (as' : List A) → insert_by key (f a) (map f as') ≡ map f (insert_by key' a as')
  unfolding insert_by
  insert-map a [] = refl
  insert-map a (b ∷ as') = go (insert-order key (f a) (f b) (map f as')) (insert-order key' a b as') (insert-map a as')
    where
      go : Inserted key (f a) (f b) (map f as') → Inserted key' a b as' → insert_by key (f a) (map f as') ≡ map f (insert_by key' a as') → insert_by key (f a) (f b ∷ map f as') ≡ map f (insert_by key' a (b ∷ as'))
      go (inl o) (inl p) rec = o.1 ∙ ap (λ (bs : List B). f b ∷ bs) rec ∙ ap (map f) (sym p.1)
      go (inl o) (inr p) rec = absurd (omega (arith, o.0, p.0, same a, same b))
      go (inr o) (inl p) rec = absurd (omega (arith, o.0, p.0, same a, same b))
      go (inr o) (inr p) rec = o.1 ∙ ap (map f) (sym p.1)

  falling-map : (as' : List A) → falling key (map f as') ≡ map f (falling key' as')
  unfolding falling
  falling-map [] = refl
  falling-map (a ∷ as') = ap (insert_by key (f a)) (falling-map as') ∙ insert-map a (falling key' as')

-- a stack of one item
abbrev alone : ℕ → Stack
alone i = i ∷ []

singles : (s : Strip) → all single s ≡ true → s ≡ map alone (items_of_strip s)
unfolding single items_of_strip flat_map all
singles [] e = refl
singles ([] ∷ s) e = absurd (mathlib.Core.Bool.false≢true e)
singles ((i ∷ []) ∷ s) e = ap (λ (ks : Strip). (i ∷ []) ∷ ks) (singles s e)
singles ((i ∷ i' ∷ is) ∷ s) e = absurd (mathlib.Core.Bool.false≢true e)

alone-high : (job : Job) (i : ℕ) → stack_height job (alone i) ≡ key_of job false i
unfolding stack_height
alone-high job i = gap_sum-one job.blade (height_of job) i

two-ordered : (job : Job) (s : Strip) → three job.mode ≡ false → all single s ≡ true → ordered job s ≡ map alone (falling (key_of job false) (items_of_strip s))
two-ordered job s t e =
    ordered-two job s t ∙ ap (falling (stack_height job)) (singles s e) ∙ falling-map alone (stack_height job) (key_of job false) (alone-high job) (items_of_strip s)

module _ (l : Listing) where
  strip-alone : (j : ℕ) (xs : List ℕ) → strip_cuts l j (map alone xs) ≡ chain_cuts l false j xs
  unfolding strip_cuts stack_cuts chain_cuts
  strip-alone j [] = refl
  strip-alone j (i ∷ is) = ap (λ (ks : List ℕ). cut_of l j i ∷ ks) (strip-alone (cut_at l (cut_of l j i)).right is)

  begun-alone : (j : ℕ) (xs : List ℕ) → strip_begun l j (map alone xs) ≡ chain_cuts l false j xs
  unfolding strip_begun chain_cuts
  begun-alone j [] = refl
  begun-alone j (i ∷ is) = ap (λ (ks : List ℕ). cut_of l j i ∷ ks) (strip-alone (cut_at l (cut_of l j i)).right is)

  above-alone : (j : ℕ) (xs : List ℕ) → Filled xs → strip_above l j (map alone xs) ≡ chain_rest l false j xs
  unfolding strip_above chain_rest
  above-alone j [] f = absurd f
  above-alone j (i ∷ is) f = refl

  -- a two-stage strip is a run of its items by falling height
  module _ (job : Job) (s : Strip) (rule : stage_rule job s ≡ true) (t : three job.mode ≡ false) (j : ℕ) {xs : List ℕ} (e : xs ≡ items_of_strip s) where
    pub two-cuts : chain_cuts l false j (falling (key_of job false) xs) ≡ strip_begun l j (ordered job s)
    two-cuts = rw (two-ordered job s t (rule-two job s rule t), e) (sym (begun-alone j (falling (key_of job false) (items_of_strip s))))

    pub two-above : Filled (items_of_strip s) → chain_rest l false j (falling (key_of job false) xs) ≡ strip_above l j (ordered job s)
    two-above f = rw (two-ordered job s t (rule-two job s rule t), e) (sym (above-alone j (falling (key_of job false) (items_of_strip s)) (filled-falling (key_of job false) (items_of_strip s) f)))
