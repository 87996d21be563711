-- Document 01, "Unfolding": "for an accepted plan every count ends at 0". Of balanced counts every one is spent, by falling size of the plate types.
use Prim.Native.Nat.{ℕ, zero, suc, ◌+◌, ◌≤◌, ◌<◌}
use native.Mathlib.Omega.{arith}
use mathlib.Core.Path.{◌≡◌, refl, ◌∙◌, ap}
use mathlib.Core.Logic.{◌⊎◌, inl, inr, ◌≢◌}
use mathlib.Core.List.{List}
use lib.Dec.{eqb}
use lib.ListN.{length, get_or}
use Rattle.job.specs.Lists.{max_of}
use Rattle.job.specs.Job.{Job}
use Rattle.job.specs.Admitted.{Sided}
use Rattle.job.proofs.Tests.{at-most-or-above, equal_or_not}
use Rattle.job.proofs.Sums.{bit, bit-same, bit-diff, max_of-at}
use Rattle.listing.specs.Plate.{waste}
use Rattle.listing.specs.Listing.{Listing, plate_at, cut_at}
use Rattle.listing.specs.Model.{Model}
use Rattle.listing.proofs.Residuals.{sides}
use Rattle.plan.specs.Plan.{on_plate, leaves_plate}
use Rattle.plan.specs.Feasible.{Feasible, NonePast}
use Rattle.layouts.proofs.trees.Tree.{Tree, fsum}
use Rattle.layouts.proofs.trees.Pattern.{branch_of, rest_of}
use Rattle.layouts.proofs.trees.WeightedSums.{wsum, wsum-zero, wsum-none, wsum-at, weight, count_of-wsum}
use Rattle.layouts.proofs.trees.Cuts.{IsCut, size_of, cut-plate, leaves-once, branch-smaller, rest-smaller}
use Rattle.layouts.proofs.machine.Search.{on_sum, on-weight, not_found}
use Rattle.layouts.proofs.machine.Greedy.{Grows, grows-sum, grows-past, grows-ended, taken-all}

-- the counts of cuts that leave a plate type
abbrev pub left_sum : Listing → ℕ → List ℕ → ℕ
left_sum l k ns = wsum (weight (leaves_plate k) l) 1 ns

-- a cut weighs 1 on its own plate type
on-own : (l : Listing) (c : ℕ) → weight (on_plate (cut_at l c).plate) l c ≡ 1
unfolding on_plate
on-own l c = bit-same {a = (cut_at l c).plate} refl

module _ (job : Job) (l : Listing) (m : Model job l) where
  -- no plate type is larger than this
  abbrev largest : ℕ
  largest = max_of sides l.plates

  cut-size : (c : ℕ) → IsCut l c → size_of l (cut_at l c).plate ≤ largest
  unfolding plate_at
  cut-size c p = max_of-at sides l.plates (cut_at l c).plate waste (cut-plate job l m c p)

  -- numbers above the sizes are positive
  positive : (k : ℕ) → l.sizes ≤ k → 0 < k
  positive k p = omega (arith, m.some_size, m.sized)

  -- the counts of an accepted plan are balanced on every number above the sizes, also where there is no such plate type
  pub balanced : (ns : List ℕ) → NonePast l ns → Feasible job l ns → (k : ℕ) → l.sizes ≤ k → on_sum l k ns ≤ left_sum l k ns
  balanced ns past a k p = go (at-most-or-above (length l.plates) k)
    where
      go : (length l.plates ≤ k) ⊎ (k < length l.plates) → on_sum l k ns ≤ left_sum l k ns
      go (inr q) = omega (arith, a.covered k p q, count_of-wsum (on_plate k) l ns past, count_of-wsum (leaves_plate k) l ns past)
      go (inl q) = let z : on_sum l k ns ≡ 0 = wsum-none (weight (on_plate k) l) 1 ns at in omega arith
        where
          at : (c : ℕ) → 0 < weight (on_plate k) l (1 + c) → get_or ns c 0 ≡ 0
          at c h = cases (at-most-or-above (length l.cuts) c)
            where
              cases : (length l.cuts ≤ c) ⊎ (c < length l.cuts) → get_or ns c 0 ≡ 0
              cases (inl r) = past c r
              cases (inr r) = absurd (omega (arith, on-weight l k (1 + c) h, cut-plate job l m (1 + c) (omega arith, omega arith)))

  -- Every count is spent, whatever the order: F sums over the cuts that were done, from the counts ns, which left the counts ns'.
  module _ (sided : Sided job) (ns ns' : List ℕ) (past : NonePast l ns') (F : (ℕ → ℕ) → ℕ)
      (keep : (f : ℕ → ℕ) → wsum f 1 ns ≡ F f + wsum f 1 ns') (opened : (j : ℕ) → j < l.sizes → on_sum l j ns' ≡ 0)
      (took : (k : ℕ) → l.sizes ≤ k → 0 < on_sum l k ns' → F (weight (leaves_plate k) l) ≤ F (weight (on_plate k) l))
      (even : (k : ℕ) → l.sizes ≤ k → on_sum l k ns ≤ left_sum l k ns) where
    there : (c : ℕ) → on_sum l (cut_at l (1 + c)).plate ns' ≡ 0 → get_or ns' c 0 ≡ 0
    there c e = wsum-zero (weight (on_plate (cut_at l (1 + c)).plate) l) 1 ns' e c (omega (arith, on-own l (1 + c)))

    -- nothing is left of the cuts that leave k, if nothing is left on the larger plate types
    none_left : (k : ℕ) → l.sizes ≤ k → ((c : ℕ) → IsCut l c → size_of l k < size_of l (cut_at l c).plate → on_sum l (cut_at l c).plate ns' ≡ 0) → left_sum l k ns' ≡ 0
    none_left k p rec = wsum-none (weight (leaves_plate k) l) 1 ns' (λ c h. at c h (at-most-or-above (length l.cuts) c))
      where
        at : (c : ℕ) → 0 < weight (leaves_plate k) l (1 + c) → (length l.cuts ≤ c) ⊎ (c < length l.cuts) → get_or ns' c 0 ≡ 0
        at c h (inl q) = past c q
        at c h (inr q) = cases (omega arith, omega arith) (equal_or_not (branch_of l (1 + c)) k) (equal_or_not (rest_of l (1 + c)) k)
          where
            cases : IsCut l (1 + c) → (branch_of l (1 + c) ≡ k) ⊎ (branch_of l (1 + c) ≢ k) → (rest_of l (1 + c) ≡ k) ⊎ (rest_of l (1 + c) ≢ k) → get_or ns' c 0 ≡ 0
            cases i (inl e) d = there c (rec (1 + c) i (omega (arith, ap (size_of l) e, branch-smaller job l m sided (1 + c) i (omega (arith, positive k p)))))
            cases i (inr e) (inl d) = there c (rec (1 + c) i (omega (arith, ap (size_of l) d, rest-smaller job l m sided (1 + c) i (omega (arith, positive k p)))))
            cases i (inr e) (inr d) = absurd (omega (arith, leaves-once job l m k (positive k p) (1 + c) i, bit-diff e, bit-diff d))

    one_type : (k : ℕ) → l.sizes ≤ k → ((c : ℕ) → IsCut l c → size_of l k < size_of l (cut_at l c).plate → on_sum l (cut_at l c).plate ns' ≡ 0) → on_sum l k ns' ≡ 0
    one_type k p rec = go (equal_or_not (on_sum l k ns') 0)
      where
        go : (on_sum l k ns' ≡ 0) ⊎ (on_sum l k ns' ≢ 0) → on_sum l k ns' ≡ 0
        go (inl e) = e
        go (inr d) =
            omega (arith, none_left k p rec, even k p, keep (weight (on_plate k) l), keep (weight (leaves_plate k) l), took k p (omega arith))

    any-type : (k : ℕ) → ((c : ℕ) → IsCut l c → size_of l k < size_of l (cut_at l c).plate → on_sum l (cut_at l c).plate ns' ≡ 0) → on_sum l k ns' ≡ 0
    any-type k rec = go (at-most-or-above l.sizes k)
      where
        go : (l.sizes ≤ k) ⊎ (k < l.sizes) → on_sum l k ns' ≡ 0
        go (inl p) = one_type k p rec
        go (inr p) = opened k p

    type-spent : (n k : ℕ) → largest ≤ size_of l k + n → on_sum l k ns' ≡ 0
    type-spent zero k h = any-type k (λ c i s. absurd (omega (arith, cut-size c i)))
    type-spent (suc n) k h = any-type k (λ c i s. type-spent n (cut_at l c).plate (omega arith))

    -- every count ends at 0, and each cut was done as often as it was counted
    pub spends : (c : ℕ) → get_or ns' c 0 ≡ 0
    spends c = there c (type-spent largest (cut_at l (1 + c)).plate (omega arith))

    pub spends-sum : (f : ℕ → ℕ) → F f ≡ wsum f 1 ns
    spends-sum f = omega (arith, keep f, wsum-none f 1 ns' (λ c _. spends c))

  -- The unfolding of an accepted plan.
  module _ (sided : Sided job) (ns ns' : List ℕ) (ts : List Tree) (g : Grows l ns ts ns') (past : NonePast l ns) (a : Feasible job l ns) where
    past' : NonePast l ns'
    past' = grows-past l g past

    -- every count ends at 0
    pub all-spent : (c : ℕ) → get_or ns' c 0 ≡ 0
    all-spent =
        spends sided ns ns' past' (λ f. fsum f ts) (grows-sum l g) (λ j p. not_found l j ns' past' (grows-ended l g j p)) (λ k p h. taken-all job l m k (positive k p) g past h) (balanced ns past a)

    -- each cut is done as often as it is counted
    pub done-sum : (f : ℕ → ℕ) → fsum f ts ≡ wsum f 1 ns
    done-sum =
        spends-sum sided ns ns' past' (λ f. fsum f ts) (grows-sum l g) (λ j p. not_found l j ns' past' (grows-ended l g j p)) (λ k p h. taken-all job l m k (positive k p) g past h) (balanced ns past a)

    -- the cuts done of one number
    pub done-each : (c : ℕ) → fsum (λ d. bit (eqb d (1 + c))) ts ≡ get_or ns c 0
    done-each c = done-sum (λ d. bit (eqb d (1 + c))) ∙ wsum-at 1 ns c
