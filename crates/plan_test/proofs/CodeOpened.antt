-- Boards and cost, on plain values: added up over the sizes they are those of the plan.
use mathlib.Core.Path.{◌≡◌, refl, sym, ap, ◌∙◌}
use Prim.Native.Nat.{ℕ, zero, suc, ◌+◌, ◌*◌, ◌≤◌, ◌<◌}
use mathlib.Core.Logic.{◌⊎◌, inl, inr}
use mathlib.Core.Bool.{Bool, true, false, cond}
use mathlib.Core.List.{List, [], ◌∷◌}
use native.Mathlib.Nat.{zero-mul, mul-zero, mul-add}
use native.Mathlib.Numerals.{add-one}
use native.Mathlib.Omega.{arith}
use borrow.Author.Tests.{eqb-true, eqb-false, lt-ltb, le-ltb, ltb-true, ltb-false}
use lib.Dec.{ltb, eqb}
use lib.ListN.{length, get_or, get_or-eq_default}
use Rattle.job.specs.declared.size.Size.{Size}
use Rattle.job.specs.Job.{Job, no_size, size_at}
use Rattle.job.proofs.Tests.{at-most-or-above}
use Rattle.listing.specs.Listing.{Cut, Listing}
use Rattle.plan.specs.Plan.{count_of, on_plate, on_size, boards, weighed, cost_at, plan_cost}
use Rattle.plan_test.specs.Sums.{SumsOf, sum_below}

-- one size more
pub below_next : (f : ℕ → ℕ) (t : ℕ) → sum_below f (t + 1) ≡ sum_below f t + f t
unfolding sum_below
below_next f t = rw add-one

-- values that agree below t have one sum
below-agree : (f g : ℕ → ℕ) (t : ℕ) → ((j : ℕ) → j < t → f j ≡ g j) → sum_below f t ≡ sum_below g t
unfolding sum_below
below-agree f g zero e = refl
below-agree f g (suc t) e = omega (arith, below-agree f g t (λ j h. e j (omega arith)), e t (omega arith))

below_none : (f : ℕ → ℕ) (t : ℕ) → ((j : ℕ) → f j ≡ 0) → sum_below f t ≡ 0
unfolding sum_below
below_none f zero e = refl
below_none f (suc t) e = omega (arith, below_none f t e, e t)

below-add : (f g : ℕ → ℕ) (t : ℕ) → sum_below (λ j. f j + g j) t ≡ sum_below f t + sum_below g t
unfolding sum_below
below-add f g zero = refl
below-add f g (suc t) = omega (arith, below-add f g t)

-- a number that is not t and not below it
above : (p t : ℕ) → (p ≡ t → ⊥) → t ≤ p → suc t ≤ p
above p t d l = by (at-most-or-above p t)
  where
    by : (p ≤ t) ⊎ (t < p) → suc t ≤ p
    by (inl q) = absurd (d (omega arith))
    by (inr q) = q

-- a value at p alone
below_one : (g : ℕ → ℕ) (p t : ℕ) → sum_below (λ j. cond (eqb p j) (g j) 0) t ≡ cond (ltb p t) (g p) 0
unfolding sum_below
below_one g p zero = rw (le-ltb p 0 (omega arith))
below_one g p (suc t) = go (eqb p t) refl (ltb p t) refl (below_one g p t)
  where
    go : (a : Bool) → eqb p t ≡ a → (b : Bool) → ltb p t ≡ b → sum_below (λ j. cond (eqb p j) (g j) 0) t ≡ cond b (g p) 0 → sum_below (λ j. cond (eqb p j) (g j) 0) t + cond a (g t) 0 ≡ cond (ltb p (suc t)) (g p) 0
    go true e true f h = let z = eqb-true p t e in absurd (omega (arith, ltb-true p t f))
    go true e false f h =
        let z = eqb-true p t e in
        let v : g t ≡ g p = ap g (sym z) in
        rw (lt-ltb p (suc t) (omega arith)) (omega arith)
    go false e true f h = rw (lt-ltb p (suc t) (omega (arith, ltb-true p t f))) (omega arith)
    go false e false f h =
        rw (le-ltb p (suc t) (above p t (eqb-false p t e) (ltb-false p t f))) (omega arith)

-- the boards opened in all are those of the sizes
pub boards-below : (t : ℕ) (cs : List Cut) (ns : List ℕ) → count_of (on_size t) cs ns ≡ sum_below (λ j. count_of (on_plate j) cs ns) t
unfolding count_of on_size on_plate
boards-below t [] ns = sym (below_none _ t (λ j. refl))
boards-below t (c ∷ cs) [] = sym (below_none _ t (λ j. refl))
boards-below t (c ∷ cs) (n ∷ ns) =
    sym (below-add (λ j. cond (eqb c.plate j) n 0) (λ j. count_of (on_plate j) cs ns) t
    ∙ rw (below_one (λ j. n) c.plate t, boards-below t cs ns))

-- a value of the plate type that is 0 past the sizes, weighed with the counts
module _ (f : ℕ → ℕ) (t : ℕ) (past : (j : ℕ) → t ≤ j → f j ≡ 0) where
  -- times the count of one cut
  times : (p n j : ℕ) → f j * cond (eqb p j) n 0 ≡ cond (eqb p j) (f j * n) 0
  times p n j = go (eqb p j)
    where
      go : (b : Bool) → f j * cond b n 0 ≡ cond b (f j * n) 0
      go true = refl
      go false = mul-zero (f j)

  one-plate : (p n : ℕ) → cond (ltb p t) (f p * n) 0 ≡ f p * n
  one-plate p n = go (ltb p t) refl
    where
      go : (b : Bool) → ltb p t ≡ b → cond b (f p * n) 0 ≡ f p * n
      go true e = refl
      go false e = rw (past p (ltb-false p t e)) (sym (zero-mul n))

  pub weighed-below : (cs : List Cut) (ns : List ℕ) → weighed (λ c. f c.plate) cs ns ≡ sum_below (λ j. f j * count_of (on_plate j) cs ns) t
  unfolding count_of on_plate weighed
  weighed-below [] ns = sym (below_none _ t (λ j. mul-zero (f j)))
  weighed-below (c ∷ cs) [] = sym (below_none _ t (λ j. mul-zero (f j)))
  weighed-below (c ∷ cs) (n ∷ ns) =
      sym (below-agree _ (λ j. cond (eqb c.plate j) (f j * n) 0 + f j * count_of (on_plate j) cs ns) t (λ j h. mul-add (f j) _ _ ∙ rw (times c.plate n j))
      ∙ below-add (λ j. cond (eqb c.plate j) (f j * n) 0) (λ j. f j * count_of (on_plate j) cs ns) t
      ∙ rw (below_one (λ j. f j * n) c.plate t, one-plate c.plate n, weighed-below cs ns))

-- past the sizes a plate type costs nothing
no-cost : (job : Job) (j : ℕ) → length job.sizes ≤ j → cost_at job j ≡ 0
unfolding cost_at size_at
no-cost job j h = ap (λ (z : Size). z.cost) (get_or-eq_default job.sizes no_size h)

-- words that hold the counts on each plate type, added up over the t sizes of the job
module _ (job : Job) (l : Listing) (ns on : List ℕ) (s : SumsOf on_plate l.cuts ns on) (t : ℕ) (few : t ≤ length on) where
  pub boards-summed : l.sizes ≡ t → sum_below (λ j. get_or on j 0) t ≡ boards l ns
  unfolding boards
  boards-summed e = below-agree _ _ t (λ j h. s j (omega arith)) ∙ rw e (sym (boards-below t l.cuts ns))

  pub cost-summed : length job.sizes ≡ t → sum_below (λ j. (size_at job j).cost * get_or on j 0) t ≡ plan_cost job l ns
  unfolding plan_cost cost_at
  cost-summed e =
      below-agree _ _ t (λ j h. ap (λ (n : ℕ). (size_at job j).cost * n) (s j (omega arith)))
      ∙ sym (weighed-below (cost_at job) t (λ j h. no-cost job j (omega arith)) l.cuts ns)
