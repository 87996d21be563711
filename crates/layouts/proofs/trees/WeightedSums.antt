-- Weighted sums over counts: each count times a weight of its cut's number.
use Prim.Native.Nat.{ℕ, zero, suc, ◌+◌, ◌*◌, ◌≤◌, ◌<◌}
use native.Mathlib.Omega.{arith}
use native.Mathlib.Nat.{add-zero, add-suc, suc-add, mul-le-mul_right}
use mathlib.Core.Path.{◌≡◌, refl, sym, subst, ◌∙◌}
use mathlib.Core.Logic.{◌⊎◌, inl, inr, ◌≢◌}
use mathlib.Core.Bool.{Bool, true, false, cond}
use mathlib.Core.List.{List, [], ◌∷◌}
use lib.Dec.{eqb}
use lib.ListN.{length, get_or, set}
use Rattle.job.specs.Lists.{sum_of}
use Rattle.job.proofs.Tests.{equal_or_not}
use Rattle.job.proofs.Sums.{bit, bit-same, bit-diff}
use Rattle.listing.specs.Listing.{Cut, Listing, cut_at, no_cut}
use Rattle.plan.specs.Plan.{count_of, weighed, total}
use Rattle.plan.specs.Feasible.{NonePast}

-- the sum of f c times the count of cut c; the counts are those of the cuts from k on
unfoldable pub wsum : (ℕ → ℕ) → ℕ → List ℕ → ℕ
wsum f k [] = 0
wsum f k (n ∷ ns) = f k * n + wsum f (suc k) ns

-- one less at a place
pub wsum-dec : (f : ℕ → ℕ) (k : ℕ) (ns : List ℕ) (c n : ℕ) → get_or ns c 0 ≡ suc n → wsum f k ns ≡ f (k + c) + wsum f k (set ns c n)
unfolding wsum
wsum-dec f k [] zero n e = omega arith
wsum-dec f k [] (suc c) n e = omega arith
wsum-dec f k (m ∷ ns) zero n e = rw (add-zero, e) (omega arith)
wsum-dec f k (m ∷ ns) (suc c) n e = rw add-suc (omega (arith, rw suc-add at (wsum-dec f (suc k) ns c n e)))

-- where the weight is positive and the sum 0, the count is 0
pub wsum-zero : (f : ℕ → ℕ) (k : ℕ) (ns : List ℕ) → wsum f k ns ≡ 0 → (c : ℕ) → 0 < f (k + c) → get_or ns c 0 ≡ 0
unfolding wsum
wsum-zero f k [] e zero h = refl
wsum-zero f k [] e (suc c) h = refl
wsum-zero f k (n ∷ ns) e zero h = omega (arith, mul-le-mul_right n (rw add-zero at h))
wsum-zero f k (n ∷ ns) e (suc c) h = wsum-zero f (suc k) ns (omega arith) c (rw (suc-add, ← add-suc) h)

-- weights that agree where there is a count give the same sum
pub wsum-agree : (f g : ℕ → ℕ) (k : ℕ) (ns : List ℕ) → ((c : ℕ) → 0 < get_or ns c 0 → f (k + c) ≡ g (k + c)) → wsum f k ns ≡ wsum g k ns
unfolding wsum
wsum-agree f g k [] h = refl
wsum-agree f g k (n ∷ ns) h =
    go (wsum-agree f g (suc k) ns (λ c p. rw (suc-add, ← add-suc) (h (suc c) p))) (equal_or_not n 0)
  where
    go : wsum f (suc k) ns ≡ wsum g (suc k) ns → (n ≡ 0) ⊎ (n ≢ 0) → f k * n + wsum f (suc k) ns ≡ g k * n + wsum g (suc k) ns
    go rest (inl e) = rw e (omega arith)
    go rest (inr d) = let z : f k ≡ g k = rw add-zero at (h zero (omega arith)) in rw z (omega arith)

-- weights of 0
pub wsum-zeros : (k : ℕ) (ns : List ℕ) → wsum (λ _. 0) k ns ≡ 0
unfolding wsum
wsum-zeros k [] = refl
wsum-zeros k (n ∷ ns) = omega (arith, wsum-zeros (suc k) ns)

-- where each count of positive weight is 0, the sum is 0
pub wsum-none : (f : ℕ → ℕ) (k : ℕ) (ns : List ℕ) → ((c : ℕ) → 0 < f (k + c) → get_or ns c 0 ≡ 0) → wsum f k ns ≡ 0
wsum-none f k ns h = wsum-agree f (λ _. 0) k ns (λ c p. at c p (equal_or_not (f (k + c)) 0)) ∙ wsum-zeros k ns
  where
    at : (c : ℕ) → 0 < get_or ns c 0 → (f (k + c) ≡ 0) ⊎ (f (k + c) ≢ 0) → f (k + c) ≡ 0
    at c p (inl e) = e
    at c p (inr d) = absurd (omega (arith, h c (omega arith)))

-- the count of one cut
pub wsum-at : (k : ℕ) (ns : List ℕ) (c : ℕ) → wsum (λ d. bit (eqb d (k + c))) k ns ≡ get_or ns c 0
unfolding wsum
wsum-at k [] zero = refl
wsum-at k [] (suc c) = refl
wsum-at k (n ∷ ns) zero =
    let z : wsum (λ d. bit (eqb d (k + 0))) (suc k) ns ≡ 0
    = wsum-agree (λ d. bit (eqb d (k + 0))) (λ _. 0) (suc k) ns (λ c _. bit-diff (λ (e : suc k + c ≡ k + 0). omega arith)) ∙ wsum-zeros (suc k) ns in
    rw (bit-same {a = k} {b = k + 0} (omega arith)) (omega (arith, z))
wsum-at k (n ∷ ns) (suc c) =
    let h : wsum (λ d. bit (eqb d (k + suc c))) (suc k) ns ≡ get_or ns c 0
    = subst (λ (m : ℕ). wsum (λ d. bit (eqb d m)) (suc k) ns ≡ get_or ns c 0) (omega arith) (wsum-at (suc k) ns c) in
    rw (bit-diff {a = k} {b = k + suc c} (λ e. omega arith)) (omega (arith, h))

-- all counts together
pub total-wsum : (k : ℕ) (ns : List ℕ) → total ns ≡ wsum (λ _. 1) k ns
unfolding total sum_of wsum
total-wsum k [] = refl
total-wsum k (n ∷ ns) = omega (arith, total-wsum (suc k) ns)

count_of-from : (test : Cut → Bool) (f : ℕ → ℕ) (k : ℕ) (cs : List Cut) (ns : List ℕ) → ((i : ℕ) → i < length cs → f (k + i) ≡ bit (test (get_or cs i no_cut)))
    → ((i : ℕ) → length cs ≤ i → get_or ns i 0 ≡ 0) → count_of test cs ns ≡ wsum f k ns
unfolding count_of wsum
count_of-from test f k [] ns h none = sym (wsum-none f k ns (λ c _. none c (omega arith)))
count_of-from test f k (c ∷ cs) [] h none = refl
count_of-from test f k (c ∷ cs) (n ∷ ns) h none =
    let e : f k ≡ bit (test c) = rw add-zero at (h zero (omega arith)) in
    rw e (omega (arith, weighed (test c), count_of-from test f (suc k) cs ns (λ i p. rw (suc-add, ← add-suc) (h (suc i) (omega arith))) (λ i p. none (suc i) (omega arith))))
  where
    weighed : (t : Bool) → cond t n 0 ≡ bit t * n
    weighed true = omega arith
    weighed false = omega arith

-- the counts of the cuts that pass a test: each count weighs 1 or 0
abbrev pub weight : (Cut → Bool) → Listing → ℕ → ℕ
weight test l c = bit (test (cut_at l c))

pub count_of-wsum : (test : Cut → Bool) (l : Listing) (ns : List ℕ) → NonePast l ns → count_of test l.cuts ns ≡ wsum (weight test l) 1 ns
unfolding cut_at
count_of-wsum test l ns none = count_of-from test (weight test l) 1 l.cuts ns (λ i p. at i) none
  where
    at : (i : ℕ) → weight test l (1 + i) ≡ bit (test (get_or l.cuts i no_cut))
    at i = let e : 1 + i ≡ suc i = omega arith in rw e

-- a value of each cut times its count: each count weighs the value of its cut
weighed-from : (g : Cut → ℕ) (f : ℕ → ℕ) (k : ℕ) (cs : List Cut) (ns : List ℕ) → ((i : ℕ) → i < length cs → f (k + i) ≡ g (get_or cs i no_cut))
    → ((i : ℕ) → length cs ≤ i → get_or ns i 0 ≡ 0) → weighed g cs ns ≡ wsum f k ns
unfolding weighed wsum
weighed-from g f k [] ns h none = sym (wsum-none f k ns (λ c _. none c (omega arith)))
weighed-from g f k (c ∷ cs) [] h none = refl
weighed-from g f k (c ∷ cs) (n ∷ ns) h none =
    let e : f k ≡ g c = rw add-zero at (h zero (omega arith)) in
    rw e (omega (arith, weighed-from g f (suc k) cs ns (λ i p. rw (suc-add, ← add-suc) (h (suc i) (omega arith))) (λ i p. none (suc i) (omega arith))))

pub weighed-wsum : (g : Cut → ℕ) (l : Listing) (ns : List ℕ) → NonePast l ns → weighed g l.cuts ns ≡ wsum (λ c. g (cut_at l c)) 1 ns
unfolding cut_at
weighed-wsum g l ns none = weighed-from g (λ c. g (cut_at l c)) 1 l.cuts ns (λ i p. at i) none
  where
    at : (i : ℕ) → g (cut_at l (1 + i)) ≡ g (get_or l.cuts i no_cut)
    at i = let e : 1 + i ≡ suc i = omega arith in rw e
