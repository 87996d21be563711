-- Tallies: how often each of some numbers stands in a list, as weighted sums; the labels of trees as such lists.
use Prim.Native.Nat.{ℕ, zero, suc, ◌+◌, ◌*◌, ◌≤◌, ◌<◌}
use native.Mathlib.Omega.{arith}
use mathlib.Core.Path.{◌≡◌, refl}
use mathlib.Core.Logic.{◌⊎◌, inl, inr, ◌≢◌}
use mathlib.Core.List.{List, [], ◌∷◌, ◌++◌}
use lib.Dec.{eqb}
use Rattle.job.specs.Lists.{sum_of, occurs, tally}
use Rattle.job.proofs.Tests.{at-most-or-above, equal_or_not}
use Rattle.job.proofs.Sums.{bit, bit-same, bit-diff, sum_of-append, occurs-cons}
use Rattle.layouts.proofs.trees.WeightedSums.{wsum}
use Rattle.layouts.proofs.trees.Tree.{Tree, leaf, node, tsum, fsum, labels}

-- every number of a list is one of the n from k on
abbrev pub Ranged : ℕ → ℕ → List ℕ → Type 0
Ranged n k [] = Unit {0}
Ranged n k (d ∷ ks) = (k ≤ d) × (d < k + n) × Ranged n k ks

-- so is every number of two such lists in a row
pub ranged-append : (n k : ℕ) (ks ms : List ℕ) → Ranged n k ks → Ranged n k ms → Ranged n k (ks ++ ms)
ranged-append n k [] ms p q = q
ranged-append n k (d ∷ ks) ms p q = (p.0, p.1, ranged-append n k ks ms p.2 q)

tally-none : (f : ℕ → ℕ) (n k : ℕ) → wsum f k (tally n k []) ≡ 0
unfolding tally occurs sum_of wsum
tally-none f zero k = refl
tally-none f (suc n) k = omega (arith, tally-none f n (suc k))

-- a number that is not one of those counted does not weigh
tally-skip : (f : ℕ → ℕ) (n k d : ℕ) (ks : List ℕ) → ((c : ℕ) → c < n → d ≢ k + c) → wsum f k (tally n k (d ∷ ks)) ≡ wsum f k (tally n k ks)
unfolding tally wsum
tally-skip f zero k d ks h = refl
tally-skip f (suc n) k d ks h =
    rw (occurs-cons k d ks, bit-diff {a = d} {b = k} (λ e. h 0 (omega arith) (omega arith)))
    (omega (arith, tally-skip f n (suc k) d ks (λ c p e. h (suc c) (omega arith) (omega arith))))

tally-cons : (f : ℕ → ℕ) (n k d : ℕ) (ks : List ℕ) → k ≤ d → d < k + n → wsum f k (tally n k (d ∷ ks)) ≡ f d + wsum f k (tally n k ks)
unfolding tally wsum
tally-cons f zero k d ks p q = absurd (omega arith)
tally-cons f (suc n) k d ks p q = rw (occurs-cons k d ks) (go (equal_or_not d k) (λ r. tally-cons f n (suc k) d ks r (omega arith)))
  where
    go : (d ≡ k) ⊎ (d ≢ k) → (suc k ≤ d → wsum f (suc k) (tally n (suc k) (d ∷ ks)) ≡ f d + wsum f (suc k) (tally n (suc k) ks))
        → f k * (bit (eqb d k) + occurs k ks) + wsum f (suc k) (tally n (suc k) (d ∷ ks)) ≡ f d + (f k * occurs k ks + wsum f (suc k) (tally n (suc k) ks))
    go (inl e) rec = rw (bit-same e, e) (omega (arith, tally-skip f n (suc k) k ks (λ c _ s. omega arith)))
    go (inr e) rec = rw (bit-diff e) (omega (arith, rec (omega arith)))

-- a weighted sum over the counts of a list is the sum over the list
pub tally-sum : (f : ℕ → ℕ) (n k : ℕ) (ks : List ℕ) → Ranged n k ks → wsum f k (tally n k ks) ≡ sum_of f ks
unfolding sum_of
tally-sum f n k [] h = tally-none f n k
tally-sum f n k (d ∷ ks) h = omega (arith, tally-cons f n k d ks h.0 h.1, tally-sum f n k ks h.2)

-- a weighted sum over counts of some numbers is at most the sum over the list
pub tally-le : (f : ℕ → ℕ) (n k : ℕ) (ks : List ℕ) → wsum f k (tally n k ks) ≤ sum_of f ks
unfolding sum_of
tally-le f n k [] = omega (arith, tally-none f n k)
tally-le f n k (d ∷ ks) = go (tally-le f n k ks) (at-most-or-above k d) (at-most-or-above (k + n) d)
  where
    go : wsum f k (tally n k ks) ≤ sum_of f ks → (k ≤ d) ⊎ (d < k) → (k + n ≤ d) ⊎ (d < k + n) → wsum f k (tally n k (d ∷ ks)) ≤ f d + sum_of f ks
    go rec (inl p) (inl q) = omega (arith, tally-skip f n k d ks (λ c r e. omega arith))
    go rec (inl p) (inr q) = omega (arith, tally-cons f n k d ks p q)
    go rec (inr p) q = omega (arith, tally-skip f n k d ks (λ c r e. omega arith))

-- sums over the labels of a tree, and of some trees, in the order of cutting
pub labels-sum : (f : ℕ → ℕ) (t : Tree) → sum_of f (labels t) ≡ tsum f t
unfolding sum_of
labels-sum f leaf = refl
labels-sum f (node c a b) = omega (arith, labels-sum f a, labels-sum f b, sum_of-append f (labels a) (labels b))

abbrev pub all_labels : List Tree → List ℕ
all_labels [] = []
all_labels (t ∷ ts) = labels t ++ all_labels ts

pub all-labels-sum : (f : ℕ → ℕ) (ts : List Tree) → sum_of f (all_labels ts) ≡ fsum f ts
unfolding sum_of
all-labels-sum f [] = refl
all-labels-sum f (t ∷ ts) = omega (arith, labels-sum f t, all-labels-sum f ts, sum_of-append f (labels t) (all_labels ts))
