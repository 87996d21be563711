-- The unfolding as a relation between counts and trees of cuts: from each piece the lowest-numbered cut with a count left, its branch first and
-- then its rest. The cuts done and the counts left make the counts before; the trees are trees of the listing; and it always ends.
use Prim.Native.Nat.{ℕ, zero, suc, ◌+◌, ◌≤◌, ◌<◌}
use native.Mathlib.Omega.{arith}
use mathlib.Core.Path.{◌≡◌, refl, ◌∙◌, ap}
use mathlib.Core.Logic.{◌⊎◌, inl, inr, ◌≢◌}
use mathlib.Core.List.{List, [], ◌∷◌}
use mathlib.Core.Option.{Option, none, some}
use lib.Dec.{eqb}
use lib.ListN.{length}
use Rattle.job.specs.Lists.{sum_of}
use Rattle.job.specs.Job.{Job}
use Rattle.job.specs.Admitted.{Sided}
use Rattle.job.proofs.Tests.{equal_or_not}
use Rattle.job.proofs.Sums.{bit, bit-diff}
use Rattle.listing.specs.Listing.{Listing, cut_at}
use Rattle.listing.specs.Model.{Model}
use Rattle.plan.specs.Plan.{on_plate, leaves_plate}
use Rattle.plan.specs.Feasible.{NonePast}
use Rattle.layouts.specs.Unfold.{search, spent}
use Rattle.layouts.proofs.trees.Tree.{Tree, leaf, node, tsum, fsum}
use Rattle.layouts.proofs.trees.Pattern.{branch_of, rest_of}
use Rattle.layouts.proofs.trees.WeightedSums.{wsum, weight}
use Rattle.layouts.proofs.trees.Cuts.{size_of, leaves-once, branch-smaller, rest-smaller}
use Rattle.layouts.proofs.trees.Balance.{Ok, Roots}
use Rattle.layouts.proofs.machine.Search.{on_sum, found-cut, spent-sum, spent-length, spent-past, not_found}

module _ (l : Listing) where
  -- the lowest-numbered cut on plate type j with a count left
  abbrev pub pick : ℕ → List ℕ → Option ℕ
  pick j ns = search j 1 l.cuts ns

  -- what is cut from a piece of residual type j, with the counts before and after; 0 is a residual that is not kept
  pub data Grow : ℕ → List ℕ → Tree → List ℕ → Type 0 where
    wasted : {ns : List ℕ} → Grow 0 ns leaf ns
    over : {j : ℕ} {ns : List ℕ} → pick (suc j) ns ≡ none → Grow (suc j) ns leaf ns
    cut : {j c : ℕ} {ns ns₁ ns₂ : List ℕ} {a b : Tree} → pick (suc j) ns ≡ some c → Grow (branch_of l c) (spent ns c) a ns₁ → Grow (rest_of l c) ns₁ b ns₂ → Grow (suc j) ns (node c a b) ns₂

  -- what is cut from the boards, one after another, always of the lowest size with a count left, until the counts on the sizes are spent
  pub data Grows : List ℕ → List Tree → List ℕ → Type 0 where
    ended : {ns : List ℕ} → ((j : ℕ) → j < l.sizes → pick j ns ≡ none) → Grows ns [] ns
    boarded : {c : ℕ} {ns ns₁ ns₂ ns₃ : List ℕ} {a b : Tree} {ts : List Tree} → (cut_at l c).plate < l.sizes → ((i : ℕ) → i < (cut_at l c).plate → pick i ns ≡ none) → pick (cut_at l c).plate ns ≡ some c → Grow (branch_of l c) (spent ns c) a ns₁ → Grow (rest_of l c) ns₁ b ns₂ → Grows ns₂ ts ns₃ → Grows ns (node c a b ∷ ts) ns₃

  -- the cuts done and the counts left make the counts before
  pub grow-sum : {j : ℕ} {ns ns' : List ℕ} {t : Tree} → Grow j ns t ns' → (f : ℕ → ℕ) → wsum f 1 ns ≡ tsum f t + wsum f 1 ns'
  grow-sum wasted f = omega arith
  grow-sum (over e) f = omega arith
  grow-sum (cut {j} {c} {ns} e p q) f = omega (arith, spent-sum l (suc j) ns c e f, grow-sum p f, grow-sum q f)

  pub grows-sum : {ns ns' : List ℕ} {ts : List Tree} → Grows ns ts ns' → (f : ℕ → ℕ) → wsum f 1 ns ≡ fsum f ts + wsum f 1 ns'
  unfolding sum_of
  grows-sum (ended e) f = omega arith
  grows-sum (boarded {c} {ns} b u e p q r) f = omega (arith, spent-sum l (cut_at l c).plate ns c e f, grow-sum p f, grow-sum q f, grows-sum r f)

  -- there are as many counts as before
  grow-length : {j : ℕ} {ns ns' : List ℕ} {t : Tree} → Grow j ns t ns' → length ns' ≡ length ns
  grow-length wasted = refl
  grow-length (over e) = refl
  grow-length (cut {c = c} {ns = ns} e p q) = grow-length q ∙ grow-length p ∙ spent-length l ns c

  pub grows-length : {ns ns' : List ℕ} {ts : List Tree} → Grows ns ts ns' → length ns' ≡ length ns
  grows-length (ended e) = refl
  grows-length (boarded {c} {ns} b u e p q r) = grows-length r ∙ grow-length q ∙ grow-length p ∙ spent-length l ns c

  -- words past the last cut stay 0
  pub grow-past : {j : ℕ} {ns ns' : List ℕ} {t : Tree} → Grow j ns t ns' → NonePast l ns → NonePast l ns'
  grow-past wasted h = h
  grow-past (over e) h = h
  grow-past (cut {j} {c} {ns} e p q) h = grow-past q (grow-past p (spent-past l (suc j) ns c e h))

  pub grows-past : {ns ns' : List ℕ} {ts : List Tree} → Grows ns ts ns' → NonePast l ns → NonePast l ns'
  grows-past (ended e) h = h
  grows-past (boarded {c} {ns} b u e p q r) h = grows-past r (grow-past q (grow-past p (spent-past l (cut_at l c).plate ns c e h)))

  -- in the end no cut on a size has a count left
  pub grows-ended : {ns ns' : List ℕ} {ts : List Tree} → Grows ns ts ns' → (j : ℕ) → j < l.sizes → pick j ns' ≡ none
  grows-ended (ended e) = e
  grows-ended (boarded b u e p q r) = grows-ended r

  -- the trees are trees of the listing
  grow-ok : {j : ℕ} {ns ns' : List ℕ} {t : Tree} → Grow j ns t ns' → Ok l j t
  grow-ok wasted = tt
  grow-ok (over e) = tt
  grow-ok (cut {j} {c} {ns} e p q) =
      let (i, on) = found-cut l (suc j) ns c e in (omega arith, i, on, grow-ok p, grow-ok q)

  pub grows-ok : {ns ns' : List ℕ} {ts : List Tree} → Grows ns ts ns' → Roots l ts
  grows-ok (ended e) = tt
  grows-ok (boarded {c} {ns} b u e p q r) =
      let (i, on) = found-cut l (cut_at l c).plate ns c e in ((i, b, grow-ok p, grow-ok q), grows-ok r)

module _ (job : Job) (l : Listing) (m : Model job l) where
  -- where a count is left on a residual type, each piece of it that arose was cut
  taken : (k : ℕ) → 0 < k → {j : ℕ} {ns ns' : List ℕ} {t : Tree} → Grow l j ns t ns' → NonePast l ns → 0 < on_sum l k ns'
      → tsum (weight (leaves_plate k) l) t + bit (eqb j k) ≤ tsum (weight (on_plate k) l) t
  unfolding on_plate
  taken k p wasted h pos = omega (arith, bit-diff {a = 0} {b = k} (λ (e : 0 ≡ k). omega arith))
  taken k p (over {j} {ns} e) h pos =
      let z : bit (eqb (suc j) k) ≡ 0
      = bit-diff (λ (s : suc j ≡ k). let w : on_sum l k ns ≡ 0 = rw (← s) (not_found l (suc j) ns h e) in omega arith) in
      omega arith
  taken k p (cut {j} {c} {ns} {ns₁} {ns₂} e g r) h pos =
      let (i, on) = found-cut l (suc j) ns c e in
      let h₁ = spent-past l (suc j) ns c e h in
      let s : bit (eqb (cut_at l c).plate k) ≡ bit (eqb (suc j) k) = ap (λ (z : ℕ). bit (eqb z k)) on in
      let pos₁ : 0 < on_sum l k ns₁ = omega (arith, grow-sum l r (weight (on_plate k) l)) in
      omega (arith, s, leaves-once job l m k p c i, taken k p g h₁ pos₁, taken k p r (grow-past l g h₁) pos)

  pub taken-all : (k : ℕ) → 0 < k → {ns ns' : List ℕ} {ts : List Tree} → Grows l ns ts ns' → NonePast l ns → 0 < on_sum l k ns'
      → fsum (weight (leaves_plate k) l) ts ≤ fsum (weight (on_plate k) l) ts
  unfolding sum_of
  taken-all k p (ended e) h pos = omega arith
  taken-all k p (boarded {c} {ns} {ns₁} {ns₂} b u e g r s) h pos =
      let (i, on) = found-cut l (cut_at l c).plate ns c e in
      let h₁ = spent-past l (cut_at l c).plate ns c e h in
      let h₂ = grow-past l g h₁ in
      let pos₂ : 0 < on_sum l k ns₂ = omega (arith, grows-sum l s (weight (on_plate k) l)) in
      let pos₁ : 0 < on_sum l k ns₁ = omega (arith, grow-sum l r (weight (on_plate k) l)) in
      omega (arith, leaves-once job l m k p c i, taken k p g h₁ pos₁, taken k p r h₂ pos₂, taken-all k p s (grow-past l r h₂) pos)

  module _ (sided : Sided job) where
    -- it ends: by the sizes of the pieces ..
    grow : (n j : ℕ) (ns : List ℕ) → size_of l j < n → (t : Tree) × (ns' : List ℕ) × Grow l j ns t ns'
    grow zero j ns s = absurd (omega arith)
    grow (suc n) zero ns s = (leaf, ns, wasted)
    grow (suc n) (suc j) ns s = go (pick l (suc j) ns) refl (λ i. grow n i)
      where
        sub : ((i : ℕ) (ms : List ℕ) → size_of l i < n → (t : Tree) × (ms' : List ℕ) × Grow l i ms t ms')
            → (i : ℕ) (ms : List ℕ) → (0 < i → size_of l i < n) → (t : Tree) × (ms' : List ℕ) × Grow l i ms t ms'
        sub rec zero ms k = (leaf, ms, wasted)
        sub rec (suc i) ms k = rec (suc i) ms (k (omega arith))

        go : (o : Option ℕ) → pick l (suc j) ns ≡ o → ((i : ℕ) (ms : List ℕ) → size_of l i < n → (t : Tree) × (ms' : List ℕ) × Grow l i ms t ms')
            → (t : Tree) × (ns' : List ℕ) × Grow l (suc j) ns t ns'
        go none e rec = (leaf, ns, over e)
        go (some c) e rec =
            let (i, on) = found-cut l (suc j) ns c e in
            let z : size_of l (cut_at l c).plate ≡ size_of l (suc j) = ap (size_of l) on in
            let (a, ns₁, p) = sub rec (branch_of l c) (spent ns c) (λ q. omega (arith, branch-smaller job l m sided c i q)) in
            let (b, ns₂, q) = sub rec (rest_of l c) ns₁ (λ q. omega (arith, rest-smaller job l m sided c i q)) in
            (node c a b, ns₂, cut {ns₁ = ns₁} {ns₂ = ns₂} {a = a} {b = b} e p q)

    -- no cut on a size has a count left, or the lowest size of such a cut
    abbrev Lowest : List ℕ → Type 0
    Lowest ns =
        ((j : ℕ) → j < l.sizes → pick l j ns ≡ none)
        ⊎ ((j c : ℕ) × (j < l.sizes) × ((i : ℕ) → i < j → pick l i ns ≡ none) × (pick l j ns ≡ some c))

    lowest : (n j : ℕ) (ns : List ℕ) → n + j ≡ l.sizes → ((i : ℕ) → i < j → pick l i ns ≡ none) → Lowest ns
    lowest zero j ns e h = inl (λ i p. h i (omega arith))
    lowest (suc n) j ns e h = go (pick l j ns) refl (lowest n (suc j) ns (omega arith))
      where
        go : (o : Option ℕ) → pick l j ns ≡ o → (((i : ℕ) → i < suc j → pick l i ns ≡ none) → Lowest ns) → Lowest ns
        go none q rec = rec (λ i p. at i p (equal_or_not i j))
          where
            at : (i : ℕ) → i < suc j → (i ≡ j) ⊎ (i ≢ j) → pick l i ns ≡ none
            at i p (inl e) = ap (λ (z : ℕ). pick l z ns) e ∙ q
            at i p (inr d) = h i (omega arith)
        go (some c) q rec = inr (j, c, omega arith, h, q)

    -- .. and by the counts
    pub grows : (n : ℕ) (ns : List ℕ) → wsum (λ _. 1) 1 ns < n → (ts : List Tree) × (ns' : List ℕ) × Grows l ns ts ns'
    grows zero ns s = absurd (omega arith)
    grows (suc n) ns s = go (lowest l.sizes 0 ns (omega arith) (λ i p. absurd (omega arith))) (λ ms. grows n ms)
      where
        go : Lowest ns → ((ms : List ℕ) → wsum (λ _. 1) 1 ms < n → (ts : List Tree) × (ms' : List ℕ) × Grows l ms ts ms')
            → (ts : List Tree) × (ns' : List ℕ) × Grows l ns ts ns'
        go (inl e) rec = ([], ns, ended e)
        go (inr (j, c, b, u, f)) rec =
            let (i, on) = found-cut l j ns c f in
            let e : pick l (cut_at l c).plate ns ≡ some c = ap (λ (z : ℕ). pick l z ns) on ∙ f in
            let (a, ns₁, p) = grow (suc (size_of l (branch_of l c))) (branch_of l c) (spent ns c) (omega arith) in
            let (d, ns₂, q) = grow (suc (size_of l (rest_of l c))) (rest_of l c) ns₁ (omega arith) in
            let (ts, ns₃, r) = rec ns₂ (omega (arith, spent-sum l j ns c f (λ _. 1), grow-sum l p (λ _. 1), grow-sum l q (λ _. 1))) in (
              node c a d ∷ ts,
              ns₃,
              boarded {c = c} {ns₁ = ns₁} {ns₂ = ns₂} {ns₃ = ns₃} {a = a} {b = d} {ts = ts} (omega arith) (λ i p. u i (omega arith)) e p q r,
            )
