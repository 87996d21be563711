-- Document 01, "Unfolding": what the search finds, the lowest-numbered cut on a plate type that has a count left, and how the count falls.
use Prim.Native.Nat.{ℕ, zero, suc, ◌+◌, ◌-◌, ◌≤◌, ◌<◌}
use native.Mathlib.Omega.{arith}
use mathlib.Core.Path.{◌≡◌, refl, sym}
use mathlib.Core.Logic.{◌⊎◌, inl, inr, ◌≢◌}
use mathlib.Core.Bool.{Bool, true, false, ◌&&◌}
use mathlib.Core.List.{List, [], ◌∷◌}
use mathlib.Core.Option.{Option, none, some}
use lib.Dec.{ltb, eqb}
use lib.ListN.{length, get_or, length-set}
use lib.Seq.{get_or-set_other}
use borrow.Author.Tests.{ltb-true, ltb-false, eqb-true, eq-eqb}
use Rattle.job.proofs.Tests.{at-most-or-above, equal_or_not}
use Rattle.job.proofs.Sums.{bit-diff}
use Rattle.listing.specs.Listing.{Cut, Listing, cut_at, no_cut}
use Rattle.plan.specs.Plan.{on_plate}
use Rattle.plan.specs.Feasible.{NonePast}
use Rattle.layouts.specs.Unfold.{search, spent}
use Rattle.layouts.proofs.trees.WeightedSums.{wsum, wsum-dec, wsum-none, weight}
use Rattle.layouts.proofs.trees.Cuts.{IsCut}

pub none-no-some : {c : ℕ} → ◌≡◌ {A = Option ℕ} none (some c) → ⊥
none-no-some e = let z : ◌≡◌ {A = ℕ} 0 1 = cc in omega arith

-- the count at a place is that of the lowest cut on plate type j with a count left
pub record At (j : ℕ) (cs : List Cut) (ns : List ℕ) (d : ℕ) : Type 0 where
  pub in-cuts : d < length cs
  pub on : (get_or cs d no_cut).plate ≡ j
  pub left : 0 < get_or ns d 0
  pub lowest : (e : ℕ) → e < d → (get_or cs e no_cut).plate ≡ j → get_or ns e 0 ≡ 0

both : (j : ℕ) (c : Cut) (n : ℕ) → on_plate j c && ltb 0 n ≡ true → (c.plate ≡ j) × (0 < n)
unfolding on_plate
both j c n h = go (eqb c.plate j) refl h
  where
    go : (t : Bool) → eqb c.plate j ≡ t → t && ltb 0 n ≡ true → (c.plate ≡ j) × (0 < n)
    go true e h = (eqb-true c.plate j e, ltb-true 0 n h)
    go false e h = absurd (mathlib.Core.Bool.false≢true h)

not-both : (j : ℕ) (c : Cut) (n : ℕ) → on_plate j c && ltb 0 n ≡ false → c.plate ≡ j → n ≡ 0
unfolding on_plate
not-both j c n h e = let f : ltb 0 n ≡ false = rw (eq-eqb c.plate j e) at h in omega (arith, ltb-false 0 n f)

-- what the search finds is the number of that cut
pub search-some : (j k : ℕ) (cs : List Cut) (ns : List ℕ) (c : ℕ) → search j k cs ns ≡ some c → (d : ℕ) × (c ≡ k + d) × At j cs ns d
unfolding search
search-some j k [] ns c h = absurd (none-no-some h)
search-some j k (a ∷ cs) [] c h = absurd (none-no-some h)
search-some j k (a ∷ cs) (n ∷ ns) c h = go (on_plate j a && ltb 0 n) refl (λ e. search-some j (suc k) cs ns c e)
  where
    go : (t : Bool) → on_plate j a && ltb 0 n ≡ t → (search j (suc k) cs ns ≡ some c → (d : ℕ) × (c ≡ suc k + d) × At j cs ns d) → (d : ℕ) × (c ≡ k + d) × At j (a ∷ cs) (n ∷ ns) d
    go true e rec =
        let z : some k ≡ some c = rw (e, search) at h in
        let s : k ≡ c = cc in
        let (on, left) = both j a n e in
        (0, omega arith, record { in-cuts = omega arith; on = on; left = left; lowest = λ e p. absurd (omega arith) })
    go false e rec =
        let (d, s, r) = rec (rw (e, search) at h) in
        (suc d, omega arith, record { in-cuts = omega (arith, r.in-cuts); on = r.on; left = r.left; lowest = lower d r.lowest })
      where
        lower : (d : ℕ) → ((e : ℕ) → e < d → (get_or cs e no_cut).plate ≡ j → get_or ns e 0 ≡ 0) → (e : ℕ) → e < suc d → (get_or (a ∷ cs) e no_cut).plate ≡ j → get_or (n ∷ ns) e 0 ≡ 0
        lower d r zero p q = not-both j a n e q
        lower d r (suc i) p q = r i (omega arith) q

-- where the search finds none, no cut on the plate type has a count left
pub search-none : (j k : ℕ) (cs : List Cut) (ns : List ℕ) → search j k cs ns ≡ none → (d : ℕ) → d < length cs → (get_or cs d no_cut).plate ≡ j → get_or ns d 0 ≡ 0
unfolding search
search-none j k [] ns h d p q = absurd (omega arith)
search-none j k (a ∷ cs) [] h zero p q = refl
search-none j k (a ∷ cs) [] h (suc d) p q = refl
search-none j k (a ∷ cs) (n ∷ ns) h d p q = go (on_plate j a && ltb 0 n) refl (λ e. search-none j (suc k) cs ns e)
  where
    at : on_plate j a && ltb 0 n ≡ false → ((d : ℕ) → d < length cs → (get_or cs d no_cut).plate ≡ j → get_or ns d 0 ≡ 0) → (d : ℕ) → d < suc (length cs) → (get_or (a ∷ cs) d no_cut).plate ≡ j → get_or (n ∷ ns) d 0 ≡ 0
    at e rec zero p q = not-both j a n e q
    at e rec (suc d) p q = rec d (omega arith) q

    go : (t : Bool) → on_plate j a && ltb 0 n ≡ t → (search j (suc k) cs ns ≡ none → (d : ℕ) → d < length cs → (get_or cs d no_cut).plate ≡ j → get_or ns d 0 ≡ 0) → get_or (n ∷ ns) d 0 ≡ 0
    go true e rec = absurd (none-no-some (sym (rw (e, search) at h)))
    go false e rec = at e (rec (rw (e, search) at h)) d p q

module _ (l : Listing) where
  -- the counts on a plate type
  abbrev pub on_sum : ℕ → List ℕ → ℕ
  on_sum k ns = wsum (weight (on_plate k) l) 1 ns

  -- the cut found: a cut on the plate type, with a count left, and no lower one has
  pub found : (j : ℕ) (ns : List ℕ) (c : ℕ) → search j 1 l.cuts ns ≡ some c → (d : ℕ) × (c ≡ suc d) × At j l.cuts ns d
  found j ns c h = let (d, e, r) = search-some j 1 l.cuts ns c h in (d, omega arith, r)

  -- it is a cut on that plate type
  pub found-cut : (j : ℕ) (ns : List ℕ) (c : ℕ) → search j 1 l.cuts ns ≡ some c → IsCut l c × ((cut_at l c).plate ≡ j)
  unfolding cut_at
  found-cut j ns c h = let (d, e, r) = found j ns c h in (omega (arith, r.in-cuts), rw e r.on)

  -- the count falls by 1
  pub spent-sum : (j : ℕ) (ns : List ℕ) (c : ℕ) → search j 1 l.cuts ns ≡ some c → (f : ℕ → ℕ) → wsum f 1 ns ≡ f c + wsum f 1 (spent ns c)
  unfolding spent
  spent-sum j ns c h f =
      let (d, e, r) = found j ns c h in
      let s : 1 + d ≡ suc d = omega arith in
      rw e (rw s at (wsum-dec f 1 ns d (get_or ns d 0 - 1) (omega (arith, r.left))))

  -- there are as many counts, and words past the last cut stay 0
  pub spent-length : (ns : List ℕ) (c : ℕ) → length (spent ns c) ≡ length ns
  unfolding spent
  spent-length ns zero = refl
  spent-length ns (suc d) = length-set ns d (get_or ns d 0 - 1)

  pub spent-past : (j : ℕ) (ns : List ℕ) (c : ℕ) → search j 1 l.cuts ns ≡ some c → NonePast l ns → NonePast l (spent ns c)
  unfolding spent
  spent-past j ns c h past e p =
      let (d, s, r) = found j ns c h in
      rw s (rw (get_or-set_other ns d e (get_or ns d 0 - 1) 0 (λ (q : e ≡ d). omega (arith, r.in-cuts))) (past e p))

  -- a cut that weighs on a plate type is on it
  pub on-weight : (j c : ℕ) → 0 < weight (on_plate j) l c → (cut_at l c).plate ≡ j
  unfolding on_plate
  on-weight j c p = go (equal_or_not (cut_at l c).plate j)
    where
      go : ((cut_at l c).plate ≡ j) ⊎ ((cut_at l c).plate ≢ j) → (cut_at l c).plate ≡ j
      go (inl e) = e
      go (inr d) = absurd (omega (arith, bit-diff d))

  -- where none is found the counts on the plate type come to 0
  pub not_found : (j : ℕ) (ns : List ℕ) → NonePast l ns → search j 1 l.cuts ns ≡ none → on_sum j ns ≡ 0
  unfolding cut_at
  not_found j ns past h = wsum-none (weight (on_plate j) l) 1 ns at
    where
      at : (c : ℕ) → 0 < weight (on_plate j) l (1 + c) → get_or ns c 0 ≡ 0
      at c p = go (at-most-or-above (length l.cuts) c)
        where
          go : (length l.cuts ≤ c) ⊎ (c < length l.cuts) → get_or ns c 0 ≡ 0
          go (inl q) = past c q
          go (inr q) =
              let s : 1 + c ≡ suc c = omega arith in
              let e : (cut_at l (suc c)).plate ≡ j = on-weight j (suc c) (rw s at p) in
              search-none j 1 l.cuts ns h c q e
