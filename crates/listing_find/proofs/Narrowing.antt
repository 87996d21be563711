-- The search of a cut by its pair, on plain values: which cuts come before the pair, and what the first that does not says of the whole.
use Prim.Native.Nat.{ℕ, zero, suc, ◌+◌, ◌-◌, ◌≤◌, ◌<◌}
use native.Mathlib.Omega.{arith}
use mathlib.Core.Path.{◌≡◌, refl, sym, ◌∙◌}
use mathlib.Core.Logic.{◌⊎◌, inl, inr}
use mathlib.Core.Bool.{Bool, true, false, cond, ◌&&◌}
use mathlib.Core.List.{List, [], ◌∷◌}
use lib.Dec.{ltb, eqb}
use lib.ListN.{length, get_or}
use borrow.Author.Tests.{eqb-true, eqb-false, ltb-true, ltb-false}
use Rattle.job.specs.Job.{Job}
use Rattle.listing.specs.Listing.{Cut, Listing, no_cut, cut_at}
use Rattle.listing.specs.Model.{Before, Model}
use Rattle.plan.specs.Plan.{on_plate, of_position}
use Rattle.layouts.specs.Fold.{cut_from, cut_of}
use Rattle.listing.specs.CutRead.{cut_read, cuts_read}
use Rattle.listing.proofs.CodeCuts.{length-cuts_from, cut-read}
use Rattle.listing_find.specs.Rising.{Rising, earlier, pair_of, Narrowed}

-- the cuts of a model rise
pub model-rising : (job : Job) (l : Listing) → Model job l → Rising l.cuts
unfolding cut_at
model-rising job l m = record { rises = m.rising }

-- what comes before what comes before
before-trans : (c d e : Cut) → Before c d → Before d e → Before c e
before-trans c d e (inl a) (inl b) = inl (omega arith)
before-trans c d e (inl a) (inr b) = inl (omega (arith, b.0))
before-trans c d e (inr a) (inl b) = inl (omega (arith, a.0))
before-trans c d e (inr a) (inr b) = inr (a.0 ∙ b.0, omega (arith, a.1, b.1))

-- the test decides whether a cut comes before a pair
earlier-true : (j i : ℕ) (c : Cut) → earlier j i c ≡ true → Before c (pair_of j i)
unfolding earlier
earlier-true j i c h = go (eqb c.plate j) refl h
  where
    go : (t : Bool) → eqb c.plate j ≡ t → cond t (ltb c.item i) (ltb c.plate j) ≡ true → Before c (pair_of j i)
    go true e h = inr (eqb-true _ _ e, ltb-true _ _ h)
    go false e h = inl (ltb-true _ _ h)

earlier-false : (j i : ℕ) (c : Cut) → earlier j i c ≡ false → Before c (pair_of j i) → ⊥
unfolding earlier
earlier-false j i c h b = go (eqb c.plate j) refl h b
  where
    go : (t : Bool) → eqb c.plate j ≡ t → cond t (ltb c.item i) (ltb c.plate j) ≡ false → Before c (pair_of j i) → ⊥
    go true e h (inl b) = omega (arith, eqb-true c.plate j e)
    go true e h (inr b) = omega (arith, ltb-false c.item i h, b.1)
    go false e h (inl b) = omega (arith, ltb-false c.plate j h)
    go false e h (inr b) = eqb-false _ _ e b.0

-- nothing is said of no cuts
pub narrowed-start : (cs : List Cut) (j i b : ℕ) → length cs ≤ b → Narrowed cs j i 0 b
narrowed-start cs j i b h = record { below = λ c p. absurd (omega arith); above = λ c p q. absurd (omega arith) }

below_or : (c m : ℕ) → c < m + 1 → (c < m) ⊎ (c ≡ m)
below_or c m h = go (ltb c m) refl
  where
    go : (t : Bool) → ltb c m ≡ t → (c < m) ⊎ (c ≡ m)
    go true e = inl (ltb-true _ _ e)
    go false e = inr (omega (arith, ltb-false c m e))

-- the cut at place m halves what is left
module _ (cs : List Cut) (r : Rising cs) (j i a b m : ℕ) (n : Narrowed cs j i a b) (h : m < length cs) where
  narrowed-up : earlier j i (get_or cs m no_cut) ≡ true → Narrowed cs j i (m + 1) b
  narrowed-up t = record { below = λ c p. go c (below_or c m p); above = n.above }
    where
      go : (c : ℕ) → (c < m) ⊎ (c ≡ m) → Before (get_or cs c no_cut) (pair_of j i)
      go c (inl p) = before-trans (get_or cs c no_cut) (get_or cs m no_cut) (pair_of j i) (r.rises c m p h) (earlier-true j i _ t)
      go c (inr p) = rw p (earlier-true j i _ t)

  narrowed-down : earlier j i (get_or cs m no_cut) ≡ false → Narrowed cs j i a m
  narrowed-down t = record { below = n.below; above = λ c p q b. go c q b (below_or m c (omega arith)) }
    where
      go : (c : ℕ) → c < length cs → Before (get_or cs c no_cut) (pair_of j i) → (m < c) ⊎ (m ≡ c) → ⊥
      go c q b (inl p) = earlier-false j i _ t (before-trans (get_or cs m no_cut) (get_or cs c no_cut) (pair_of j i) (r.rises m c p q) b)
      go c q b (inr p) = earlier-false j i (get_or cs m no_cut) t (rw p b)

-- the cut is that of the pair
abbrev is_pair : ℕ → ℕ → Cut → Bool
is_pair j i c = on_plate j c && of_position i c

-- one that comes before the pair, or after it, is not
pair_parts : (j i : ℕ) (c : Cut) → is_pair j i c ≡ true → (c.plate ≡ j) × (c.item ≡ i)
unfolding on_plate of_position
pair_parts j i c h = go (eqb c.plate j) refl h
  where
    go : (t : Bool) → eqb c.plate j ≡ t → t && eqb c.item i ≡ true → (c.plate ≡ j) × (c.item ≡ i)
    go true e h = (eqb-true c.plate j e, eqb-true c.item i h)
    go false e h = absurd (mathlib.Core.Bool.false≢true h)

before-no-pair : (j i : ℕ) (c : Cut) → Before c (pair_of j i) → is_pair j i c ≡ true → ⊥
before-no-pair j i c (inl b) h = omega (arith, (pair_parts j i c h).0)
before-no-pair j i c (inr b) h = omega (arith, b.1, (pair_parts j i c h).1)

-- no cut is that of the pair
cut_from-none : (j i k : ℕ) (cs : List Cut) → ((c : ℕ) → c < length cs → is_pair j i (get_or cs c no_cut) ≡ true → ⊥) → cut_from j i k cs ≡ 0
unfolding cut_from
cut_from-none j i k [] h = refl
cut_from-none j i k (c ∷ cs) h = go (is_pair j i c) refl (cut_from-none j i (suc k) cs (λ d p. h (suc d) (omega arith)))
  where
    go : (t : Bool) → is_pair j i c ≡ t → cut_from j i (suc k) cs ≡ 0 → cut_from j i k (c ∷ cs) ≡ 0
    go true e rec = absurd (h 0 (omega arith) e)
    go false e rec = rw (e, cut_from) rec

-- the first that is
cut_from-at : (j i k : ℕ) (cs : List Cut) (d : ℕ) → d < length cs → is_pair j i (get_or cs d no_cut) ≡ true → ((c : ℕ) → c < d → is_pair j i (get_or cs c no_cut) ≡ true → ⊥) → cut_from j i k cs ≡ k + d
unfolding cut_from
cut_from-at j i k [] d p e h = absurd (omega arith)
cut_from-at j i k (c ∷ cs) zero p e h = rw (e, cut_from) (omega arith)
cut_from-at j i k (c ∷ cs) (suc d) p e h = go (is_pair j i c) refl (cut_from-at j i (suc k) cs d (omega arith) e (λ b q. h (suc b) (omega arith)))
  where
    go : (t : Bool) → is_pair j i c ≡ t → cut_from j i (suc k) cs ≡ suc k + d → cut_from j i k (c ∷ cs) ≡ k + suc d
    go true f rec = absurd (h 0 (omega arith) f)
    go false f rec = rw (f, cut_from) (omega arith)

-- what is left is no place: the cut there is that of the pair, or there is none
module _ (l : Listing) (r : Rising l.cuts) (j i a b : ℕ) (n : Narrowed l.cuts j i a b) (h : b ≤ a) where
  found_at : a < length l.cuts → is_pair j i (get_or l.cuts a no_cut) ≡ true → a + 1 ≡ cut_of l j i
  unfolding cut_of
  found_at p t =
      omega (arith, cut_from-at j i 1 l.cuts a p t (λ c q. before-no-pair j i (get_or l.cuts c no_cut) (n.below c q)))

  none-past : length l.cuts ≤ a → 0 ≡ cut_of l j i
  unfolding cut_of
  none-past p = sym (cut_from-none j i 1 l.cuts (λ c q. before-no-pair j i (get_or l.cuts c no_cut) (n.below c (omega arith))))

  after-no-pair : (c : ℕ) → a < c → c < length l.cuts → is_pair j i (get_or l.cuts c no_cut) ≡ true → ⊥
  after-no-pair c p q t =
      let e = pair_parts j i (get_or l.cuts c no_cut) t in
      n.above a h (omega arith) (rw (e.0, e.1) at (r.rises a c p q))

  found_none : (length l.cuts ≤ a) ⊎ (is_pair j i (get_or l.cuts a no_cut) ≡ false) → 0 ≡ cut_of l j i
  unfolding cut_of
  found_none (inl p) = none-past p
  found_none (inr t) = sym (cut_from-none j i 1 l.cuts (λ c q e. other c q e (three c)))
    where
      three : (c : ℕ) → (c < a) ⊎ ((c ≡ a) ⊎ (a < c))
      three c = go (ltb c a) (ltb a c) refl refl
        where
          go : (u v : Bool) → ltb c a ≡ u → ltb a c ≡ v → (c < a) ⊎ ((c ≡ a) ⊎ (a < c))
          go true v e f = inl (ltb-true c a e)
          go false true e f = inr (inr (ltb-true a c f))
          go false false e f = inr (inl (omega (arith, ltb-false c a e, ltb-false a c f)))

      other : (c : ℕ) → c < length l.cuts → is_pair j i (get_or l.cuts c no_cut) ≡ true → (c < a) ⊎ ((c ≡ a) ⊎ (a < c)) → ⊥
      other c q e (inl p) = before-no-pair j i (get_or l.cuts c no_cut) (n.below c p) e
      other c q e (inr (inl p)) = mathlib.Core.Bool.false≢true (sym t ∙ (rw p at e))
      other c q e (inr (inr p)) = after-no-pair c p q e

-- the same of the k cuts of a buffer, each of which is read from its words: the cut behind m others has the number m + 1
module _ (buffer : List ℕ) (k j i a b : ℕ) (n : Rising (cuts_read k buffer) → Narrowed (cuts_read k buffer) j i a b) where
  cut-behind : (m : ℕ) → m < k → cut_read buffer (m + 1 - 1) ≡ get_or (cuts_read k buffer) m no_cut
  cut-behind m h = let e : m + 1 - 1 ≡ m = omega arith in rw e (sym (cut-read k m buffer h))

  pub read_up : (m : ℕ) → m < k → {t : Bool} → t ≡ earlier j i (cut_read buffer (m + 1 - 1)) → t ≡ true → Rising (cuts_read k buffer) → Narrowed (cuts_read k buffer) j i (m + 1) b
  read_up m h e t r =
      narrowed-up (cuts_read k buffer) r j i a b m (n r) (rw length-cuts_from h) (rw (← cut-behind m h) (sym e ∙ t))

  pub read_down : (m : ℕ) → m < k → {t : Bool} → t ≡ earlier j i (cut_read buffer (m + 1 - 1)) → t ≡ false → Rising (cuts_read k buffer) → Narrowed (cuts_read k buffer) j i a m
  read_down m h e t r =
      narrowed-down (cuts_read k buffer) r j i a b m (n r) (rw length-cuts_from h) (rw (← cut-behind m h) (sym e ∙ t))

  module _ (h : b ≤ a) (l : Listing) (f : l.cuts ≡ cuts_read k buffer) (r : Rising l.cuts) where
    narrowed : Narrowed l.cuts j i a b
    narrowed = rw f (n (rw f at r))

    pub read_at : a < k → {t : Bool} → t ≡ is_pair j i (cut_read buffer (a + 1 - 1)) → t ≡ true → a + 1 ≡ cut_of l j i
    read_at p e t = found_at l r j i a b narrowed h (rw (f, length-cuts_from) p) (rw (f, ← cut-behind a p) (sym e ∙ t))

    pub read-other : a < k → {t : Bool} → t ≡ is_pair j i (cut_read buffer (a + 1 - 1)) → t ≡ false → 0 ≡ cut_of l j i
    read-other p e t = found_none l r j i a b narrowed h (inr (rw (f, ← cut-behind a p) (sym e ∙ t)))

    pub read_past : k ≤ a → 0 ≡ cut_of l j i
    read_past p = found_none l r j i a b narrowed h (inl (rw (f, length-cuts_from) p))
