-- The search for a count that is left and how one is spent, on plain values: what is left to search from a count on is the whole search.
use Prim.Native.Nat.{ℕ, zero, suc, ◌+◌, ◌-◌, ◌≤◌, ◌<◌}
use native.Mathlib.Numerals.{add-one}
use native.Mathlib.Omega.{arith}
use mathlib.Core.Path.{◌≡◌, refl, ◌∙◌}
use mathlib.Core.Bool.{Bool, true, false, cond}
use mathlib.Core.List.{List, [], ◌∷◌}
use mathlib.Core.Option.{Option, none, some}
use lib.Dec.{ltb}
use lib.ListN.{length, get_or, set, drop, drop_of_length-le}
use lib.Seq.{drop-cons}
use borrow.Author.Tests.{lt-ltb, le-ltb}
use Rattle.listing.specs.Listing.{Cut, no_cut}
use Rattle.plan.specs.Plan.{count_of}
use Rattle.layouts.specs.Unfold.{spent}
use Rattle.layouts.specs.OwnCuts.{first_left}

module _ (ns : List ℕ) (i : ℕ) {whole : Option ℕ} (w : whole ≡ first_left i (drop i ns)) where
  -- past the last count nothing is found
  pub left_end : length ns ≤ i → whole ≡ none
  unfolding first_left
  left_end h = w ∙ rw (drop_of_length-le ns {i = i} h)

  -- the first count that is not 0 is found
  pub left_here : i < length ns → (get_or ns i 0 ≡ 0 → ⊥) → whole ≡ some i
  unfolding first_left
  left_here h t = w ∙ rw (drop-cons ns i 0 h, lt-ltb 0 (get_or ns i 0) (omega arith), first_left)

  -- else the search goes on with the next
  pub left_next : i < length ns → get_or ns i 0 ≡ 0 → whole ≡ first_left (i + 1) (drop (i + 1) ns)
  unfolding first_left
  left_next h t = w ∙ rw (drop-cons ns i 0 h, le-ltb 0 (get_or ns i 0) (omega arith), first_left, add-one)

-- numbered from another cut on, the same count is found
left-from : (k : ℕ) (ns : List ℕ) (a i : ℕ) → first_left k ns ≡ some i → first_left (a + k) ns ≡ some (a + i)
unfolding first_left
left-from k [] a i e = absurd (let z : ◌≡◌ {A = ℕ} 0 1 = cc in omega arith)
left-from k (n ∷ ns) a i e = by (ltb 0 n) refl (left-from (suc k) ns a i)
  where
    by : (t : Bool) → ltb 0 n ≡ t → (first_left (suc k) ns ≡ some i → first_left (a + suc k) ns ≡ some (a + i)) → first_left (a + k) (n ∷ ns) ≡ some (a + i)
    by true t r =
        let f : some k ≡ some i = rw (t, first_left) at e in
        let g : k ≡ i = cc in
        rw (t, first_left, g)
    by false t r = let f : suc (a + k) ≡ a + suc k = omega arith in rw (t, first_left, f) (r (rw (t, first_left) at e))

pub left-shifted : (a i : ℕ) (ns : List ℕ) → first_left 0 ns ≡ some i → first_left a ns ≡ some (a + i)
left-shifted a i ns e = let z : a + 0 ≡ a = omega arith in rw z at (left-from 0 ns a i e)

pub left-none : (k a : ℕ) (ns : List ℕ) → first_left k ns ≡ none → first_left a ns ≡ none
unfolding first_left
left-none k a [] e = refl
left-none k a (n ∷ ns) e = by (ltb 0 n) refl (left-none (suc k) (suc a) ns)
  where
    by : (t : Bool) → ltb 0 n ≡ t → (first_left (suc k) ns ≡ none → first_left (suc a) ns ≡ none) → first_left a (n ∷ ns) ≡ none
    by true t r = absurd (let f : some k ≡ none = rw (t, first_left) at e in let z : ◌≡◌ {A = ℕ} 0 1 = cc in omega arith)
    by false t r = rw (t, first_left) (r (rw (t, first_left) at e))

-- what is found stands among the counts
pub left-among : (k : ℕ) (ns : List ℕ) (i : ℕ) → first_left k ns ≡ some i → i < k + length ns
unfolding first_left
left-among k [] i e = absurd (let z : ◌≡◌ {A = ℕ} 0 1 = cc in omega arith)
left-among k (n ∷ ns) i e = by (ltb 0 n) refl (left-among (suc k) ns i)
  where
    by : (t : Bool) → ltb 0 n ≡ t → (first_left (suc k) ns ≡ some i → i < suc k + length ns) → i < k + suc (length ns)
    by true t r =
        let f : some k ≡ some i = rw (t, first_left) at e in
        let g : k ≡ i = cc in
        omega arith
    by false t r = omega (arith, r (rw (t, first_left) at e))

-- the counts after cut k is done once
pub spent-at : (ns : List ℕ) (k : ℕ) → 1 ≤ k → spent ns k ≡ set ns (k - 1) (get_or ns (k - 1) 0 - 1)
unfolding spent
spent-at ns zero h = absurd (omega arith)
spent-at ns (suc k) h = let e : suc k - 1 ≡ k = omega arith in rw e

-- the counts of the cuts that pass a test fall by 1 where such a cut is done
pub count-falls : (test : Cut → Bool) (cs : List Cut) (ns : List ℕ) (d : ℕ) → d < length cs → 0 < get_or ns d 0 → count_of test cs ns ≡ cond (test (get_or cs d no_cut)) 1 0 + count_of test cs (set ns d (get_or ns d 0 - 1))
unfolding count_of
count-falls test [] ns d h g = absurd (omega arith)
count-falls test (c ∷ cs) [] d h g = absurd (omega arith)
count-falls test (c ∷ cs) (n ∷ ns) zero h g = go (test c)
  where
    go : (t : Bool) → cond t n 0 + count_of test cs ns ≡ cond t 1 0 + (cond t (n - 1) 0 + count_of test cs ns)
    go true = omega arith
    go false = omega arith
count-falls test (c ∷ cs) (n ∷ ns) (suc d) h g = omega (arith, count-falls test cs ns d (omega arith) g)
