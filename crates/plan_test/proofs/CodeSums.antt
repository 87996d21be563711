-- The counts of cuts, added up one cut at a time; the total, and what bounds each sum.
use mathlib.Core.Path.{◌≡◌, refl, sym, ◌∙◌}
use Prim.Native.Nat.{ℕ, zero, suc, ◌+◌, ◌≤◌, ◌<◌}
use mathlib.Core.Bool.{Bool, true, false, cond, ◌||◌}
use mathlib.Core.List.{List, [], ◌∷◌, ◌++◌}
use native.Mathlib.Omega.{arith}
use native.Mathlib.Numerals.{add-one}
use borrow.Author.Tests.{eqb-true, eqb-false}
use lib.Dec.{eqb}
use lib.ListN.{length, get_or, take, length-set}
use lib.Seq.{get_or-set_same, get_or-set_other}
use Rattle.job.specs.Lists.{sum_of}
use Rattle.job.specs.Job.{type_of}
use Rattle.job.proofs.Sums.{sum_of-take}
use Rattle.listing.specs.Listing.{Cut}
use Rattle.plan.specs.Plan.{count_of, of_item, on_plate, leaves_plate, total}
use Rattle.plan_test.specs.Sums.{added, SumsOf, Sums}

-- one cut more adds its count to the sums whose test it passes
count_of-snoc : (test : Cut → Bool) (cs : List Cut) (c : Cut) (ns : List ℕ) → length cs < length ns → count_of test (cs ++ c ∷ []) ns ≡ count_of test cs ns + cond (test c) (get_or ns (length cs) 0) 0
unfolding count_of
count_of-snoc test [] c [] h = absurd (omega arith)
count_of-snoc test [] c (n ∷ ns) h = omega arith
count_of-snoc test (d ∷ cs) c [] h = absurd (omega arith)
count_of-snoc test (d ∷ cs) c (n ∷ ns) h = let e : count_of test (cs ++ c ∷ []) ns ≡ count_of test cs ns + cond (test c) (get_or ns (length cs) 0) 0 = count_of-snoc test cs c ns (omega arith) in omega arith

-- the total of the first counts
total-next : (ns : List ℕ) (c : ℕ) → c < length ns → total (take (suc c) ns) ≡ total (take c ns) + get_or ns c 0
unfolding total
total-next ns c h = sum_of-take (λ n. n) ns c 0 h

pub total-more : (ns : List ℕ) (c : ℕ) → c < length ns → total (take (c + 1) ns) ≡ total (take c ns) + get_or ns c 0
total-more ns c h = rw add-one (total-next ns c h)

-- more counts come to no less
total-up : (ns : List ℕ) (c k : ℕ) → c ≤ k → total (take c ns) ≤ total (take k ns)
unfolding total sum_of
total-up ns zero k h = omega arith
total-up ns (suc c) zero h = absurd (omega arith)
total-up [] (suc c) (suc k) h = omega arith
total-up (n ∷ ns) (suc c) (suc k) h = let e : total (take c ns) ≤ total (take k ns) = total-up ns c k (omega arith) in omega arith

-- no sum is above the total
cond-le : (t : Bool) (n : ℕ) → cond t n 0 ≤ n
cond-le true n = omega arith
cond-le false n = omega arith

pub count_of-le : (test : Cut → Bool) (cs : List Cut) (ns : List ℕ) (c : ℕ) → length cs ≤ c → count_of test cs ns ≤ total (take c ns)
unfolding count_of total sum_of
count_of-le test [] ns c h = omega arith
count_of-le test (d ∷ cs) ns zero h = absurd (omega arith)
count_of-le test (d ∷ cs) [] (suc c) h = omega arith
count_of-le test (d ∷ cs) (n ∷ ns) (suc c) h =
    let e : count_of test cs ns ≤ total (take c ns) = count_of-le test cs ns c (omega arith) in
    let f : cond (test d) n 0 ≤ n = cond-le (test d) n in
    omega arith

-- nor is it with the count of one cut more, of k
pub room : (test : Cut → Bool) (cs : List Cut) (ns : List ℕ) (k : ℕ) → length cs < k → k ≤ length ns → count_of test cs ns + get_or ns (length cs) 0 ≤ total (take k ns)
room test cs ns k h l =
    let a : count_of test cs ns ≤ total (take (length cs) ns) = count_of-le test cs ns (length cs) (omega arith) in
    let b : total (take (suc (length cs)) ns) ≡ total (take (length cs) ns) + get_or ns (length cs) 0 = total-next ns (length cs) (omega arith) in
    let d : total (take (suc (length cs)) ns) ≤ total (take k ns) = total-up ns (suc (length cs)) k (omega arith) in
    omega arith

-- word i after n were added to word j
added-at : (s : List ℕ) (j n i : ℕ) (t : Bool) → eqb j i ≡ t → j < length s → get_or (added s j n) i 0 ≡ get_or s i 0 + cond t n 0
added-at s j n i true e h = let z : j ≡ i = eqb-true j i e in rw z (get_or-set_same s i (get_or s i 0 + n) 0 (omega arith))
added-at s j n i false e h = get_or-set_other s j i (get_or s j 0 + n) 0 (λ z. eqb-false j i e (sym z)) ∙ omega arith

-- one cut more, counted n: each word has what its test lets in
sums_next : (test : ℕ → Cut → Bool) (cs : List Cut) (c : Cut) (ns : List ℕ) (n : ℕ) (s s' : List ℕ) → length cs < length ns → get_or ns (length cs) 0 ≡ n → length s' ≡ length s → ((i : ℕ) → get_or s' i 0 ≡ get_or s i 0 + cond (test i c) n 0) → SumsOf test cs ns s → SumsOf test (cs ++ c ∷ []) ns s'
sums_next test cs c ns n s s' h v l e r i p =
    e i ∙ rw (r i (omega arith), ← v) (sym (count_of-snoc (test i) cs c ns h))

-- a cut leaves two residual types
left_at : (s : List ℕ) (j k n i : ℕ) → j < length s → k < length s → (k ≡ j → ⊥) → get_or (added (added s j n) k n) i 0 ≡ get_or s i 0 + cond (eqb j i || eqb k i) n 0
left_at s j k n i p q d =
    added-at (added s j n) k n i (eqb k i) refl (simp length-set q)
    ∙ rw (added-at s j n i (eqb j i) refl p) (go (eqb j i) (eqb k i) refl refl)
  where
    go : (t u : Bool) → eqb j i ≡ t → eqb k i ≡ u → get_or s i 0 + cond t n 0 + cond u n 0 ≡ get_or s i 0 + cond (t || u) n 0
    go true true e f = absurd (d (eqb-true k i f ∙ sym (eqb-true j i e)))
    go true false e f = omega arith
    go false true e f = omega arith
    go false false e f = omega arith

or_same : (t : Bool) → t ≡ (t || t)
or_same true = refl
or_same false = refl

-- the three sums with one cut more, whose top and right are two types, or one
module _ (cs : List Cut) (c : Cut) (ns : List ℕ) (n : ℕ) (items on left : List ℕ) (h : length cs < length ns) (v : get_or ns (length cs) 0 ≡ n) (i : type_of c.item < length items) (p : c.plate < length on) (t : c.top < length left) (s : Sums cs ns items on left) where
  sums-more : (left' : List ℕ) → length left' ≡ length left → ((j : ℕ) → get_or left' j 0 ≡ get_or left j 0 + cond (leaves_plate j c) n 0) → Sums (cs ++ c ∷ []) ns (added items (type_of c.item) n) (added on c.plate n) left'
  unfolding of_item on_plate
  sums-more left' l e =
      record {
        by-item = sums_next of_item cs c ns n items (added items (type_of c.item) n) h v (simp length-set) (λ j. added-at items (type_of c.item) n j (of_item j c) refl i) s.by-item;
        by-plate = sums_next on_plate cs c ns n on (added on c.plate n) h v (simp length-set) (λ j. added-at on c.plate n j (on_plate j c) refl p) s.by-plate;
        by-residual = sums_next leaves_plate cs c ns n left left' h v l e s.by-residual;
      }

  pub sums-one : c.right ≡ c.top → Sums (cs ++ c ∷ []) ns (added items (type_of c.item) n) (added on c.plate n) (added left c.top n)
  unfolding leaves_plate
  sums-one e = sums-more (added left c.top n) (simp length-set) (λ j. added-at left c.top n j (leaves_plate j c) (rw e (or_same (eqb c.top j))) t)

  pub sums-two : c.right < length left → (c.right ≡ c.top → ⊥) → Sums (cs ++ c ∷ []) ns (added items (type_of c.item) n) (added on c.plate n) (added (added left c.top n) c.right n)
  unfolding leaves_plate
  sums-two r d = sums-more (added (added left c.top n) c.right n) (simp length-set) (λ j. left_at left c.top c.right n j t r d)
