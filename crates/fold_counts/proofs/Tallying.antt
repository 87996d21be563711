-- A tally with one number more.
use Prim.Native.Nat.{ℕ, zero, suc, ◌+◌, ◌-◌, ◌≤◌, ◌<◌}
use native.Mathlib.Omega.{arith}
use mathlib.Core.Path.{◌≡◌, refl, sym, ap, ap₂, ◌∙◌}
use mathlib.Core.Bool.{Bool, true, false, cond}
use mathlib.Core.List.{List, [], ◌∷◌, ◌++◌}
use lib.Dec.{eqb, ltb}
use lib.ListN.{length, get_or, set, length-set, get_or-eq_default}
use lib.Seq.{ext_get_or, get_or-set_same, get_or-set_other}
use borrow.Author.Tests.{eqb-true, eqb-false, ltb-true, ltb-false, ne_eqb, eq-eqb}
use Rattle.job.specs.Lists.{occurs, tally}
use Rattle.job.specs.Buffers.{filled}
use Rattle.job.proofs.Sums.{occurs-append, occurs-here, occurs-other, occurs-length, tally-length, tally-at}
use Rattle.job.proofs.Buffers.{filled-length, filled-read}
use Rattle.listing.specs.Holds.{Holds}
use Rattle.listing.proofs.CodeHolds.{held_word}

-- a number alone
occurs-none : (i : ℕ) → occurs i [] ≡ 0
occurs-none i = let e : occurs i [] ≤ 0 = occurs-length i [] in omega arith

occurs-one : (i c : ℕ) → occurs i (c ∷ []) ≡ cond (eqb c i) 1 0
occurs-one i c = go (eqb c i) refl
  where
    go : (t : Bool) → eqb c i ≡ t → occurs i (c ∷ []) ≡ cond t 1 0
    go true e = let s : c ≡ i = eqb-true c i e in rw s (occurs-here i [] ∙ rw (occurs-none i))
    go false e = occurs-other i c [] (eqb-false c i e) ∙ occurs-none i

-- 0 is no cut's number, and is not counted
pub tally-zero : (n k : ℕ) (ks : List ℕ) → tally n (suc k) (ks ++ 0 ∷ []) ≡ tally n (suc k) ks
unfolding tally
tally-zero zero k ks = refl
tally-zero (suc n) k ks =
    let e : occurs (suc k) (ks ++ 0 ∷ []) ≡ occurs (suc k) ks = occurs-append (suc k) ks (0 ∷ []) ∙ rw (occurs-one (suc k) 0, ne_eqb 0 (suc k) (λ z. omega arith)) (omega arith) in
    ap₂ (λ (x : ℕ) (xs : List ℕ). x ∷ xs) e (tally-zero n (suc k) ks)

-- the count of one of k cuts is one more
tally-more : (k c i : ℕ) (ks : List ℕ) → 1 ≤ c → c ≤ k → get_or (tally k 1 (ks ++ c ∷ [])) i 0 ≡ get_or (tally k 1 ks) i 0 + cond (eqb (c - 1) i) 1 0
tally-more k c i ks h l = go (ltb i k) refl
  where
    same : (t : Bool) → eqb (c - 1) i ≡ t → ◌≡◌ {A = ℕ} (cond (eqb c (1 + i)) 1 0) (cond t 1 0)
    same true e = let z : c - 1 ≡ i = eqb-true (c - 1) i e in rw (eq-eqb c (1 + i) (omega arith)) refl
    same false e = rw (ne_eqb c (1 + i) (λ z. eqb-false (c - 1) i e (omega arith))) refl

    go : (t : Bool) → ltb i k ≡ t → get_or (tally k 1 (ks ++ c ∷ [])) i 0 ≡ get_or (tally k 1 ks) i 0 + cond (eqb (c - 1) i) 1 0
    go true e =
        let p : i < k = ltb-true i k e in
        rw (tally-at k 1 (ks ++ c ∷ []) i 0 p, tally-at k 1 ks i 0 p, occurs-append (1 + i) ks (c ∷ []), occurs-one (1 + i) c)
        (ap (λ (x : ℕ). occurs (1 + i) ks + x) (same (eqb (c - 1) i) refl))
    go false e =
        let p : k ≤ i = ltb-false i k e in
        let a : length (tally k 1 (ks ++ c ∷ [])) ≡ k = tally-length k 1 (ks ++ c ∷ []) in
        let b : length (tally k 1 ks) ≡ k = tally-length k 1 ks in
        rw (get_or-eq_default (tally k 1 (ks ++ c ∷ [])) 0 {n = i} (omega arith), get_or-eq_default (tally k 1 ks) 0 {n = i} (omega arith), ne_eqb (c - 1) i (λ z. omega arith)) refl

-- one more in word j
added-one : (s : List ℕ) (j i : ℕ) (t : Bool) → eqb j i ≡ t → j < length s → get_or (set s j (get_or s j 0 + 1)) i 0 ≡ get_or s i 0 + cond t 1 0
added-one s j i true e h = let z : j ≡ i = eqb-true j i e in rw z (get_or-set_same s i (get_or s i 0 + 1) 0 (omega arith))
added-one s j i false e h = get_or-set_other s j i (get_or s j 0 + 1) 0 (λ z. eqb-false j i e (sym z)) ∙ omega arith

-- a buffer that holds the counts of k cuts, one of which is done once more
pub counted-more : {counts : List ℕ} (k c : ℕ) (ks : List ℕ) → 1 ≤ c → c ≤ k → k ≤ length counts → Holds counts (tally k 1 ks) → Holds (set counts (c - 1) (get_or counts (c - 1) 0 + 1)) (tally k 1 (ks ++ c ∷ []))
counted-more {counts} k c ks h l r held =
    let after = set counts (c - 1) (get_or counts (c - 1) 0 + 1) in
    let more = tally k 1 (ks ++ c ∷ []) in
    let size : length after ≡ length counts = length-set counts (c - 1) (get_or counts (c - 1) 0 + 1) in
    let m : length more ≡ k = tally-length k 1 (ks ++ c ∷ []) in
    let same : length after ≡ length (filled (length after) more) = sym (filled-length (length after) more (omega arith)) in
    record {
      words = ext_get_or 0 after (filled (length after) more) same (λ i p.
          added-one counts (c - 1) i (eqb (c - 1) i) refl (omega arith)
          ∙ rw (held_word (tally k 1 ks) held i) (sym (filled-read (length after) more i ∙ tally-more k c i ks h l)));
    }

-- no count is above the number of cuts done
pub counted-small : {counts : List ℕ} (k i : ℕ) (ks : List ℕ) → i < k → Holds counts (tally k 1 ks) → get_or counts i 0 ≤ length ks
counted-small {counts} k i ks h held =
    let e : get_or counts i 0 ≡ occurs (1 + i) ks = held_word (tally k 1 ks) held i ∙ tally-at k 1 ks i 0 h in
    omega (arith, occurs-length (1 + i) ks)
