-- The counts that lines 3 give, with one line more: its own count, where its cut comes after all others.
use Prim.Native.Nat.{ℕ, zero, suc, ◌+◌, ◌-◌, ◌≤◌, ◌<◌}
use native.Mathlib.Decide.{ℕ_discrete}
use native.Mathlib.Omega.{arith}
use mathlib.Core.Path.{◌≡◌, refl, sym, ap, ◌∙◌}
use mathlib.Core.Bool.{Bool, true, false}
use mathlib.Core.List.{List, [], ◌∷◌, ◌++◌}
use lib.Dec.{eqb}
use lib.ListN.{length, get_or, set, replicate, length-set, length-replicate, replicate-append-replicate}
use lib.Seq.{ext_get_or, get_or-set_same, get_or-set_other, set-append_left}
use borrow.Author.Tests.{eq-eqb, ne_eqb}
use Rattle.job.specs.Lists.{sum_of}
use Rattle.job.specs.Verdict.{pass}
use Rattle.job.specs.Buffers.{filled}
use Rattle.job.proofs.Sums.{sum_of-append}
use Rattle.listing.specs.Listing.{Listing}
use Rattle.listing.specs.Holds.{Holds}
use Rattle.texts.specs.SawText.{Counted, named_cut, cuts_rising, count_for, counts_from, plan_counts}
use Rattle.texts.proofs.CallRows.{counts-length}
use Rattle.saw_text_body.specs.PlanRead.{last_cut}
use Rattle.saw_text_body.proofs.PlanLaws.{rising-parts, last_up}

module _ (l : Listing) where
  -- what a line gives to cut k
  abbrev gives : ℕ → Counted → ℕ
  gives k r = elim (eqb (named_cut l r) k) [ true ↦ r.count | false ↦ 0 ]

  gives-own : (k : ℕ) (r : Counted) → named_cut l r ≡ k → gives k r ≡ r.count
  gives-own k r e = go (eqb (named_cut l r) k) (eq-eqb (named_cut l r) k e)
    where
      go : (t : Bool) → t ≡ true → elim t [ true ↦ r.count | false ↦ 0 ] ≡ r.count
      go true p = refl
      go false p = let z : ◌≡◌ {A = ℕ} 0 1 = cc in absurd (omega arith)

  gives_none : (k : ℕ) (r : Counted) → (named_cut l r ≡ k → ⊥) → gives k r ≡ 0
  gives_none k r e = go (eqb (named_cut l r) k) (ne_eqb (named_cut l r) k e)
    where
      go : (t : Bool) → t ≡ false → ◌≡◌ {A = ℕ} (elim t [ true ↦ r.count | false ↦ 0 ]) 0
      go true p = let z : ◌≡◌ {A = ℕ} 0 1 = cc in absurd (omega arith)
      go false p = refl

  count_next : (k : ℕ) (rs : List Counted) (r : Counted) → count_for l (rs ++ r ∷ []) k ≡ count_for l rs k + gives k r
  unfolding count_for sum_of
  count_next k rs r = sum_of-append (gives k) rs (r ∷ []) ∙ omega arith

  -- a cut after the last is not counted yet
  count_none : (c k i : ℕ) (rs : List Counted) → cuts_rising l c k rs ≡ pass → last_cut l c rs < i → count_for l rs i ≡ 0
  unfolding count_for sum_of last_cut
  count_none c k i [] h g = refl
  count_none c k i (r ∷ rs) h g =
      let w = rising-parts l c k r rs h in
      let up = last_up l (named_cut l r) (suc k) rs w.1 in
      let one = gives_none i r (λ e. omega arith) in
      let rest = count_none (named_cut l r) (suc k) i rs w.1 g in
      omega (arith, one, rest)

  counts-at : (rs : List Counted) (k n i : ℕ) → i < n → get_or (counts_from l rs k n) i 0 ≡ count_for l rs (k + i)
  unfolding counts_from
  counts-at rs k zero i h = absurd (omega arith)
  counts-at rs k (suc n) zero h = let e : k + 0 ≡ k = omega arith in rw e
  counts-at rs k (suc n) (suc i) h = let e : k + suc i ≡ suc k + i = omega arith in rw e (counts-at rs (suc k) n i (omega arith))

  count_at : (rs : List Counted) (i : ℕ) → i < length l.cuts → get_or (plan_counts l rs) i 0 ≡ count_for l rs (suc i)
  unfolding plan_counts
  count_at rs i h = let e : 1 + i ≡ suc i = omega arith in counts-at rs 1 (length l.cuts) i h ∙ ap (count_for l rs) e

  -- the counts with a line whose cut c comes after the last
  pub counts-next :
      (k c : ℕ) (rs : List Counted) (r : Counted)
      → cuts_rising l 0 k rs ≡ pass
      → last_cut l 0 rs < c
      → named_cut l r ≡ c
      → c ≤ length l.cuts
      → plan_counts l (rs ++ r ∷ []) ≡ set (plan_counts l rs) (c - 1) r.count
  counts-next k c rs r h g e m = ext_get_or 0 _ _ (counts-length l (rs ++ r ∷ []) ∙ sym (length-set (plan_counts l rs) (c - 1) r.count ∙ counts-length l rs)) each
    where
      each : (i : ℕ) → i < length (plan_counts l (rs ++ r ∷ [])) → get_or (plan_counts l (rs ++ r ∷ [])) i 0 ≡ get_or (set (plan_counts l rs) (c - 1) r.count) i 0
      each i b = go (ℕ_discrete i (c - 1))
        where
          inside : i < length l.cuts
          inside = omega (arith, b, counts-length l (rs ++ r ∷ []))

          new : get_or (plan_counts l (rs ++ r ∷ [])) i 0 ≡ count_for l rs (suc i) + gives (suc i) r
          new = count_at (rs ++ r ∷ []) i inside ∙ count_next (suc i) rs r

          go : Dec (i ≡ c - 1) → get_or (plan_counts l (rs ++ r ∷ [])) i 0 ≡ get_or (set (plan_counts l rs) (c - 1) r.count) i 0
          go (yes p) =
              let none = count_none 0 k (suc i) rs h (omega arith) in
              let own = gives-own (suc i) r (omega arith) in
              let sum : count_for l rs (suc i) + gives (suc i) r ≡ r.count = omega (arith, none, own) in
              new ∙ sum ∙ sym (rw p (get_or-set_same (plan_counts l rs) (c - 1) r.count 0 (omega (arith, counts-length l rs))))
          go (no p) =
              let other = gives_none (suc i) r (λ q. p (omega arith)) in
              let old = count_at rs i inside in
              let sum : count_for l rs (suc i) + gives (suc i) r ≡ get_or (plan_counts l rs) i 0 = omega (arith, other, old) in
              new ∙ sum ∙ sym (get_or-set_other (plan_counts l rs) (c - 1) i r.count 0 p)

-- no line counts nothing
from_zero : (l : Listing) (k n : ℕ) → counts_from l [] k n ≡ replicate n 0
unfolding counts_from count_for sum_of
from_zero l k zero = refl
from_zero l k (suc n) = ap (λ (ns : List ℕ). 0 ∷ ns) (from_zero l (suc k) n)

pub counts_zero : (l : Listing) → plan_counts l [] ≡ replicate (length l.cuts) 0
unfolding plan_counts
counts_zero l = from_zero l 1 (length l.cuts)

-- a buffer of zeros holds as many zeros as it has room for
pub held-zeros : {buffer : List ℕ} (n : ℕ) (ws : List ℕ) → ws ≡ replicate n 0 → n ≤ length buffer → Holds buffer [] → Holds buffer ws
unfolding filled
held-zeros {buffer} n ws e h r =
    let k : length ws ≡ n = ap length e ∙ length-replicate n 0 in
    let m : length buffer - 0 ≡ n + (length buffer - n) = omega arith in
    record { words = r.words ∙ rw (m, k, e) (sym (replicate-append-replicate n (length buffer - n) 0)) }

-- one word of a buffer that holds words is set
pub held-set : {buffer ws : List ℕ} (i v : ℕ) → i < length ws → Holds buffer ws → Holds (set buffer i v) (set ws i v)
unfolding filled
held-set {buffer} {ws} i v h r =
    record {
      words = rw (length-set, length-set) (ap (λ (b : List ℕ). set b i v) r.words ∙ set-append_left ws (replicate (length buffer - length ws) 0) i v h);
    }
