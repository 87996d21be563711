-- Lines 3 with one line more: the first that a test refuses, as 8 and 20 do, the first refused by 9, and those that rise.
use Prim.Native.Nat.{ℕ, suc, ◌+◌, ◌≤◌}
use native.Mathlib.Omega.{arith}
use mathlib.Core.Path.{◌≡◌, refl, ap, ◌∙◌}
use mathlib.Core.Bool.{Bool, true, false}
use mathlib.Core.List.{List, [], ◌∷◌, ◌++◌}
use lib.Dec.{leb}
use lib.ListN.{length}
use borrow.Author.Tests.{leb-false}
use Rattle.job.specs.Verdict.{pass, refuse, refuse_if, lowest}
use Rattle.job.proofs.Verdicts.{pass-not-refuse, lowest-append}
use Rattle.listing.specs.Listing.{Listing}
use Rattle.texts.specs.SawText.{Counted, named_cut, cuts_rising}
use Rattle.saw_text_body.specs.PlanRead.{risen, last_cut}

-- ---- 8 and 20: a test of each line by itself, with its number

module _ (number : ℕ) (bad : Counted → Bool) where
  pub first_next :
      (k : ℕ) (rs : List Counted) (r : Counted)
      → lowest number (λ _ s. bad s) k rs ≡ pass
      → lowest number (λ _ s. bad s) k (rs ++ r ∷ []) ≡ refuse_if (bad r) number (k + length rs)
  unfolding lowest
  first_next k rs r h = lowest-append number (λ _ s. bad s) k rs (r ∷ []) ∙ rw h (go (bad r))
    where
      go : (t : Bool) → elim t [ true ↦ refuse number (k + length rs) | false ↦ pass ] ≡ refuse_if t number (k + length rs)
      go true = refl
      go false = refl

  pub first-stays :
      (k : ℕ) (rs ss : List Counted) {m p : ℕ}
      → lowest number (λ _ s. bad s) k rs ≡ refuse m p
      → lowest number (λ _ s. bad s) k (rs ++ ss) ≡ refuse m p
  first-stays k rs ss h = lowest-append number (λ _ s. bad s) k rs ss ∙ rw h

module _ (l : Listing) where
  -- ---- 9

  -- the first line rises, and the rest after it
  pub rising-parts :
      (c k : ℕ) (r : Counted) (rs : List Counted)
      → cuts_rising l c k (r ∷ rs) ≡ pass
      → (leb (named_cut l r) c ≡ false) × (cuts_rising l (named_cut l r) (suc k) rs ≡ pass)
  unfolding cuts_rising
  rising-parts c k r rs h = go (leb (named_cut l r) c) h
    where
      go :
          (t : Bool)
          → elim t [ true ↦ refuse 9 k | false ↦ cuts_rising l (named_cut l r) (suc k) rs ] ≡ pass
          → (t ≡ false) × (cuts_rising l (named_cut l r) (suc k) rs ≡ pass)
      go true p = absurd (pass-not-refuse p refl)
      go false p = (refl, p)

  pub rising-next :
      (c k : ℕ) (rs : List Counted) (r : Counted)
      → cuts_rising l c k rs ≡ pass
      → cuts_rising l c k (rs ++ r ∷ []) ≡ refuse_if (leb (named_cut l r) (last_cut l c rs)) 9 (k + length rs)
  unfolding cuts_rising last_cut
  rising-next c k [] r h = let e : k + 0 ≡ k = omega arith in rw e (go (leb (named_cut l r) c))
    where
      go : (t : Bool) → elim t [ true ↦ refuse 9 k | false ↦ pass ] ≡ refuse_if t 9 k
      go true = refl
      go false = refl
  rising-next c k (s ∷ rs) r h =
      let w = rising-parts c k s rs h in
      let e : k + suc (length rs) ≡ suc k + length rs = omega arith in
      rw (w.0, cuts_rising, e) (rising-next (named_cut l s) (suc k) rs r w.1)

  pub rising_stays : (c k : ℕ) (rs ss : List Counted) {m p : ℕ} → cuts_rising l c k rs ≡ refuse m p → cuts_rising l c k (rs ++ ss) ≡ refuse m p
  unfolding cuts_rising
  rising_stays c k [] ss h = absurd (pass-not-refuse refl h)
  rising_stays c k (r ∷ rs) ss {m} {p} h = go (leb (named_cut l r) c) h (λ q. rising_stays (named_cut l r) (suc k) rs ss q)
    where
      go :
          (t : Bool)
          → elim t [ true ↦ refuse 9 k | false ↦ cuts_rising l (named_cut l r) (suc k) rs ] ≡ refuse m p
          → (cuts_rising l (named_cut l r) (suc k) rs ≡ refuse m p → cuts_rising l (named_cut l r) (suc k) (rs ++ ss) ≡ refuse m p)
          → elim t [ true ↦ refuse 9 k | false ↦ cuts_rising l (named_cut l r) (suc k) (rs ++ ss) ] ≡ refuse m p
      go true q ih = q
      go false q ih = ih q

  -- ---- the lines that rise

  pub risen-all : (c k : ℕ) (rs : List Counted) → cuts_rising l c k rs ≡ pass → risen l c rs ≡ rs
  unfolding risen
  risen-all c k [] h = refl
  risen-all c k (r ∷ rs) h =
      let w = rising-parts c k r rs h in
      rw (w.0, risen) (ap (λ (ss : List Counted). r ∷ ss) (risen-all (named_cut l r) (suc k) rs w.1))

  -- a line that falls adds none
  pub risen-falls :
      (c k : ℕ) (rs : List Counted) (r : Counted)
      → cuts_rising l c k rs ≡ pass
      → leb (named_cut l r) (last_cut l c rs) ≡ true
      → risen l c (rs ++ r ∷ []) ≡ rs
  unfolding risen last_cut
  risen-falls c k [] r h t = rw (t, risen)
  risen-falls c k (s ∷ rs) r h t =
      let w = rising-parts c k s rs h in
      rw (w.0, risen) (ap (λ (ss : List Counted). s ∷ ss) (risen-falls (named_cut l s) (suc k) rs r w.1 t))

  -- nor does any after it
  pub risen-stays : (c k : ℕ) (rs ss : List Counted) {m p : ℕ} → cuts_rising l c k rs ≡ refuse m p → risen l c (rs ++ ss) ≡ risen l c rs
  unfolding cuts_rising risen
  risen-stays c k [] ss h = absurd (pass-not-refuse refl h)
  risen-stays c k (r ∷ rs) ss {m} {p} h = go (leb (named_cut l r) c) h (λ q. risen-stays (named_cut l r) (suc k) rs ss q)
    where
      go :
          (t : Bool)
          → elim t [ true ↦ refuse 9 k | false ↦ cuts_rising l (named_cut l r) (suc k) rs ] ≡ refuse m p
          → (cuts_rising l (named_cut l r) (suc k) rs ≡ refuse m p → risen l (named_cut l r) (rs ++ ss) ≡ risen l (named_cut l r) rs)
          → ◌≡◌ {A = List Counted} (elim t [ true ↦ [] | false ↦ r ∷ risen l (named_cut l r) (rs ++ ss) ]) (elim t [ true ↦ [] | false ↦ r ∷ risen l (named_cut l r) rs ])
      go true q ih = refl
      go false q ih = ap (λ (ts : List Counted). r ∷ ts) (ih q)

  -- the last of lines with one more
  pub last-next : (c : ℕ) (rs : List Counted) (r : Counted) → last_cut l c (rs ++ r ∷ []) ≡ named_cut l r
  unfolding last_cut
  last-next c [] r = refl
  last-next c (s ∷ rs) r = last-next (named_cut l s) rs r

  -- lines that rise end no lower than they begin
  pub last_up : (c k : ℕ) (rs : List Counted) → cuts_rising l c k rs ≡ pass → c ≤ last_cut l c rs
  unfolding last_cut
  last_up c k [] h = omega arith
  last_up c k (r ∷ rs) h =
      let w = rising-parts c k r rs h in
      omega (arith, leb-false (named_cut l r) c w.0, last_up (named_cut l r) (suc k) rs w.1)
