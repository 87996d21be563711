-- The index with one plate type more.
use mathlib.Core.Path.{◌≡◌, refl, sym, ◌∙◌, ap}
use Prim.Native.Nat.{ℕ, zero, suc, ◌+◌, ◌≤◌, ◌<◌}
use mathlib.Core.Logic.{◌⊎◌, inl, inr}
use mathlib.Core.Bool.{Bool, true, false}
use mathlib.Core.List.{List, [], ◌∷◌, ◌++◌}
use native.Mathlib.Omega.{arith}
use borrow.Author.Tests.{le-leb, eqb-true, eqb-false}
use lib.Dec.{eqb}
use lib.ListN.{length, get_or, set, length-set, length-append, get_or-append}
use lib.Seq.{get_or-set_same, get_or-set_other, get_or-append_seam}
use Rattle.job.specs.Sizes.{max_plates}
use Rattle.job.proofs.Tests.{at-most-or-above}
use Rattle.listing.specs.declared.plate.Plate.{Plate}
use Rattle.listing.specs.Plate.{waste}
use Rattle.listing_index.specs.Index.{buckets, index_size, bucket_of, in_bucket, latest, Indexed, New}
use Rattle.listing_index.proofs.Latest.{latest-here, latest-other}

module _ (t : ℕ) (ps : List Plate) (p : Plate) where
  abbrev after : List Plate
  after = ps ++ p ∷ []

  -- the first plate types are as they were, and p is the last
  same_at : (j : ℕ) → j < length ps → get_or after j waste ≡ get_or ps j waste
  same_at j h = get_or-append ps (p ∷ []) waste j h

  last-at : get_or after (length ps) waste ≡ p
  last-at = get_or-append_seam ps p [] waste

  one_more : length after ≡ suc (length ps)
  one_more = rw length-append (omega arith)

  -- they are in their buckets still
  latest-kept : (b n : ℕ) → n ≤ length ps → latest t after b n ≡ latest t ps b n
  unfolding latest
  latest-kept b zero h = refl
  latest-kept b (suc n) h = rw (same_at n (omega arith), latest-kept b n (omega arith))

  module _ (index : List ℕ) (ix : Indexed t ps index) (m : ℕ) (count : length ps ≡ m) (sizes : t ≤ m) (room : index_size ≤ length index) (few : m < max_plates) (small : bucket_of p < buckets) (new : New t ps p) where
    abbrev linked : List ℕ
    linked = set index (buckets + m) (get_or index (bucket_of p) 0)

    abbrev grown : List ℕ
    grown = set linked (bucket_of p) (m + 1)

    last-in : (b : ℕ) (x : Bool) → eqb (bucket_of p) b ≡ x → in_bucket t after b (length ps) ≡ x
    last-in b x e = rw (le-leb t (length ps) (omega arith), last-at) e

    head_of : (b : ℕ) → b < buckets → (x : Bool) → eqb (bucket_of p) b ≡ x → get_or grown b 0 ≡ latest t after b (suc (length ps))
    head_of b l true e =
        let z : bucket_of p ≡ b = eqb-true (bucket_of p) b e in
        let h : get_or grown b 0 ≡ m + 1 = rw (← z) (get_or-set_same linked (bucket_of p) (m + 1) 0 (simp length-set (omega arith))) in
        let n : m + 1 ≡ suc (length ps) = omega arith in
        h
        ∙ n
        ∙ sym (latest-here t after b (length ps) (last-in b true e))
    head_of b l false e =
        get_or-set_other linked (bucket_of p) b (m + 1) 0 (λ z. eqb-false (bucket_of p) b e (sym z))
        ∙ get_or-set_other index (buckets + m) b (get_or index (bucket_of p) 0) 0 (λ z. omega arith)
        ∙ ix.heads b l
        ∙ sym (latest-kept b (length ps) (omega arith))
        ∙ sym (latest-other t after b (length ps) (last-in b false e))

    next_of : (j : ℕ) → (length ps ≤ j) ⊎ (j < length ps) → j < suc (length ps) → get_or grown (buckets + j) 0 ≡ latest t after (bucket_of (get_or after j waste)) j
    next_of j (inl x) l =
        let z : j ≡ length ps = omega arith in
        rw (z, last-at, count)
        (get_or-set_other linked (bucket_of p) (buckets + m) (m + 1) 0 (λ q. omega arith)
        ∙ get_or-set_same index (buckets + m) (get_or index (bucket_of p) 0) 0 (omega arith)
        ∙ ix.heads (bucket_of p) small
        ∙ sym (latest-kept (bucket_of p) (length ps) (omega arith))
        ∙ ap (latest t after (bucket_of p)) count)
    next_of j (inr x) l =
        get_or-set_other linked (bucket_of p) (buckets + j) (m + 1) 0 (λ q. omega arith)
        ∙ get_or-set_other index (buckets + m) (buckets + j) (get_or index (bucket_of p) 0) 0 (λ q. omega arith)
        ∙ ix.nexts j x
        ∙ rw (same_at j x) (sym (latest-kept (bucket_of (get_or ps j waste)) j (omega arith)))

    one_each : (i j : ℕ) → t ≤ i → t ≤ j → (length ps ≤ i) ⊎ (i < length ps) → (length ps ≤ j) ⊎ (j < length ps) → i < suc (length ps) → j < suc (length ps) → get_or after i waste ≡ get_or after j waste → i ≡ j
    one_each i j u v (inl a) (inl c) l k e = omega arith
    one_each i j u v (inl a) (inr c) l k e =
        let z : i ≡ length ps = omega arith in
        absurd (new j v c (sym (same_at j c) ∙ sym e ∙ ap (λ (x : ℕ). get_or after x waste) z ∙ last-at))
    one_each i j u v (inr a) (inl c) l k e =
        let z : j ≡ length ps = omega arith in
        absurd (new i u a (sym (same_at i a) ∙ e ∙ ap (λ (x : ℕ). get_or after x waste) z ∙ last-at))
    one_each i j u v (inr a) (inr c) l k e = ix.distinct i j u v a c (sym (same_at i a) ∙ e ∙ same_at j c)

    pub index-grown : Indexed t after grown
    index-grown =
        record {
          heads = λ b l. head_of b l (eqb (bucket_of p) b) refl ∙ ap (latest t after b) (sym one_more);
          nexts = λ j l. next_of j (at-most-or-above (length ps) j) (omega (arith, one_more));
          distinct = λ i j u v a c e. one_each i j u v (at-most-or-above (length ps) i) (at-most-or-above (length ps) j) (omega (arith, one_more)) (omega (arith, one_more)) e;
        }
