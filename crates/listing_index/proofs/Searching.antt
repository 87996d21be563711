-- The search of a plate type along its bucket, on plain values.
use mathlib.Core.Path.{◌≡◌, sym, ◌∙◌, ap}
use Prim.Native.Nat.{ℕ, suc, ◌+◌, ◌≤◌, ◌<◌}
use mathlib.Core.Logic.{◌⊎◌, inl, inr}
use mathlib.Core.Bool.{true}
use mathlib.Core.List.{List}
use native.Mathlib.Omega.{arith}
use borrow.Author.Tests.{leb-true, le-leb, eqb-true, eq-eqb}
use lib.Dec.{leb, eqb}
use lib.ListN.{length, get_or}
use Rattle.job.proofs.Tests.{at-most-or-above, and_left, and_right, and_both}
use Rattle.listing.specs.declared.plate.Plate.{Plate}
use Rattle.listing.specs.Plate.{waste}
use Rattle.listing.specs.Listing.{number_from}
use Rattle.listing.proofs.Numbers.{from-at-most, from_found, from-before}
use Rattle.listing_index.specs.Index.{buckets, bucket_of, in_bucket, latest, Indexed}
use Rattle.listing_index.proofs.Latest.{latest-most, latest-in, latest-past}

-- p, sought among the residual types of a list, is none from number k on, and the one before k, if there is one, is in its bucket
pub record At (t : ℕ) (ps : List Plate) (p : Plate) (k : ℕ) : Type 0 where
  pub most : k ≤ length ps
  pub past : (i : ℕ) → t ≤ i → k ≤ i → i < length ps → get_or ps i waste ≡ p → ⊥
  pub here : (j : ℕ) → k ≡ suc j → in_bucket t ps (bucket_of p) j ≡ true

module _ (t : ℕ) (ps : List Plate) (index : List ℕ) (p : Plate) (ix : Indexed t ps index) where
  -- a residual type that is p is in its bucket
  in-its : (i : ℕ) → t ≤ i → get_or ps i waste ≡ p → in_bucket t ps (bucket_of p) i ≡ true
  in-its i a q = and_both (leb t i) (eqb (bucket_of (get_or ps i waste)) (bucket_of p)) (le-leb t i a) (eq-eqb _ _ (ap bucket_of q))

  -- from a limit n down, from which on p is not
  from-limit : (n k : ℕ) → n ≤ length ps → k ≡ latest t ps (bucket_of p) n → ((i : ℕ) → t ≤ i → n ≤ i → i < length ps → get_or ps i waste ≡ p → ⊥) → At t ps p k
  from-limit n k l e f =
      record {
        most = omega (arith, latest-most t ps (bucket_of p) n);
        past = λ i s a c q. go i (at-most-or-above n i) s a c q;
        here = λ j a. latest-in t ps (bucket_of p) n j (sym e ∙ a);
      }
    where
      go : (i : ℕ) → (n ≤ i) ⊎ (i < n) → t ≤ i → k ≤ i → i < length ps → get_or ps i waste ≡ p → ⊥
      go i (inl x) s a c q = f i s x c q
      go i (inr x) s a c q = latest-past t ps (bucket_of p) n i x (omega arith) (in-its i s q)

  pub at-start : (k : ℕ) → bucket_of p < buckets → k ≡ get_or index (bucket_of p) 0 → At t ps p k
  at-start k s e = from-limit (length ps) k (omega arith) (e ∙ ix.heads (bucket_of p) s) (λ i s a c q. omega arith)

  module _ (k j : ℕ) (one : k ≡ suc j) (a : At t ps p k) where
    pub at_next : (k' : ℕ) → (get_or ps j waste ≡ p → ⊥) → k' ≡ get_or index (buckets + j) 0 → At t ps p k'
    at_next k' d e = from-limit j k' (omega (arith, a.most)) (e ∙ ix.nexts j (omega (arith, a.most)) ∙ ap (λ (c : ℕ). latest t ps c j) same-bucket) go
      where
        same-bucket : bucket_of (get_or ps j waste) ≡ bucket_of p
        same-bucket = eqb-true _ _ (and_right (leb t j) (eqb (bucket_of (get_or ps j waste)) (bucket_of p)) (a.here j one))

        go : (i : ℕ) → t ≤ i → j ≤ i → i < length ps → get_or ps i waste ≡ p → ⊥
        go i s l c q = by (at-most-or-above k i)
          where
            by : (k ≤ i) ⊎ (i < k) → ⊥
            by (inl x) = a.past i s x c q
            by (inr x) = let z : i ≡ j = omega arith in d (rw z at q)

    -- the one before k is a residual type; where it is p, it has p's number
    pub at-found : get_or ps j waste ≡ p → j ≡ number_from t ps p
    at-found e = go (at-most-or-above (number_from t ps p) j) (at-most-or-above j (number_from t ps p))
      where
        past-sizes : t ≤ j
        past-sizes = leb-true t j (and_left (leb t j) (eqb (bucket_of (get_or ps j waste)) (bucket_of p)) (a.here j one))

        go : (number_from t ps p ≤ j) ⊎ (j < number_from t ps p) → (j ≤ number_from t ps p) ⊎ (number_from t ps p < j) → j ≡ number_from t ps p
        go (inr x) y = absurd (from-before t ps p j past-sizes x e)
        go (inl x) (inl y) = omega arith
        go (inl x) (inr y) =
            let f = from_found t ps p (omega (arith, a.most)) in
            absurd (omega (arith, ix.distinct (number_from t ps p) j f.0 past-sizes (omega (arith, a.most)) (omega (arith, a.most)) (f.1 ∙ sym e)))

  -- where none is left, p is new
  pub at_new : (k : ℕ) → k ≤ 0 → At t ps p k → length ps ≡ number_from t ps p
  at_new k z a = go (at-most-or-above (length ps) (number_from t ps p))
    where
      go : (length ps ≤ number_from t ps p) ⊎ (number_from t ps p < length ps) → length ps ≡ number_from t ps p
      go (inl x) = omega (arith, from-at-most t ps p)
      go (inr x) = let f = from_found t ps p x in absurd (a.past (number_from t ps p) f.0 (omega arith) x f.1)
