-- The greatest number of a bucket: it is at most the limit and in the bucket, and none between is.
use mathlib.Core.Path.{◌≡◌, refl, sym, ◌∙◌}
use Prim.Native.Nat.{ℕ, zero, suc, ◌≤◌, ◌<◌}
use mathlib.Core.Logic.{◌⊎◌, inl, inr}
use mathlib.Core.Bool.{Bool, true, false}
use mathlib.Core.List.{List}
use native.Mathlib.Omega.{arith}
use borrow.Author.Tests.{leb-true}
use lib.Dec.{leb, eqb}
use lib.ListN.{get_or}
use Rattle.job.proofs.Tests.{not-both, and_left, at-most-or-above}
use Rattle.listing.specs.declared.plate.Plate.{Plate}
use Rattle.listing.specs.Plate.{waste}
use Rattle.listing_index.specs.Index.{bucket_of, in_bucket, latest}

module _ (t : ℕ) (ps : List Plate) (b : ℕ) where
  -- one number more, in the bucket or not
  pub latest-here : (j : ℕ) → in_bucket t ps b j ≡ true → latest t ps b (suc j) ≡ suc j
  unfolding latest
  latest-here j e = rw (e, latest)

  pub latest-other : (j : ℕ) → in_bucket t ps b j ≡ false → latest t ps b (suc j) ≡ latest t ps b j
  unfolding latest
  latest-other j e = rw (e, latest)

  latest-none : latest t ps b 0 ≡ 0
  unfolding latest
  latest-none = refl

  -- it is at most the limit
  pub latest-most : (n : ℕ) → latest t ps b n ≤ n
  latest-most zero = rw latest-none (omega arith)
  latest-most (suc n) = go (in_bucket t ps b n) refl (latest-most n)
    where
      go : (x : Bool) → in_bucket t ps b n ≡ x → latest t ps b n ≤ n → latest t ps b (suc n) ≤ suc n
      go true e h = rw (latest-here n e) (omega arith)
      go false e h = rw (latest-other n e) (omega arith)

  -- it is in the bucket
  pub latest-in : (n j : ℕ) → latest t ps b n ≡ suc j → in_bucket t ps b j ≡ true
  latest-in zero j h = absurd (omega (arith, latest-none))
  latest-in (suc n) j h = go (in_bucket t ps b n) refl (latest-in n j)
    where
      go : (x : Bool) → in_bucket t ps b n ≡ x → (latest t ps b n ≡ suc j → in_bucket t ps b j ≡ true) → in_bucket t ps b j ≡ true
      go true e f = let z : n ≡ j = omega (arith, latest-here n e) in rw (← z) e
      go false e f = f (sym (latest-other n e) ∙ h)

  -- none between it and the limit is
  pub latest-past : (n i : ℕ) → i < n → latest t ps b n ≤ i → in_bucket t ps b i ≡ true → ⊥
  latest-past zero i l h e = absurd (omega arith)
  latest-past (suc n) i l h e = go (in_bucket t ps b n) refl (at-most-or-above n i) (latest-past n i)
    where
      go : (x : Bool) → in_bucket t ps b n ≡ x → (n ≤ i) ⊎ (i < n) → (i < n → latest t ps b n ≤ i → in_bucket t ps b i ≡ true → ⊥) → ⊥
      go true q c f = absurd (omega (arith, latest-here n q))
      go false q (inl a) f = let z : i ≡ n = omega arith in not-both (rw z at e) q
      go false q (inr a) f = f a (omega (arith, latest-other n q)) e

  -- below the t sizes there is none
  pub latest-sizes : (n : ℕ) → n ≤ t → latest t ps b n ≡ 0
  latest-sizes n h = go (latest t ps b n) refl
    where
      go : (k : ℕ) → latest t ps b n ≡ k → k ≡ 0
      go zero e = refl
      go (suc j) e =
          let low = leb-true t j (and_left (leb t j) (eqb (bucket_of (get_or ps j waste)) b) (latest-in n j e)) in
          absurd (omega (arith, latest-most n))
