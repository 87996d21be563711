-- How many numbers pass a test: no more than there are values, where each number has a value of its own.
use Prim.Native.Nat.{ℕ, zero, suc, ◌≤◌, ◌<◌}
use native.Mathlib.Omega.{arith}
use mathlib.Core.Path.{◌≡◌, refl, sym, ◌∙◌}
use mathlib.Core.Logic.{◌⊎◌, inl, inr}
use mathlib.Core.Bool.{Bool, true, false, not, ◌&&◌}
use mathlib.Core.List.Memᴰ
use mathlib.Core.List.{List, [], ◌∷◌, Memᴰ}
use lib.Dec.{eqb}
use lib.ListN.{length}
use borrow.Author.Tests.{eqb-true, eq-eqb, ne_eqb}
use Rattle.job.proofs.Tests.{not-both, and_left, and_right, not-true-false}
use Rattle.listing_index.specs.Index.{counted}

-- one number more
counted-here : (f : ℕ → Bool) (n : ℕ) → f n ≡ true → counted f (suc n) ≡ suc (counted f n)
unfolding counted
counted-here f n e = rw (e, counted) (omega arith)

counted-other : (f : ℕ → Bool) (n : ℕ) → f n ≡ false → counted f (suc n) ≡ counted f n
unfolding counted
counted-other f n e = rw (e, counted) (omega arith)

counted_none : (f : ℕ → Bool) → counted f 0 ≡ 0
unfolding counted
counted_none f = refl

-- none passes
none_passes : (f : ℕ → Bool) (n : ℕ) → ((j : ℕ) → j < n → f j ≡ true → ⊥) → counted f n ≡ 0
none_passes f zero h = counted_none f
none_passes f (suc n) h = counted-other f n (not-true-false (f n) (h n (omega arith))) ∙ none_passes f n (λ j l. h j (omega arith))

-- those that pass one test pass another
more-pass : (f g : ℕ → Bool) (n : ℕ) → ((j : ℕ) → j < n → f j ≡ true → g j ≡ true) → counted f n ≤ counted g n
more-pass f g zero h = rw (counted_none f) (omega arith)
more-pass f g (suc n) h = go (f n) (g n) refl refl (more-pass f g n (λ j l. h j (omega arith)))
  where
    go : (a b : Bool) → f n ≡ a → g n ≡ b → counted f n ≤ counted g n → counted f (suc n) ≤ counted g (suc n)
    go true true p q r = omega (arith, counted-here f n p, counted-here g n q)
    go true false p q r = absurd (not-both (h n (omega arith) p) q)
    go false true p q r = omega (arith, counted-other f n p, counted-here g n q)
    go false false p q r = omega (arith, counted-other f n p, counted-other g n q)

-- the numbers that pass and have another value than x
abbrev others : (ℕ → Bool) → (ℕ → ℕ) → ℕ → ℕ → Bool
others f v x j = f j && not (eqb (v j) x)

other-passes : (f : ℕ → Bool) (v : ℕ → ℕ) (x j : ℕ) → f j ≡ true → (v j ≡ x → ⊥) → others f v x j ≡ true
other-passes f v x j p q = rw (p, ne_eqb (v j) x q)

-- of numbers that pass at most one has the value x
one-with : (f : ℕ → Bool) (v : ℕ → ℕ) (x n : ℕ) → ((i j : ℕ) → i < n → j < n → f i ≡ true → f j ≡ true → v i ≡ v j → i ≡ j) → counted f n ≤ suc (counted (others f v x) n)
one-with f v x zero h = rw (counted_none f) (omega arith)
one-with f v x (suc n) h = go (f n) (eqb (v n) x) refl refl (one-with f v x n (λ i j a b. h i j (omega arith) (omega arith)))
  where
    g : ℕ → Bool
    g = others f v x

    go : (a b : Bool) → f n ≡ a → eqb (v n) x ≡ b → counted f n ≤ suc (counted g n) → counted f (suc n) ≤ suc (counted g (suc n))
    go false b p q r =
        let z : g n ≡ false = rw p in
        omega (arith, counted-other f n p, counted-other g n z)
    go true false p q r =
        let z : g n ≡ true = rw (p, q) in
        omega (arith, counted-here f n p, counted-here g n z)
    go true true p q r =
        let z : g n ≡ false = rw (p, q) in
        let e = eqb-true (v n) x q in
        omega (arith, counted-here f n p, counted-other g n z, more-pass f g n (λ j l w. other-passes f v x j w (λ y. absurd (omega (arith, h j n (omega arith) (omega arith) w p (y ∙ sym e))))))

-- so they are no more than the values
pub few-values :
    (xs : List ℕ) (f : ℕ → Bool) (v : ℕ → ℕ) (n : ℕ)
    → ((j : ℕ) → j < n → f j ≡ true → Memᴰ (v j) xs)
    → ((i j : ℕ) → i < n → j < n → f i ≡ true → f j ≡ true → v i ≡ v j → i ≡ j)
    → counted f n ≤ length xs
few-values [] f v n has own = rw (none_passes f n (λ j l p. Memᴰ.not-nil (has j l p))) (omega arith)
few-values (x ∷ xs) f v n has own = omega (arith, one-with f v x n own, few-values xs (others f v x) v n rest alone)
  where
    passes : (j : ℕ) → others f v x j ≡ true → f j ≡ true
    passes j p = and_left (f j) (not (eqb (v j) x)) p

    rest : (j : ℕ) → j < n → others f v x j ≡ true → Memᴰ (v j) xs
    rest j l p = go (Memᴰ.cases_cons (has j l (passes j p)))
      where
        go : (v j ≡ x) ⊎ Memᴰ (v j) xs → Memᴰ (v j) xs
        go (inr m) = m
        go (inl e) = absurd (not-both (and_right (f j) (not (eqb (v j) x)) p) (rw (eq-eqb (v j) x e)))

    alone : (i j : ℕ) → i < n → j < n → others f v x i ≡ true → others f v x j ≡ true → v i ≡ v j → i ≡ j
    alone i j a b p q = own i j a b (passes i p) (passes j q)
