-- Tests by their parts: what a conjunction, a disjunction, a negation or a pair of limits says where it is true, and where it is false.
use Prim.Native.Nat.{ℕ, ◌≤◌, ◌<◌}
use native.Mathlib.Omega.{arith}
use mathlib.Core.Path.{◌≡◌, refl, sym}
use mathlib.Core.Logic.{◌⊎◌, inl, inr}
use mathlib.Core.Bool.{Bool, true, false, not, ◌&&◌, ◌||◌}
use lib.Dec.{leb, eqb}
use borrow.Author.Tests.{leb-true, leb-false, le-leb, eqb-true, eqb-false}
use Rattle.job.specs.Verdict.{within}

-- a test is never both true and false
pub not-both : {t : Bool} → t ≡ true → t ≡ false → ⊥
not-both {t} p q = let z : ◌≡◌ {A = ℕ} 0 1 = cc in omega arith

-- a test that is not true is false
pub not-true-false : (t : Bool) → (t ≡ true → ⊥) → t ≡ false
not-true-false true h = absurd (h refl)
not-true-false false h = refl

-- two tests that are true for the same reasons are one
pub same_test : (s t : Bool) → (s ≡ true → t ≡ true) → (t ≡ true → s ≡ true) → s ≡ t
same_test true t f g = sym (f refl)
same_test false t f g = sym (not-true-false t (λ h. not-both (g h) refl))

-- both parts of a conjunction are true
pub and_left : (a b : Bool) → (a && b) ≡ true → a ≡ true
and_left true b h = refl
and_left false b h = h

pub and_right : (a b : Bool) → (a && b) ≡ true → b ≡ true
and_right true b h = h
and_right false b h = absurd (not-both h refl)

pub and_both : (a b : Bool) → a ≡ true → b ≡ true → (a && b) ≡ true
and_both a b p q = rw (p, q)

-- both parts of a false disjunction are false
pub or_left : (a b : Bool) → (a || b) ≡ false → a ≡ false
or_left true b h = h
or_left false b h = refl

pub or_right : (a b : Bool) → (a || b) ≡ false → b ≡ false
or_right true b h = absurd (not-both refl h)
or_right false b h = h

pub or-neither : (a b : Bool) → a ≡ false → b ≡ false → (a || b) ≡ false
or-neither a b p q = rw (p, q)

-- one part of a true disjunction is true
pub or-true : (a b : Bool) → (a || b) ≡ true → (a ≡ true) ⊎ (b ≡ true)
or-true true b h = inl refl
or-true false b h = inr h

pub true-or : (a b : Bool) → (a ≡ true) ⊎ (b ≡ true) → (a || b) ≡ true
true-or true b h = refl
true-or false b (inl e) = absurd (not-both e refl)
true-or false b (inr e) = e

-- the same of four parts
pub four-or : (a b c d : Bool) → (a || b || c || d) ≡ true → (a ≡ true) ⊎ (b ≡ true) ⊎ (c ≡ true) ⊎ (d ≡ true)
four-or true b c d h = inl refl
four-or false true c d h = inr (inl refl)
four-or false false true d h = inr (inr (inl refl))
four-or false false false d h = inr (inr (inr h))

pub or-four : (a b c d : Bool) → (a ≡ true) ⊎ (b ≡ true) ⊎ (c ≡ true) ⊎ (d ≡ true) → (a || b || c || d) ≡ true
or-four a b c d (inl e) = true-or (a || b || c) d (inl (true-or (a || b) c (inl (true-or a b (inl e)))))
or-four a b c d (inr (inl e)) = true-or (a || b || c) d (inl (true-or (a || b) c (inl (true-or a b (inr e)))))
or-four a b c d (inr (inr (inl e))) = true-or (a || b || c) d (inl (true-or (a || b) c (inr e)))
or-four a b c d (inr (inr (inr e))) = true-or (a || b || c) d (inr e)

-- a test that is asked for only where another is true
pub unless-true : (a b : Bool) → (not a || b) ≡ true → a ≡ true → b ≡ true
unless-true true b h e = h
unless-true false b h e = absurd (not-both e refl)

pub true-unless : (a b : Bool) → (a ≡ true → b ≡ true) → (not a || b) ≡ true
true-unless true b h = h refl
true-unless false b h = refl

-- a value within its limits
pub within_low : (low high x : ℕ) → within low high x ≡ true → low ≤ x
within_low low high x h = leb-true low x (and_left (leb low x) (leb x high) h)

pub within-high : (low high x : ℕ) → within low high x ≡ true → x ≤ high
within-high low high x h = leb-true x high (and_right (leb low x) (leb x high) h)

pub within-limits : (low high x : ℕ) → low ≤ x → x ≤ high → within low high x ≡ true
within-limits low high x p q = and_both (leb low x) (leb x high) (le-leb low x p) (le-leb x high q)

pub above-limits : (low high x : ℕ) → high < x → within low high x ≡ false
above-limits low high x h = not-true-false (within low high x) (λ t. let z = within-high low high x t in omega arith)

-- two numbers: one is at most the other, or greater
pub at-most-or-above : (m n : ℕ) → (m ≤ n) ⊎ (n < m)
at-most-or-above m n = go (leb m n) refl
  where
    go : (t : Bool) → leb m n ≡ t → (m ≤ n) ⊎ (n < m)
    go true e = inl (leb-true m n e)
    go false e = inr (leb-false m n e)

-- two numbers are equal or differ
pub equal_or_not : (m n : ℕ) → (m ≡ n) ⊎ (m ≡ n → ⊥)
equal_or_not m n = go (eqb m n) refl
  where
    go : (t : Bool) → eqb m n ≡ t → (m ≡ n) ⊎ (m ≡ n → ⊥)
    go true e = inl (eqb-true m n e)
    go false e = inr (eqb-false m n e)
