-- Statements of every element and of some element of a list: what tests and checks over a list say of them, by places, and how they go with `++`,
-- `map` and `flat_map`.
use Prim.Native.Nat.{ℕ, zero, suc, ◌≤◌, ◌<◌}
use native.Mathlib.Omega.{arith}
use mathlib.Core.Path.{◌≡◌, refl, sym, ◌∙◌}
use mathlib.Core.Logic.{◌⊎◌, inl, inr}
use mathlib.Core.Bool.{Bool, true, false, not, ◌&&◌, false≢true}
use mathlib.Core.List.{List, [], ◌∷◌, ◌++◌, map, flat_map}
use lib.ListN.{length, get_or}
use Rattle.job.specs.Lists.{any, all, max_of, non_empty}
use Rattle.job.specs.Verdict.{pass, refuse, lowest}
use Rattle.job.proofs.Tests.{and_left, and_right, and_both, or-true, true-or}
use Rattle.job.proofs.Lists.{any-cons, all_cons}
use Rattle.job.proofs.Sums.{max_of-at, max_of-bound}
use Rattle.job.proofs.Verdicts.{pass-not-refuse}
use Rattle.job.proofs.Decides.{Decides, Passes}
use Rattle.layouts.specs.Rules.{Every, Some, Filled}

module _ {A : Type 0} where
  -- a test of every element, of some element
  pub all-every : (test : A → Bool) (P : A → Type 0) → ((a : A) → test a ≡ true → P a) → (l : List A) → all test l ≡ true → Every P l
  all-every test P h [] e = tt
  all-every test P h (a ∷ l) e =
      let q : (test a && all test l) ≡ true = sym (all_cons test a l) ∙ e in
      (h a (and_left (test a) (all test l) q), all-every test P h l (and_right (test a) (all test l) q))

  pub every-all : (test : A → Bool) (P : A → Type 0) → ((a : A) → P a → test a ≡ true) → (l : List A) → Every P l → all test l ≡ true
  unfolding all
  every-all test P h [] q = refl
  every-all test P h (a ∷ l) q =
      all_cons test a l ∙ and_both (test a) (all test l) (h a q.0) (every-all test P h l q.1)

  pub any_some : (test : A → Bool) (P : A → Type 0) → ((a : A) → test a ≡ true → P a) → (l : List A) → any test l ≡ true → Some P l
  unfolding any
  any_some test P h [] e = false≢true e
  any_some test P h (a ∷ l) e = go (or-true (test a) (any test l) (sym (any-cons test a l) ∙ e)) (any_some test P h l)
    where
      go : (test a ≡ true) ⊎ (any test l ≡ true) → (any test l ≡ true → Some P l) → P a ⊎ Some P l
      go (inl q) rec = inl (h a q)
      go (inr q) rec = inr (rec q)

  pub some-any : (test : A → Bool) (P : A → Type 0) → ((a : A) → P a → test a ≡ true) → (l : List A) → Some P l → any test l ≡ true
  some-any test P h [] q = absurd q
  some-any test P h (a ∷ l) (inl q) = any-cons test a l ∙ true-or (test a) (any test l) (inl (h a q))
  some-any test P h (a ∷ l) (inr q) = any-cons test a l ∙ true-or (test a) (any test l) (inr (some-any test P h l q))

  -- a list that is not empty
  pub filled-true : (l : List A) → non_empty l ≡ true → Filled l
  filled-true [] e = false≢true e
  filled-true (a ∷ l) e = tt

  pub true-filled : (l : List A) → Filled l → non_empty l ≡ true
  true-filled [] h = absurd h
  true-filled (a ∷ l) h = refl

  -- a check over all places, by a test that does not depend on the place
  pub lowest-every :
      (number k : ℕ) (test : A → Bool) (l : List A)
      → lowest number (λ _ a. not (test a)) k l ≡ pass
      → Every (λ a. test a ≡ true) l
  unfolding lowest
  lowest-every number k test [] e = tt
  lowest-every number k test (a ∷ l) e = go (test a) refl e (lowest-every number (suc k) test l)
    where
      go :
          (t : Bool)
          → test a ≡ t
          → elim (not t) [ true ↦ refuse number k | false ↦ lowest number (λ _ b. not (test b)) (suc k) l ] ≡ pass
          → (lowest number (λ _ b. not (test b)) (suc k) l ≡ pass → Every (λ b. test b ≡ true) l)
          → (test a ≡ true) × Every (λ b. test b ≡ true) l
      go true h q rec = (h, rec q)
      go false h q rec = absurd (pass-not-refuse q refl)

  pub every-lowest :
      (number k : ℕ) (test : A → Bool) (l : List A)
      → Every (λ a. test a ≡ true) l
      → lowest number (λ _ a. not (test a)) k l ≡ pass
  unfolding lowest
  every-lowest number k test [] h = refl
  every-lowest number k test (a ∷ l) h = rw (h.0, lowest) (every-lowest number (suc k) test l h.1)

  -- from one statement of every element to another
  pub every_map : {P Q : A → Type 0} → ((a : A) → P a → Q a) → (l : List A) → Every P l → Every Q l
  every_map h [] q = tt
  every_map h (a ∷ l) q = (h a q.0, every_map h l q.1)

  pub every-both : (P Q : A → Type 0) (l : List A) → Every P l → Every Q l → Every (λ a. P a × Q a) l
  every-both P Q [] p q = tt
  every-both P Q (a ∷ l) p q = ((p.0, q.0), every-both P Q l p.1 q.1)

  pub every_append : (P : A → Type 0) (l m : List A) → Every P l → Every P m → Every P (l ++ m)
  every_append P [] m p q = q
  every_append P (a ∷ l) m p q = (p.0, every_append P l m p.1 q)

  pub append-every : (P : A → Type 0) (l m : List A) → Every P (l ++ m) → Every P l × Every P m
  append-every P [] m p = (tt, p)
  append-every P (a ∷ l) m p = let r = append-every P l m p.1 in ((p.0, r.0), r.1)

  -- every element is the element at each place, from 0
  pub every-at : (P : A → Type 0) (l : List A) → Every P l → (d : A) (k : ℕ) → k < length l → P (get_or l k d)
  every-at P [] h d k lt = absurd (omega arith)
  every-at P (a ∷ l) h d zero lt = h.0
  every-at P (a ∷ l) h d (suc k) lt = every-at P l h.1 d k (omega arith)

  pub at_every : (P : A → Type 0) (d : A) (l : List A) → ((k : ℕ) → k < length l → P (get_or l k d)) → Every P l
  at_every P d [] h = tt
  at_every P d (a ∷ l) h = (h 0 (omega arith), at_every P d l (λ k lt. h (suc k) (omega arith)))

  -- the greatest value is at least each, and at most what each is at most
  pub max-above : (f : A → ℕ) (l : List A) → Every (λ a. f a ≤ max_of f l) l
  max-above f [] = tt
  max-above f (a ∷ l) = at_every (λ b. f b ≤ max_of f (a ∷ l)) a (a ∷ l) (λ k lt. max_of-at f (a ∷ l) k a lt)

  pub max_least : (f : A → ℕ) (m : ℕ) (l : List A) → Every (λ a. f a ≤ m) l → max_of f l ≤ m
  unfolding max_of
  max_least f m [] h = omega arith
  max_least f m (a ∷ l) h = max_of-bound f m (a ∷ l) a (every-at (λ b. f b ≤ m) (a ∷ l) h a)

module _ {A B : Type 0} where
  -- of the values of f, and of the parts that f makes
  pub every-of-map : (P : B → Type 0) (f : A → B) (l : List A) → Every (λ a. P (f a)) l → Every P (map f l)
  every-of-map P f [] h = tt
  every-of-map P f (a ∷ l) h = (h.0, every-of-map P f l h.1)

  pub map-every : (P : B → Type 0) (f : A → B) (l : List A) → Every P (map f l) → Every (λ a. P (f a)) l
  map-every P f [] h = tt
  map-every P f (a ∷ l) h = (h.0, map-every P f l h.1)

  pub some-of-map : (P : A → Type 0) (Q : B → Type 0) (f : A → B) → ((a : A) → P a → Q (f a)) → (l : List A) → Some P l → Some Q (map f l)
  some-of-map P Q f k [] h = h
  some-of-map P Q f k (a ∷ l) (inl h) = inl (k a h)
  some-of-map P Q f k (a ∷ l) (inr h) = inr (some-of-map P Q f k l h)

  pub every-of-parts : (P : B → Type 0) (f : A → List B) (l : List A) → Every (λ a. Every P (f a)) l → Every P (flat_map f l)
  unfolding flat_map
  every-of-parts P f [] h = tt
  every-of-parts P f (a ∷ l) h = every_append P (f a) (flat_map f l) h.0 (every-of-parts P f l h.1)

  pub parts-every : (P : B → Type 0) (f : A → List B) (l : List A) → Every P (flat_map f l) → Every (λ a. Every P (f a)) l
  unfolding flat_map
  parts-every P f [] h = tt
  parts-every P f (a ∷ l) h = let q = append-every P (f a) (flat_map f l) h in (q.0, parts-every P f l q.1)

-- what tests of a list decide: that it is not empty, every element, some element
module _ {A : Type 0} where
  pub decides-filled : (l : List A) → Decides (non_empty l) (Filled l)
  decides-filled l = (filled-true l, true-filled l)

  pub decides-all : {test : A → Bool} {P : A → Type 0} → ((a : A) → Decides (test a) (P a)) → (l : List A) → Decides (all test l) (Every P l)
  decides-all {test} {P} h l = (all-every test P (λ a. (h a).0) l, every-all test P (λ a. (h a).1) l)

  pub decides-any : {test : A → Bool} {P : A → Type 0} → ((a : A) → Decides (test a) (P a)) → (l : List A) → Decides (any test l) (Some P l)
  decides-any {test} {P} h l = (any_some test P (λ a. (h a).0) l, some-any test P (λ a. (h a).1) l)

-- one check over all its places
pub passes-every :
    {A : Type 0} {test : A → Bool} {P : A → Type 0} (number place : ℕ)
    → ((a : A) → Decides (test a) (P a))
    → (l : List A)
    → Passes (lowest number (λ _ a. not (test a)) place l) (Every P l)
passes-every {A} {test} {P} number place d l = (
  λ e. every_map (λ a (h : test a ≡ true). (d a).0 h) l (lowest-every number place test l e),
  λ h. every-lowest number place test l (every_map (λ a (q : P a). (d a).1 q) l h),
)
