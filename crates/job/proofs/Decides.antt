-- Tests that decide a plain statement, checks that pass exactly where it holds, and how they are put together.
use Prim.Native.Nat.{ℕ, ◌+◌, ◌≤◌, ◌<◌}
use mathlib.Core.Path.{◌≡◌, ap}
use mathlib.Core.Logic.{◌⊎◌, inl, inr, ◌↔◌}
use mathlib.Core.Bool.{Bool, true, false, not, ◌&&◌, ◌||◌}
use mathlib.Core.List.{List}
use lib.Dec.{leb, ltb, eqb}
use lib.ListN.{length, get_or}
use borrow.Author.Tests.{leb-true, le-leb, ltb-false, le-ltb, eqb-true, eq-eqb, not-false}
use Rattle.job.specs.Verdict.{Verdict, pass, ◌then◌, refuse_if, within, lowest}
use Rattle.job.proofs.Tests.{and_left, and_right, and_both, four-or, or-four, unless-true, true-unless, within_low, within-high, within-limits}
use Rattle.job.proofs.Verdicts.{then-first, then-second, then-both, refuse_if-pass, refuse_if-false, lowest-good, lowest-pass}

-- the test passes exactly where the statement holds
abbrev pub Decides : Bool → Type 0 → Type 0
Decides t P = (t ≡ true) ↔ P

-- orders and equations of numbers
pub decides-le : (m n : ℕ) → Decides (leb m n) (m ≤ n)
decides-le m n = (leb-true m n, le-leb m n)

pub decides_eq : (m n : ℕ) → Decides (eqb m n) (m ≡ n)
decides_eq m n = (eqb-true m n, eq-eqb m n)

-- a test itself
pub decides-self : (t : Bool) → Decides t (t ≡ true)
decides-self t = (λ e. e, λ e. e)

-- both, the second perhaps only where the first
pub decides-then : {a b : Bool} {P Q : Type 0} → Decides a P → (P → Decides b Q) → Decides (a && b) (P × Q)
decides-then {a} {b} p q = (
  λ e. let k = p.0 (and_left a b e) in (k, (q k).0 (and_right a b e)),
  λ h. and_both a b (p.1 h.0) ((q h.0).1 h.1),
)

pub decides_and : {a b : Bool} {P Q : Type 0} → Decides a P → Decides b Q → Decides (a && b) (P × Q)
decides_and p q = decides-then p (λ _. q)

-- all of seven
pub decides-seven :
    {a b c d e f g : Bool} {P Q R S T U X : Type 0}
    → Decides a P
    → Decides b Q
    → Decides c R
    → Decides d S
    → Decides e T
    → Decides f U
    → Decides g X
    → Decides (a && b && c && d && e && f && g) (P × Q × R × S × T × U × X)
decides-seven p q r s t u v =
    let w = decides_and (decides_and (decides_and (decides_and (decides_and (decides_and p q) r) s) t) u) v in (
      λ i.
          let h = w.0 i in
          let k = h.0.0.0 in
          (k.0.0.0, k.0.0.1, k.0.1, k.1, h.0.0.1, h.0.1, h.1),
      λ h. w.1 ((((((h.0, h.1), h.2), h.3), h.4), h.5), h.6),
    )

-- one where the other; one of four
pub decides-if : {a b : Bool} {P Q : Type 0} → Decides a P → Decides b Q → Decides (not a || b) (P → Q)
decides-if {a} {b} p q = (
  λ e h. q.0 (unless-true a b e (p.1 h)),
  λ h. true-unless a b (λ e. q.1 (h (p.0 e))),
)

pub decides-four :
    {a b c d : Bool} {P Q R S : Type 0}
    → Decides a P
    → Decides b Q
    → Decides c R
    → Decides d S
    → Decides (a || b || c || d) (P ⊎ Q ⊎ R ⊎ S)
decides-four {a} {b} {c} {d} {P} {Q} {R} {S} p q r s = (λ e. to (four-or a b c d e), λ h. or-four a b c d (back h))
  where
    to : (a ≡ true) ⊎ (b ≡ true) ⊎ (c ≡ true) ⊎ (d ≡ true) → P ⊎ Q ⊎ R ⊎ S
    to (inl e) = inl (p.0 e)
    to (inr (inl e)) = inr (inl (q.0 e))
    to (inr (inr (inl e))) = inr (inr (inl (r.0 e)))
    to (inr (inr (inr e))) = inr (inr (inr (s.0 e)))

    back : P ⊎ Q ⊎ R ⊎ S → (a ≡ true) ⊎ (b ≡ true) ⊎ (c ≡ true) ⊎ (d ≡ true)
    back (inl h) = inl (p.1 h)
    back (inr (inl h)) = inr (inl (q.1 h))
    back (inr (inr (inl h))) = inr (inr (inl (r.1 h)))
    back (inr (inr (inr h))) = inr (inr (inr (s.1 h)))

-- within two limits
pub decides-within : (low high x : ℕ) → Decides (within low high x) ((low ≤ x) × (x ≤ high))
decides-within low high x = (
  λ h. (within_low low high x h, within-high low high x h),
  λ b. within-limits low high x b.0 b.1,
)

-- checks that pass exactly where a statement holds
abbrev pub Passes : Verdict → Type 0 → Type 0
Passes v P = (v ≡ pass) ↔ P

pub passes-self : (v : Verdict) → Passes v (v ≡ pass)
passes-self v = (λ e. e, λ e. e)

-- one after another
pub passes_then : {v w : Verdict} {P Q : Type 0} → Passes v P → Passes w Q → Passes (v then w) (P × Q)
passes_then {v} {w} p q = (
  λ e. (p.0 (then-first v w e), q.0 (then-second v w e)),
  λ h. then-both v w (p.1 h.0) (q.1 h.1),
)

-- one check at one place: a number that is too large, a test that fails
pub passes-limit : (n m number place : ℕ) → Passes (refuse_if (ltb n m) number place) (m ≤ n)
passes-limit n m number place = (
  λ e. ltb-false n m (refuse_if-pass (ltb n m) number place e),
  λ h. refuse_if-false (ltb n m) number place (le-ltb n m h),
)

pub passes-test : {t : Bool} {P : Type 0} (number place : ℕ) → Decides t P → Passes (refuse_if (not t) number place) P
passes-test {t} number place d = (
  λ e. d.0 (not-false t (refuse_if-pass (not t) number place e)),
  λ h. refuse_if-false (not t) number place (ap not (d.1 h)),
)

-- one check over all its places, numbered from k; `d` stands past the list's end
pub passes-places :
    {A : Type 0} (number : ℕ) (bad : ℕ → A → Bool) (d : A) (k : ℕ) (as' : List A)
    → Passes (lowest number bad k as') ((i : ℕ) → i < length as' → bad (k + i) (get_or as' i d) ≡ false)
passes-places number bad d k as' = (lowest-good number bad d k as', lowest-pass number bad d k as')
