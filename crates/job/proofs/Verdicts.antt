-- Verdicts: one check after another, and the lowest place at which a check fails.
use Prim.Native.Nat.{ℕ, zero, suc, ◌+◌, ◌≤◌, ◌<◌}
use native.Mathlib.Omega.{arith}
use mathlib.Core.Path.{◌≡◌, refl, ◌∙◌, ap}
use mathlib.Core.Bool.{Bool, true, false}
use mathlib.Core.List.{List, [], ◌∷◌, ◌++◌}
use lib.ListN.{length, get_or, drop, drop_of_length-le}
use lib.Seq.{drop-cons}
use Rattle.job.specs.Verdict.{Verdict, pass, refuse, ◌then◌, refuse_if, lowest}

-- checks in a row may be grouped in any way
pub then-assoc : (u v w : Verdict) → ((u then v) then w) ≡ (u then (v then w))
then-assoc pass v w = refl
then-assoc (refuse n p) v w = refl

pub then-assoc-3 : (u v w x : Verdict) → ((u then v then w) then x) ≡ (u then v then w then x)
then-assoc-3 pass v w x = then-assoc v w x
then-assoc-3 (refuse n p) v w x = refl

-- a pass and a refusal are never one
pub pass-not-refuse : {v : Verdict} {n p : ℕ} → v ≡ pass → v ≡ refuse n p → ⊥
pass-not-refuse {v} {n} {p} e f = let z : ◌≡◌ {A = ℕ} 0 1 = cc in omega arith

-- where checks in a row pass, each passes
pub then-first : (u v : Verdict) → (u then v) ≡ pass → u ≡ pass
then-first pass v h = refl
then-first (refuse n p) v h = h

pub then-second : (u v : Verdict) → (u then v) ≡ pass → v ≡ pass
then-second pass v h = h
then-second (refuse n p) v h = absurd (pass-not-refuse h refl)

pub then-both : (u v : Verdict) → u ≡ pass → v ≡ pass → (u then v) ≡ pass
then-both u v e f = rw (e, f)

-- after a pass the rest decides; after a refusal nothing does
pub then-passed : (u v : Verdict) → u ≡ pass → (u then v) ≡ v
then-passed u v e = rw e

pub then-refused : (u v : Verdict) (n p : ℕ) → u ≡ refuse n p → (u then v) ≡ refuse n p
then-refused u v n p e = rw e

-- one check at one place
pub refuse_if-pass : (t : Bool) (n p : ℕ) → refuse_if t n p ≡ pass → t ≡ false
refuse_if-pass true n p h = absurd (pass-not-refuse h refl)
refuse_if-pass false n p h = refl

pub refuse_if-false : (t : Bool) (n p : ℕ) → t ≡ false → refuse_if t n p ≡ pass
refuse_if-false t n p h = rw h

module _ {A : Type 0} where
  -- place i is the first whose element is bad, where the first place has the number k; `d` stands past the list's end
  pub record FirstBad (bad : ℕ → A → Bool) (d : A) (k : ℕ) (as' : List A) (i : ℕ) : Type 0 where
    pub inside : i < length as'
    pub is-bad : bad (k + i) (get_or as' i d) ≡ true
    pub good-before : (j : ℕ) → j < i → bad (k + j) (get_or as' j d) ≡ false

  module _ (number : ℕ) (bad : ℕ → A → Bool) where
    -- a place that is not bad is passed over
    pub lowest-next : (k : ℕ) (a : A) (as' : List A) → bad k a ≡ false → lowest number bad k (a ∷ as') ≡ lowest number bad (suc k) as'
    unfolding lowest
    lowest-next k a as' h = rw (h, lowest)

    -- a place that is bad is named
    pub lowest-here : (k : ℕ) (a : A) (as' : List A) → bad k a ≡ true → lowest number bad k (a ∷ as') ≡ refuse number k
    unfolding lowest
    lowest-here k a as' h = rw (h, lowest)

    -- the same from a place of a list on
    pub lowest-drop-next :
        (k : ℕ) (as' : List A) (i : ℕ) (d : A)
        → i < length as'
        → bad k (get_or as' i d) ≡ false
        → lowest number bad k (drop i as') ≡ lowest number bad (suc k) (drop (suc i) as')
    lowest-drop-next k as' i d h p = rw (drop-cons as' i d h) (lowest-next k (get_or as' i d) (drop (suc i) as') p)

    pub lowest-drop-here :
        (k : ℕ) (as' : List A) (i : ℕ) (d : A)
        → i < length as'
        → bad k (get_or as' i d) ≡ true
        → lowest number bad k (drop i as') ≡ refuse number k
    lowest-drop-here k as' i d h p = rw (drop-cons as' i d h) (lowest-here k (get_or as' i d) (drop (suc i) as') p)

    pub lowest-drop-end : (k : ℕ) (as' : List A) (i : ℕ) → length as' ≤ i → lowest number bad k (drop i as') ≡ pass
    unfolding lowest
    lowest-drop-end k as' i h = rw (drop_of_length-le as' h)

    -- one list after another
    pub lowest-append : (k : ℕ) (as' bs : List A) → lowest number bad k (as' ++ bs) ≡ (lowest number bad k as' then lowest number bad (k + length as') bs)
    unfolding lowest
    lowest-append k [] bs = ap (λ (j : ℕ). lowest number bad j bs) (omega arith)
    lowest-append k (a ∷ as') bs = go (bad k a) (lowest-append (suc k) as' bs)
      where
        from : Bool → List A → Verdict
        from t cs = elim t [ true ↦ refuse number k | false ↦ lowest number bad (suc k) cs ]

        go :
            (t : Bool)
            → lowest number bad (suc k) (as' ++ bs) ≡ (lowest number bad (suc k) as' then lowest number bad (suc k + length as') bs)
            → from t (as' ++ bs) ≡ (from t as' then lowest number bad (k + suc (length as')) bs)
        go true f = refl
        go false f = f ∙ ap (λ (j : ℕ). lowest number bad (suc k) as' then lowest number bad j bs) (omega arith)

    -- where a check passes no place is bad
    pub lowest-good : (d : A) (k : ℕ) (as' : List A) → lowest number bad k as' ≡ pass → (i : ℕ) → i < length as' → bad (k + i) (get_or as' i d) ≡ false
    unfolding lowest
    lowest-good d k [] h i p = absurd (omega arith)
    lowest-good d k (a ∷ as') h i p = go (bad k a) refl h i p (lowest-good d (suc k) as')
      where
        go :
            (t : Bool)
            → bad k a ≡ t
            → (elim t as (λ _. Verdict) [ true ↦ refuse number k | false ↦ lowest number bad (suc k) as' ]) ≡ pass
            → (i : ℕ)
            → i < length (a ∷ as')
            → (lowest number bad (suc k) as' ≡ pass → (i : ℕ) → i < length as' → bad (suc k + i) (get_or as' i d) ≡ false)
            → bad (k + i) (get_or (a ∷ as') i d) ≡ false
        go true e h i p f = absurd (pass-not-refuse h refl)
        go false e h zero p f = ap (λ (j : ℕ). bad j a) (omega arith) ∙ e
        go false e h (suc i) p f = ap (λ (j : ℕ). bad j (get_or as' i d)) (omega arith) ∙ f h i (omega arith)

    -- where no place is bad the check passes
    pub lowest-pass :
        (d : A) (k : ℕ) (as' : List A)
        → ((i : ℕ) → i < length as' → bad (k + i) (get_or as' i d) ≡ false)
        → lowest number bad k as' ≡ pass
    unfolding lowest
    lowest-pass d k [] f = refl
    lowest-pass d k (a ∷ as') f =
        let e : bad k a ≡ false = ap (λ (j : ℕ). bad j a) (omega arith) ∙ f 0 (omega arith) in
        rw (e, lowest) (lowest-pass d (suc k) as' (λ i p. ap (λ (j : ℕ). bad j (get_or as' i d)) (omega arith) ∙ f (suc i) (omega arith)))

    -- where a check refuses, it gives its number and names the first bad place
    pub lowest-refuses :
        (d : A) (k : ℕ) (as' : List A) (n p : ℕ)
        → lowest number bad k as' ≡ refuse n p
        → (n ≡ number) × ((i : ℕ) × (p ≡ k + i) × FirstBad bad d k as' i)
    unfolding lowest
    lowest-refuses d k [] n p h = absurd (pass-not-refuse refl h)
    lowest-refuses d k (a ∷ as') n p h = go (bad k a) refl h (lowest-refuses d (suc k) as' n p)
      where
        go :
            (t : Bool)
            → bad k a ≡ t
            → (elim t as (λ _. Verdict) [ true ↦ refuse number k | false ↦ lowest number bad (suc k) as' ]) ≡ refuse n p
            → (lowest number bad (suc k) as' ≡ refuse n p → (n ≡ number) × ((i : ℕ) × (p ≡ suc k + i) × FirstBad bad d (suc k) as' i))
            → (n ≡ number) × ((i : ℕ) × (p ≡ k + i) × FirstBad bad d k (a ∷ as') i)
        go true e h f =
            let q : k ≡ p = cc in (
              cc,
              (
                0,
                omega arith,
                record {
                  inside = omega arith;
                  is-bad = ap (λ (j : ℕ). bad j a) (omega arith) ∙ e;
                  good-before = λ j l. absurd (omega arith);
                },
              ),
            )
        go false e h f =
            let r = f h in
            let b = r.1.2 in (
              r.0,
              (
                suc r.1.0,
                omega (arith, r.1.1),
                record {
                  inside = omega (arith, b.inside);
                  is-bad = ap (λ (j : ℕ). bad j (get_or as' r.1.0 d)) (omega arith) ∙ b.is-bad;
                  good-before = before e b.good-before;
                },
              ),
            )
          where
            before :
                bad k a ≡ false
                → {m : ℕ}
                → ((j : ℕ) → j < m → bad (suc k + j) (get_or as' j d) ≡ false)
                → (j : ℕ)
                → j < suc m
                → bad (k + j) (get_or (a ∷ as') j d) ≡ false
            before e g zero l = ap (λ (j : ℕ). bad j a) (omega arith) ∙ e
            before e g (suc j) l = ap (λ (j' : ℕ). bad j' (get_or as' j d)) (omega arith) ∙ g j (omega arith)
