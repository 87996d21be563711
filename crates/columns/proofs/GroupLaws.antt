-- The laws of a group: reading what was written gives the number, writing what was read gives the bytes.
use Prim.Native.Nat.{ℕ, zero, suc, ◌+◌, ◌-◌, ◌*◌, ◌/◌, ◌%◌, ◌^◌, ◌≤◌, ◌<◌}
use mathlib.Core.Path.{◌≡◌, refl, sym, ap, ◌∙◌, subst}
use mathlib.Core.Logic.{⊎_elim, ◌⊎◌, inl, inr}
use mathlib.Core.Bool.{Bool, true, false, cond}
use mathlib.Core.List.{List, [], ◌∷◌, ◌++◌, append_assoc}
use native.Mathlib.Nat.{add-suc, add-zero, add_assoc, pow-suc, div-lt_iff_lt-mul, mod-eq_of_lt, mod-lt}
use native.Mathlib.Decide.{ℕ_discrete}
use native.Mathlib.Numerals.{add-one}
use native.Mathlib.Omega.{arith}
use lib.ListN.{set, take-append-drop, length, take, drop, get_or, length-append, length-take, length-drop}
use lib.Seq.{get_or-append-add, get_or-take, take_at, drop_at, take-suc, drop-drop, drop-cons, get_or-drop, set_at, length-take-le}
use lib.Dec.{eqb}
use borrow.Author.Tests.{eq-eqb, ne_eqb, eqb-true}
use Rattle.columns.specs.Widths.{lead_bytes, group_bytes}
use Rattle.std.specs.Prelude.{Option, Some, None}
use Rattle.columns.specs.Group.{limit, mark, lead, group, digits_after, same, pick_number, number_of, put, lead_limit}
use Rattle.columns.specs.Columns.{Column, Columns}

-- out is d with the columns of n from the i-th to the eighth, those of n's last columns; rest is to stand in the columns before
pub record Writing (d out : List ℕ) (at n i rest : ℕ) : Type 0 where
  pub tail : List ℕ
  pub here : out ≡ take (at + i) d ++ (tail ++ drop (at + lead_bytes) d)
  pub whole : lead lead_bytes n ≡ lead i rest ++ tail

pub mark-cases : (n : ℕ) → ((n ≡ 0) × (mark n ≡ 32)) ⊎ ((0 < n) × (mark n ≡ 48 + n % 10))
unfolding mark
mark-cases n = go (ℕ_discrete n 0)
  where
    go : Dec (n ≡ 0) → ((n ≡ 0) × (cond (eqb n 0) 32 (48 + n % 10) ≡ 32)) ⊎ ((0 < n) × (cond (eqb n 0) 32 (48 + n % 10) ≡ 48 + n % 10))
    go (yes p) = inl (p, simp (eq-eqb n 0 p))
    go (no p) = inr (omega (arith, p), simp (ne_eqb n 0 p))

-- two lists as long, each with something after it
pub append-both : (xs ys us vs : List ℕ) (n : ℕ) → length xs ≡ n → length ys ≡ n → xs ++ us ≡ ys ++ vs → (xs ≡ ys) × (us ≡ vs)
append-both xs ys us vs n ex ey h =
    (sym (take_at xs us n ex) ∙ ap (take n) h ∙ take_at ys vs n ey, sym (drop_at xs us n ex) ∙ ap (drop n) h ∙ drop_at ys vs n ey)

pub length-lead : (k n : ℕ) → length (lead k n) ≡ k
unfolding lead
length-lead zero n = refl
length-lead (suc k) n = simp (length-append, length-lead k (n / 10)) (omega arith)

pub length-group : (n : ℕ) → length (group n) ≡ group_bytes
unfolding group
length-group n = simp (length-append, length-lead)

pub same_refl : (xs : List ℕ) → same xs xs ≡ true
unfolding same
same_refl [] = refl
same_refl (x ∷ xs) = simp (eq-eqb x x refl, same_refl xs)

pub same_true : (xs ys : List ℕ) → same xs ys ≡ true → xs ≡ ys
unfolding same
same_true [] [] h = refl
same_true [] (y ∷ ys) h = cc
same_true (x ∷ xs) [] h = cc
same_true (x ∷ xs) (y ∷ ys) h = go (λ p. same_true xs ys p) (eqb x y) refl h
  where
    go : (same xs ys ≡ true → xs ≡ ys) → (t : Bool) → eqb x y ≡ t → cond t (same xs ys) false ≡ true → x ∷ xs ≡ y ∷ ys
    go ih true e p = cc (eqb-true x y e, ih p)
    go ih false e p = cc

digits_append : (v : ℕ) (xs ys : List ℕ) → digits_after v (xs ++ ys) ≡ digits_after (digits_after v xs) ys
unfolding digits_after
digits_append v [] ys = refl
digits_append v (x ∷ xs) ys = digits_append (v * 10 + (x - 48)) xs ys

mark-digit : (n : ℕ) → n / 10 * 10 + (mark n - 48) ≡ n
mark-digit n = ⊎_elim (λ w. rw (w.1, w.0) refl) (λ w. rw w.1 (omega arith)) (mark-cases n)

pub power-step : (n k : ℕ) → n < 10 ^ suc k → n / 10 < 10 ^ k
power-step n k h = (div-lt_iff_lt-mul {k = 10} (omega arith)).1 (rw pow-suc at h)

pub digits-lead : (k n : ℕ) → n < 10 ^ k → digits_after 0 (lead k n) ≡ n
unfolding lead digits_after
digits-lead zero n h = omega arith
digits-lead (suc k) n h =
    digits_append 0 (lead k (n / 10)) (mark n ∷ [])
    ∙ ap (λ (v : ℕ). v * 10 + (mark n - 48)) (digits-lead k (n / 10) (power-step n k h))
    ∙ mark-digit n

pub digits-group : (n : ℕ) → n < limit → digits_after 0 (group n) ≡ n
unfolding group digits_after
digits-group n h =
    digits_append 0 (lead lead_bytes (n / 10)) ((48 + n % 10) ∷ [])
    ∙ ap (λ (v : ℕ). v * 10 + (48 + n % 10 - 48)) (digits-lead lead_bytes (n / 10) (omega arith))
    ∙ omega arith

-- reading what was written gives the number
pub number-group : (n : ℕ) → n < limit → number_of (group n) ≡ Some n
unfolding number_of
number-group n h = simp (digits-group n h, mod-eq_of_lt h, same_refl (group n))

-- writing what was read gives the bytes
pub number-value : (bs : List ℕ) (n : ℕ) → number_of bs ≡ Some n → (bs ≡ group n) × (n < limit)
unfolding number_of
number-value bs n h = go (same bs (group m)) refl h
  where
    m : ℕ
    m = digits_after 0 bs % limit

    go : (t : Bool) → same bs (group m) ≡ t → pick_number t (Some m) None ≡ Some n → (bs ≡ group n) × (n < limit)
    go true e p = let q : m ≡ n = cc in (subst (λ (k : ℕ). bs ≡ group k) q (same_true bs (group m) e), subst (λ (k : ℕ). k < limit) q (mod-lt (digits_after 0 bs) (omega arith)))
    go false e p = let z : ◌≡◌ {A = ℕ} 0 1 = cc in absurd (omega arith)

-- what no number's columns are is malformed
pub number-none : (bs : List ℕ) → ((n : ℕ) → n < limit → bs ≡ group n → ⊥) → number_of bs ≡ None
number-none bs h = go (number_of bs) refl
  where
    go : (r : Option ℕ) → number_of bs ≡ r → r ≡ None
    go (Some n) e = let v = number-value bs n e in absurd (h n v.1 v.0)
    go None e = refl

-- ---- column by column

pub column-none : (v b : ℕ) → ((n : ℕ) → n < limit → n / 10 ≡ v → mark n ≡ b → ⊥) → Column v b limit
column-none v b h = record { low = omega arith; right = omega arith; only = λ n l p q. absurd (h n l p q) }

pub column-is : (v b r : ℕ) → r < limit → r / 10 ≡ v → mark r ≡ b → Column v b r
column-is v b r l p q =
    record {
      low = omega arith;
      right = λ _. (p, q);
      only = λ n l' p' q'. ⊎_elim (λ w. ⊎_elim (λ u. omega arith) (λ u. omega arith) (mark-cases n)) (λ w. ⊎_elim (λ u. omega arith) (λ u. omega arith) (mark-cases n)) (mark-cases r);
    }

-- a digit
pub column-digit : (v b : ℕ) → v < lead_limit → 48 ≤ b → b ≤ 57 → 0 < v * 10 + (b - 48) → Column v b (v * 10 + (b - 48))
column-digit v b h l g p = column-is v b _ (omega arith) (omega arith) (⊎_elim (λ w. omega arith) (λ w. omega arith) (mark-cases (v * 10 + (b - 48))))

pub columns-none : Columns [] 0 0
unfolding lead
columns-none = record { size = refl; low = omega arith; right = λ _. (omega arith, refl); only = λ n l k e. omega arith }

pub columns-more : (bs : List ℕ) (k v b w : ℕ) → Columns bs k v → Column v b w → Columns (bs ++ (b ∷ [])) (suc k) w
unfolding lead
columns-more bs k v b w p q =
    record {
      size = simp length-append (omega arith);
      low = q.low;
      right = λ l. let (d, m) = q.right l in let (s, e) = p.right (omega arith) in (rw pow-suc ((div-lt_iff_lt-mul {k = 10} (omega arith)).0 (rw d s)), cc);
      only = λ n l s e. let (d, m) = append-both bs (lead k (n / 10)) (b ∷ []) (mark n ∷ []) k p.size (length-lead k (n / 10)) e in q.only n l (sym (p.only (n / 10) (omega arith) (power-step n k s) d)) (cc);
    }

-- one column more of a text
pub columns-step : (s : List ℕ) (at i v w : ℕ) → at + i < length s → Columns (take i (drop at s)) i v → Column v (get_or s (at + i) 0) w → Columns (take (i + 1) (drop at s)) (i + 1) w
columns-step s at i v w h p q =
    let hi : i < length (drop at s) = simp length-drop (omega arith) in
    rw (add-one i, take-suc (drop at s) i 0 hi, get_or-drop at s i 0) (columns-more _ i v _ w p q)

-- ---- the nine columns of a text

pub number_short : (s : List ℕ) (at : ℕ) → length s < at + group_bytes → number_of (take group_bytes (drop at s)) ≡ None
number_short s at h = number-none _ (λ n l e. let q : length (take group_bytes (drop at s)) ≡ group_bytes = ap length e ∙ length-group n in omega (arith, simp (length-take, length-drop) at q))

-- a number ends in a digit
pub number-last : (s : List ℕ) (at : ℕ) → ((n : ℕ) → 48 + n % 10 ≡ get_or s (at + lead_bytes) 0 → ⊥) → number_of (take group_bytes (drop at s)) ≡ None
unfolding group
number-last s at f =
    number-none _
    (λ n l e.
    let q : length (lead lead_bytes (n / 10)) + 0 ≡ lead_bytes = omega (arith, length-lead lead_bytes (n / 10)) in
    let g : get_or (group n) lead_bytes 0 ≡ 48 + n % 10 = rw q at (get_or-append-add (lead lead_bytes (n / 10)) ((48 + n % 10) ∷ []) 0 0) in
    f n (sym g ∙ ap (λ (bs : List ℕ). get_or bs lead_bytes 0) (sym e) ∙ get_or-take group_bytes (drop at s) lead_bytes 0 (omega arith) ∙ get_or-drop at s lead_bytes 0))

module _ (s : List ℕ) (at v : ℕ) (h : at + group_bytes ≤ length s) (p : Columns (take lead_bytes (drop at s)) lead_bytes v) where
  nine : take group_bytes (drop at s) ≡ take lead_bytes (drop at s) ++ (get_or s (at + lead_bytes) 0 ∷ [])
  nine = let hi : lead_bytes < length (drop at s) = simp length-drop (omega arith) in rw (← get_or-drop at s lead_bytes 0) (take-suc (drop at s) lead_bytes 0 hi)

  pub number_is : v < lead_limit → 48 ≤ get_or s (at + lead_bytes) 0 → get_or s (at + lead_bytes) 0 ≤ 57 → number_of (take group_bytes (drop at s)) ≡ Some (v * 10 + (get_or s (at + lead_bytes) 0 - 48))
  unfolding group
  number_is l g k =
      let n : ℕ = v * 10 + (get_or s (at + lead_bytes) 0 - 48) in
      let e : n / 10 ≡ v = omega arith in
      let m : 48 + n % 10 ≡ get_or s (at + lead_bytes) 0 = omega arith in
      let q : take group_bytes (drop at s) ≡ group n = nine ∙ rw (e, m, ← (p.right (omega arith)).1) in
      rw q (number-group n (omega arith))

  pub number-not : ((n : ℕ) → n < limit → n / 10 ≡ v → 48 + n % 10 ≡ get_or s (at + lead_bytes) 0 → ⊥) → number_of (take group_bytes (drop at s)) ≡ None
  unfolding group
  number-not f =
      number-none _
      (λ n l e.
      let q = append-both _ (lead lead_bytes (n / 10)) _ _ lead_bytes p.size (length-lead lead_bytes (n / 10)) (sym nine ∙ e) in
      f n l (sym (p.only (n / 10) (omega arith) (omega arith) q.0)) (cc))

-- ---- writing

pub length-put : (d : List ℕ) (at : ℕ) (xs : List ℕ) → at + length xs ≤ length d → length (put d at xs) ≡ length d
unfolding put
length-put d at xs h = simp (length-append, length-take, length-drop) (omega arith)

-- a store just before what has been written
store-before : (d xs : List ℕ) (k m : ℕ) → k < length d → set (take (suc k) d ++ xs) k m ≡ take k d ++ (m ∷ xs)
store-before d xs k m h =
    rw (take-suc d k 0 h, append_assoc (take k d) (get_or d k 0 ∷ []) xs) (set_at (take k d) (get_or d k 0) xs m k (length-take-le k d (omega arith)))

pub writing_more : (d out : List ℕ) (at n i rest : ℕ) → at + i < length d → Writing d out at n (suc i) rest → Writing d (set out (at + i) (mark rest)) at n i (rest / 10)
unfolding lead
writing_more d out at n i rest h w =
    record {
      tail = mark rest ∷ w.tail;
      here = rw (w.here, add-suc at i) (store-before d _ (at + i) (mark rest) h);
      whole = w.whole ∙ append_assoc (lead i (rest / 10)) (mark rest ∷ []) w.tail;
    }

-- the same as the loop has it
pub writing_step : (d out : List ℕ) (at n i rest m : ℕ) → 0 < i → at + i ≤ length d → m ≡ mark rest → Writing d out at n i rest → Writing d (set out (at + (i - 1)) m) at n (i - 1) (rest / 10)
writing_step d out at n i rest m p h e w =
    let q : i ≡ suc (i - 1) = omega arith in
    rw e (writing_more d out at n (i - 1) rest (omega arith) (rw q at w))

lead-none : (n : ℕ) → lead 0 n ≡ []
unfolding lead
lead-none n = refl

pub writing-all : (d out : List ℕ) (at n rest : ℕ) → Writing d out at n 0 rest → out ≡ put d at (lead lead_bytes n)
unfolding put
writing-all d out at n rest w =
    let e : w.tail ≡ lead lead_bytes n = sym (w.whole ∙ rw lead-none refl) in
    rw length-lead (w.here ∙ rw (add-zero, e) refl)

-- one byte after what has been put
pub put-more : (d : List ℕ) (at : ℕ) (xs : List ℕ) (b : ℕ) → at + length xs < length d → set (put d at xs) (at + length xs) b ≡ put d at (xs ++ (b ∷ []))
unfolding put
put-more d at xs b h =
    let j : ℕ = at + length xs in
    let p : List ℕ = take at d ++ xs in
    let k : length p ≡ j = simp (length-append, length-take) (omega arith) in
    rw (drop-cons d j 0 h, ← append_assoc (take at d) xs (get_or d j 0 ∷ drop (suc j) d), set_at p (get_or d j 0) (drop (suc j) d) b j k, length-append xs (b ∷ []), append_assoc xs (b ∷ []) _, append_assoc (take at d) xs _)
    (let e : suc (at + length xs) ≡ at + (length xs + 1) = omega arith in rw e)

-- the nine columns are the eight and the last
pub put_last : (d : List ℕ) (at n : ℕ) → at + group_bytes ≤ length d → set (put d at (lead lead_bytes (n / 10))) (at + lead_bytes) (48 + n % 10) ≡ put d at (group n)
unfolding group
put_last d at n h = rw length-lead at (put-more d at (lead lead_bytes (n / 10)) (48 + n % 10) (rw length-lead (omega arith)))

pub put-nil : (d : List ℕ) (at : ℕ) → put d at [] ≡ d
unfolding put
put-nil d at = rw (add-zero at) (take-append-drop at d)

-- eight blanks stored one after another are the columns before the last of 0
pub put-eight : (d : List ℕ) (at : ℕ) → at + lead_bytes ≤ length d → set (set (set (set (set (set (set (set d at 32) (at + 1) 32) (at + 2) 32) (at + 3) 32) (at + 4) 32) (at + 5) 32) (at + 6) 32) (at + 7) 32 ≡ put d at (lead lead_bytes 0)
unfolding lead mark
put-eight d at h =
    let one : set d at 32 ≡ put d at (32 ∷ []) = rw (put-nil d at, add-zero at) at (put-more d at [] 32 (omega arith)) in
    rw (one, put-more d at (32 ∷ []) 32 (omega arith), put-more d at (32 ∷ 32 ∷ []) 32 (omega arith), put-more d at (32 ∷ 32 ∷ 32 ∷ []) 32 (omega arith), put-more d at (32 ∷ 32 ∷ 32 ∷ 32 ∷ []) 32 (omega arith), put-more d at (32 ∷ 32 ∷ 32 ∷ 32 ∷ 32 ∷ []) 32 (omega arith), put-more d at (32 ∷ 32 ∷ 32 ∷ 32 ∷ 32 ∷ 32 ∷ []) 32 (omega arith), put-more d at (32 ∷ 32 ∷ 32 ∷ 32 ∷ 32 ∷ 32 ∷ 32 ∷ []) 32 (omega arith)) refl

-- what is put just after what was put
pub put-put : (d : List ℕ) (at : ℕ) (xs ys : List ℕ) → at + length xs ≤ length d → put (put d at xs) (at + length xs) ys ≡ put d at (xs ++ ys)
unfolding put
put-put d at xs ys h =
    let j : ℕ = at + length xs in
    let p : List ℕ = take at d ++ xs in
    let k : length p ≡ j = simp (length-append, length-take) (omega arith) in
    rw (← append_assoc (take at d) xs (drop j d), take_at p (drop j d) j k, ← drop-drop (length ys) j (p ++ drop j d), drop_at p (drop j d) j k, drop-drop (length ys) j d, length-append xs ys, append_assoc xs ys _, append_assoc (take at d) xs _)
    (rw (add_assoc at (length xs) (length ys)))
