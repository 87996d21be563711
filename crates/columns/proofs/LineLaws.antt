-- The laws of a line, by those of a group: read what was written, write what was read.
use Prim.Native.Nat.{ℕ, zero, suc, ◌+◌, ◌-◌, ◌*◌, ◌≤◌, ◌<◌}
use mathlib.Core.Path.{◌≡◌, refl, sym, ap, ◌∙◌}
use mathlib.Core.Bool.{Bool, true, false}
use mathlib.Core.List.{List, [], ◌∷◌, ◌++◌, append_assoc, append-nil}
use mathlib.Core.Option.{Option, none, some}
use native.Mathlib.Nat.{add-zero, sub-zero, suc-sub-suc}
use native.Mathlib.Numerals.{add-one}
use native.Mathlib.Omega.{arith}
use lib.ListN.{length, take, drop, get_or, set, replicate, length-append, length-take, length-drop}
use lib.Seq.{drop-cons, take-nil, take-take, get_or-take, length-take-le, take-suc, take_all, set_at, get_or-drop, take_at, drop_at, take-add, drop-drop}
use lib.Dec.{eqb, ltb}
use borrow.Author.Tests.{eqb-true, eq-eqb, ne_eqb, ltb-true, ltb-false}
use Rattle.columns.specs.Widths.{group_bytes, most_numbers, line_bytes}
use Rattle.std.specs.Prelude.{Option as Option·std, Some, None}
use Rattle.columns.specs.Group.{group, number_of, put}
use Rattle.columns.proofs.GroupLaws.{length-group, number-group, number-value, put-put, put-more}
use Rattle.columns.specs.Line.{groups, line_of, Fit, at_end, also, numbers_of, line_from}

-- xs before the numbers of the rest of a line
abbrev pub before : List ℕ → Option (List ℕ) → Option (List ℕ)
before xs (some ns) = some (xs ++ ns)
before xs none = none

-- i numbers have been read at `at`, and stand in numbers before what was behind them; the line there has them and k more, if it is one, and no fewer
pub record Reading (s : List ℕ) (at i : ℕ) (was numbers : List ℕ) : Type 0 where
  pub read : List ℕ
  pub size : length read ≡ i
  pub held : numbers ≡ read ++ drop i was
  pub here : (k : ℕ) → numbers_of (i + k) (drop at s) ≡ before read (numbers_of k (drop (at + group_bytes * i) s))
  pub fewer : (k : ℕ) → k < i → numbers_of k (drop at s) ≡ none

pub drop-take : (m n : ℕ) (l : List ℕ) → m ≤ n → drop m (take n l) ≡ take (n - m) (drop m l)
drop-take zero n l h = rw (sub-zero n)
drop-take (suc m) zero l h = absurd (omega arith)
drop-take (suc m) (suc n) [] h = sym (take-nil (suc n - suc m))
drop-take (suc m) (suc n) (x ∷ l) h = drop-take m n l (omega arith) ∙ rw suc-sub-suc refl

pub length-groups : (ns : List ℕ) → length (groups ns) ≡ group_bytes * length ns
unfolding groups
length-groups [] = refl
length-groups (n ∷ ns) = simp (length-append, length-group, length-groups ns) (omega arith)

pub groups-append : (ms ns : List ℕ) → groups (ms ++ ns) ≡ groups ms ++ groups ns
unfolding groups
groups-append [] ns = refl
groups-append (m ∷ ms) ns = rw (groups-append ms ns, append_assoc)

-- reading a line that was written gives its numbers, whatever follows
pub numbers-line : (ns rest : List ℕ) → Fit ns → numbers_of (length ns) (line_of ns ++ rest) ≡ some ns
unfolding line_of groups Fit numbers_of
numbers-line [] rest f = refl
numbers-line (n ∷ ns) rest f =
    let e : (group n ++ groups ns) ++ (10 ∷ []) ++ rest ≡ group n ++ (groups ns ++ (10 ∷ []) ++ rest) = simp append_assoc in
    rw (e, take_at (group n) _ group_bytes (length-group n), drop_at (group n) _ group_bytes (length-group n), number-group n f.0, numbers-line ns rest f.1)

-- what was read, written again, gives the bytes of the line
pub line-numbers : (k : ℕ) (bs ns : List ℕ) → numbers_of k bs ≡ some ns → (length ns ≡ k) × Fit ns × (take (line_bytes k) bs ≡ line_of ns)
unfolding line_of groups Fit numbers_of
line-numbers zero bs ns h = go bs (eqb (get_or bs 0 0) 10) refl h
  where
    go : (bs : List ℕ) (t : Bool) → eqb (get_or bs 0 0) 10 ≡ t → at_end t ≡ some ns → (length ns ≡ 0) × Fit ns × (take 1 bs ≡ line_of ns)
    go [] true e p = let z : ◌≡◌ {A = ℕ} 0 10 = eqb-true 0 10 e in absurd (omega arith)
    go (b ∷ bs) true e p = let z : [] ≡ ns = cc in rw (← z) (refl, tt, rw (eqb-true b 10 e))
    go bs false e p = let z : ◌≡◌ {A = ℕ} 0 1 = cc in absurd (omega arith)
line-numbers (suc k) bs ns h = go (λ ms e. line-numbers k (drop group_bytes bs) ms e) (number_of (take group_bytes bs)) refl (numbers_of k (drop group_bytes bs)) refl h
  where
    go : ((ms : List ℕ) → numbers_of k (drop group_bytes bs) ≡ some ms → (length ms ≡ k) × Fit ms × (take (line_bytes k) (drop group_bytes bs) ≡ line_of ms))
        → (r : Option·std ℕ) → number_of (take group_bytes bs) ≡ r → (o : Option (List ℕ)) → numbers_of k (drop group_bytes bs) ≡ o → also r o ≡ some ns
        → (length ns ≡ suc k) × Fit ns × (take (line_bytes (suc k)) bs ≡ line_of ns)
    go ih (Some n) e (some ms) q p =
        let z : n ∷ ms ≡ ns = cc in
        let v = number-value (take group_bytes bs) n e in
        let w = ih ms q in
        let j : line_bytes (suc k) ≡ group_bytes + line_bytes k = omega arith in
        rw (← z) (ap suc w.0, (v.1, w.1), rw (j, take-add group_bytes (line_bytes k) bs, w.2, v.0, append_assoc))
    go ih (Some n) e none q p = let z : ◌≡◌ {A = ℕ} 0 1 = cc in absurd (omega arith)
    go ih None e o q p = let z : ◌≡◌ {A = ℕ} 0 1 = cc in absurd (omega arith)

pub length-line : (ns : List ℕ) → length (line_of ns) ≡ line_bytes (length ns)
unfolding line_of
length-line ns = simp (length-append, length-groups)

-- a line that is of the form lies within the text
pub line-fits : (s : List ℕ) (at k : ℕ) (ns : List ℕ) → numbers_of k (drop at s) ≡ some ns → at + line_bytes k ≤ length s
unfolding line_of
line-fits s at k ns h =
    let w = line-numbers k (drop at s) ns h in
    let q : length (take (line_bytes k) (drop at s)) ≡ line_bytes k = ap length w.2 ∙ simp (length-append, length-groups, w.0) in
    omega (arith, simp (length-take, length-drop) at q)

-- a line is read from its own bytes alone
pub numbers-take : (k n : ℕ) (bs : List ℕ) → line_bytes k ≤ n → numbers_of k (take n bs) ≡ numbers_of k bs
unfolding numbers_of
numbers-take zero n bs h = rw (get_or-take n bs 0 0 (omega arith))
numbers-take (suc k) n bs h =
    let d : drop group_bytes (take n bs) ≡ take (n - group_bytes) (drop group_bytes bs) = drop-take group_bytes n bs (omega arith) in
    rw (take-take group_bytes n bs (omega arith), d, numbers-take k (n - group_bytes) (drop group_bytes bs) (omega arith))

-- ---- number by number

numbers-next : (s : List ℕ) (p k : ℕ) → numbers_of (suc k) (drop p s) ≡ also (number_of (take group_bytes (drop p s))) (numbers_of k (drop (p + group_bytes) s))
unfolding numbers_of
numbers-next s p k = rw drop-drop

numbers-end : (s : List ℕ) (p : ℕ) → numbers_of 0 (drop p s) ≡ at_end (eqb (get_or s p 0) 10)
unfolding numbers_of
numbers-end s p = rw (get_or-drop p s 0 0, add-zero p)

before-also : (xs : List ℕ) (n : ℕ) (o : Option (List ℕ)) → before xs (also (Some n) o) ≡ before (xs ++ (n ∷ [])) o
before-also xs n none = refl
before-also xs n (some ns) = rw append_assoc

module _ (s : List ℕ) (at i : ℕ) (was numbers : List ℕ) (r : Reading s at i was numbers) where
  -- byte 10 ends the line, any other byte does not
  pub reading-end : get_or s (at + group_bytes * i) 0 ≡ 10 → numbers_of i (drop at s) ≡ some r.read
  reading-end e = rw add-zero at (r.here 0) ∙ rw (numbers-end, eq-eqb _ _ e, append-nil)

  reading-on : (get_or s (at + group_bytes * i) 0 ≡ 10 → ⊥) → numbers_of i (drop at s) ≡ none
  reading-on e = rw add-zero at (r.here 0) ∙ rw (numbers-end, ne_eqb _ _ e)

  up_to : (get_or s (at + group_bytes * i) 0 ≡ 10 → ⊥) → (k : ℕ) → k ≤ i → numbers_of k (drop at s) ≡ none
  up_to e k h = go (ltb k i) refl
    where
      go : (t : Bool) → ltb k i ≡ t → numbers_of k (drop at s) ≡ none
      go true p = r.fewer k (ltb-true k i p)
      go false p = let q : k ≡ i = omega (arith, ltb-false k i p) in rw q (reading-on e)

  -- as many numbers as a line may have have been read, and the line goes on
  pub reading-most : i ≡ most_numbers → (get_or s (at + group_bytes * i) 0 ≡ 10 → ⊥) → (k : ℕ) → k ≤ most_numbers → numbers_of k (drop at s) ≡ none
  reading-most n e k h = up_to e k (omega arith)

  -- what comes is neither the end nor a number
  pub reading-not :
      (get_or s (at + group_bytes * i) 0 ≡ 10 → ⊥)
      → number_of (take group_bytes (drop (at + group_bytes * i) s)) ≡ None
      → (k : ℕ)
      → numbers_of k (drop at s) ≡ none
  reading-not e m k = go (ltb i k) refl
    where
      go : (t : Bool) → ltb i k ≡ t → numbers_of k (drop at s) ≡ none
      go false p = up_to e k (ltb-false i k p)
      go true p =
          let l = ltb-true i k p in
          let q : k ≡ i + suc (k - (i + 1)) = omega arith in
          rw (q, r.here (suc (k - (i + 1))), numbers-next, m)

  -- one number more
  pub reading-more :
      (n : ℕ)
      → i < length was
      → (get_or s (at + group_bytes * i) 0 ≡ 10 → ⊥)
      → number_of (take group_bytes (drop (at + group_bytes * i) s)) ≡ Some n
      → Reading s at (i + 1) was (set numbers i n)
  reading-more n l e v =
      record {
        read = r.read ++ (n ∷ []);
        size = simp length-append (omega arith);
        held = rw (r.held, drop-cons was i 0 l) (set_at r.read (get_or was i 0) (drop (suc i) was) n i r.size ∙ rw (append_assoc, add-one));
        here = λ k. next k;
        fewer = λ k h. up_to e k (omega arith);
      }
    where
      next : (k : ℕ) → numbers_of (i + 1 + k) (drop at s) ≡ before (r.read ++ (n ∷ [])) (numbers_of k (drop (at + group_bytes * (i + 1)) s))
      next k =
          let q : i + 1 + k ≡ i + suc k = omega arith in
          let f : at + group_bytes * i + group_bytes ≡ at + group_bytes * (i + 1) = omega arith in
          let o : Option (List ℕ) = numbers_of k (drop (at + group_bytes * (i + 1)) s) in
          rw q (r.here (suc k) ∙ rw (numbers-next, v, f) (before-also r.read n o))

-- zeros after the first k of them
pub drop-zeros : (k n : ℕ) → drop {A = ℕ} k (replicate n 0) ≡ replicate (n - k) 0
drop-zeros zero n = rw (sub-zero n)
drop-zeros (suc k) zero = let z : 0 - suc k ≡ 0 = omega arith in rw z
drop-zeros (suc k) (suc n) = drop-zeros k n ∙ rw suc-sub-suc refl

-- the numbers of a line before zeros are its answer
pub line-complete : (k : ℕ) (bs ns numbers : List ℕ) → numbers_of k bs ≡ some ns → numbers ≡ ns ++ drop k (replicate most_numbers 0) → ◌≡◌ {A = Option·std (List ℕ)} (Some numbers) (line_from (numbers_of k bs))
line-complete k bs ns numbers e h =
    let n = (line-numbers k bs ns e).0 in
    rw (e, h, n, drop-zeros k most_numbers)

-- ---- writing

module _ (d ns : List ℕ) (at i : ℕ) (h : at + line_bytes (length ns) ≤ length d) where
  size : i ≤ length ns → length (groups (take i ns)) ≡ group_bytes * i
  size l = length-groups (take i ns) ∙ ap (λ (k : ℕ). group_bytes * k) (length-take-le i ns l)

  pub put-groups : i < length ns → put (put d at (groups (take i ns))) (at + group_bytes * i) (group (get_or ns i 0)) ≡ put d at (groups (take (i + 1) ns))
  unfolding groups
  put-groups l =
      let e = size (omega arith) in
      let f : put (put d at (groups (take i ns))) (at + length (groups (take i ns))) (group (get_or ns i 0)) ≡ put d at (groups (take i ns) ++ group (get_or ns i 0)) = put-put d at (groups (take i ns)) (group (get_or ns i 0)) (omega arith) in
      rw (add-one i, take-suc ns i 0 l, groups-append, append-nil) (rw e at f)

  pub put-end : i ≡ length ns → set (put d at (groups (take i ns))) (at + group_bytes * i) 10 ≡ put d at (line_of ns)
  unfolding line_of
  put-end l =
      let e = size (omega arith) in
      let f : set (put d at (groups (take i ns))) (at + length (groups (take i ns))) 10 ≡ put d at (groups (take i ns) ++ (10 ∷ [])) = put-more d at (groups (take i ns)) 10 (omega arith) in
      let g : take i ns ≡ ns = take_all i ns (omega arith) in
      rw e at f ∙ rw g
