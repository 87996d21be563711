-- The line row of a line's numbers, as the code decides it: number by number against the head, value by value against the limits.
use Prim.Native.Nat.{ℕ, suc, ◌+◌, ◌≤◌, ◌<◌}
use mathlib.Core.Path.{◌≡◌, refl, sym, ap, ◌∙◌}
use mathlib.Core.Bool.{Bool, true, false, not, ◌&&◌}
use mathlib.Core.List.{List, [], ◌∷◌}
use native.Mathlib.Omega.{arith}
use native.Mathlib.Numerals.{add-one}
use lib.Dec.{eqb}
use lib.ListN.{length, get_or, drop, drop_of_length-le}
use lib.Seq.{drop-cons}
use borrow.Author.Tests.{eq-eqb, ne_eqb, le-leb, lt-leb}
use Rattle.std.specs.Prelude.{nat_eq}
use Rattle.std.specs.List.{starts_with}
use Rattle.job.specs.Verdict.{Verdict, pass, refuse, ◌then◌, refuse_if}
use Rattle.texts.specs.Shape.{begins, formed, each_within, values, numbers_row}
use Rattle.texts_reading.specs.Judged.{limits_of, shape_of}

-- ---- the kind and the running number

pub begins-starts : (head ns : List ℕ) → starts_with nat_eq ns head ≡ begins head ns
unfolding begins
begins-starts [] ns = refl
begins-starts (h ∷ head) [] = refl
begins-starts (h ∷ head) (n ∷ ns) = ap (λ (b : Bool). eqb h n && b) (begins-starts head ns)

-- ---- the limits

module _ (vs low high : List ℕ) (i : ℕ) (p : length low ≡ length vs) (q : length high ≡ length vs) {b : Bool} (r : b ≡ each_within (limits_of (drop i low) (drop i high)) (drop i vs)) where
  here : i < length vs → b ≡ each_within (limits_of (get_or low i 0 ∷ drop (suc i) low) (get_or high i 0 ∷ drop (suc i) high)) (get_or vs i 0 ∷ drop (suc i) vs)
  here h =
      let pl : i < length low = omega arith in
      let ph : i < length high = omega arith in
      r ∙ rw (drop-cons low i 0 pl, drop-cons high i 0 ph, drop-cons vs i 0 h)

  pub within-next : i < length vs → get_or low i 0 ≤ get_or vs i 0 → get_or vs i 0 ≤ get_or high i 0 → b ≡ each_within (limits_of (drop (i + 1) low) (drop (i + 1) high)) (drop (i + 1) vs)
  unfolding each_within
  within-next h l u = here h ∙ rw (le-leb (get_or low i 0) (get_or vs i 0) l, le-leb (get_or vs i 0) (get_or high i 0) u, add-one i)

  pub below-low : i < length vs → get_or vs i 0 < get_or low i 0 → b ≡ false
  unfolding each_within
  below-low h l = here h ∙ rw (lt-leb (get_or low i 0) (get_or vs i 0) l)

  pub above-high : i < length vs → get_or low i 0 ≤ get_or vs i 0 → get_or high i 0 < get_or vs i 0 → b ≡ false
  unfolding each_within
  above-high h l u = here h ∙ rw (le-leb (get_or low i 0) (get_or vs i 0) l, lt-leb (get_or vs i 0) (get_or high i 0) u)

  pub within_all : length vs ≤ i → b ≡ true
  unfolding each_within
  within_all h = let e : length low ≤ i = omega arith in r ∙ rw (drop_of_length-le low e)

-- ---- the line row

-- a check that passes adds nothing
alone : (v : Verdict) → (v then pass) ≡ v
alone pass = refl
alone (refuse n p) = refl

pub limits-length : (low high : List ℕ) → length high ≡ length low → length (limits_of low high) ≡ length low
limits-length [] highs e = refl
limits-length (l ∷ low) [] e = absurd (omega arith)
limits-length (l ∷ low) (h ∷ high) e = ap suc (limits-length low high (omega arith))

module _ (head low high ns : List ℕ) (h : 0 < length head) (e : length high ≡ length low) where
  formed-parts : formed (shape_of head (limits_of low high)) ns ≡ (begins head ns && eqb (length ns) (length head + length low))
  unfolding formed
  formed-parts = go head h
    where
      go : (head : List ℕ) → 0 < length head → formed (shape_of head (limits_of low high)) ns ≡ (begins head ns && eqb (length ns) (length head + length low))
      go [] z = absurd (omega arith)
      go (k ∷ ks) z =
          let s : 1 + length ks + length (limits_of low high) ≡ suc (length ks) + length low = omega (arith, limits-length low high e) in
          rw s

  values-here : values (shape_of head (limits_of low high)) ns ≡ drop (length head) ns
  unfolding values
  values-here = go head h
    where
      go : (head : List ℕ) → 0 < length head → values (shape_of head (limits_of low high)) ns ≡ drop (length head) ns
      go [] z = absurd (omega arith)
      go (k ∷ ks) z = let s : 1 + length ks ≡ suc (length ks) = omega arith in rw s

  limits-here : (shape_of head (limits_of low high)).limits ≡ limits_of low high
  limits-here = go head
    where
      go : (head : List ℕ) → (shape_of head (limits_of low high)).limits ≡ limits_of low high
      go [] = refl
      go (k ∷ ks) = refl

  permits-here : (vs : List ℕ) → (shape_of head (limits_of low high)).permits vs ≡ true
  permits-here vs = go head
    where
      go : (head : List ℕ) → (shape_of head (limits_of low high)).permits vs ≡ true
      go [] = refl
      go (k ∷ ks) = refl

  -- not of the shape
  unformed : (line : ℕ) → formed (shape_of head (limits_of low high)) ns ≡ false → refuse 1 line ≡ numbers_row line (shape_of head (limits_of low high) ∷ []) ns
  unfolding numbers_row
  unformed line f = rw (f, numbers_row)

  pub row-size : (line : ℕ) → (length ns ≡ length head + length low → ⊥) → refuse 1 line ≡ numbers_row line (shape_of head (limits_of low high) ∷ []) ns
  row-size line d = unformed line (formed-parts ∙ rw (ne_eqb (length ns) (length head + length low) d) (and-false (begins head ns)))
    where
      and-false : (b : Bool) → (b && false) ≡ false
      and-false true = refl
      and-false false = refl

  pub row-head : (line : ℕ) → false ≡ begins head ns → refuse 1 line ≡ numbers_row line (shape_of head (limits_of low high) ∷ []) ns
  row-head line b = unformed line (formed-parts ∙ rw (← b))

  module _ (line : ℕ) (b : true ≡ begins head ns) (d : length ns ≡ length head + length low) where
    formed-here : numbers_row line (shape_of head (limits_of low high) ∷ []) ns ≡ refuse_if (not (each_within (limits_of low high) (drop (length head) ns))) 2 line
    unfolding numbers_row
    formed-here =
        let f : formed (shape_of head (limits_of low high)) ns ≡ true = formed-parts ∙ rw (← b, eq-eqb (length ns) (length head + length low) d) in
        rw (f, numbers_row, limits-here, values-here, permits-here (drop (length head) ns)) (alone (refuse_if (not (each_within (limits_of low high) (drop (length head) ns))) 2 line))

    pub row-outside : false ≡ each_within (limits_of low high) (drop (length head) ns) → refuse 2 line ≡ numbers_row line (shape_of head (limits_of low high) ∷ []) ns
    row-outside l = sym (formed-here ∙ rw (← l))

    pub row-passes : true ≡ each_within (limits_of low high) (drop (length head) ns) → pass ≡ numbers_row line (shape_of head (limits_of low high) ∷ []) ns
    row-passes l = sym (formed-here ∙ rw (← l))
