-- The turn at the end of a line: 19 after 1 and 2, by the item type's words.
use Prim.Native.Nat.{ℕ, zero, suc, ◌+◌, ◌*◌, ◌≤◌, ◌<◌}
use mathlib.Core.Path.{◌≡◌, refl, sym, ap, ◌∙◌}
use mathlib.Core.Bool.{Bool, true, false, not}
use mathlib.Core.List.{List, [], ◌∷◌}
use native.Mathlib.Omega.{arith}
use lib.ListN.{length, get_or, drop, length-drop}
use lib.Seq.{get_or-drop}
use Rattle.job.specs.Sizes.{words_of_item, words_before, job_size}
use Rattle.job.specs.declared.item.Position.{Position}
use Rattle.job.specs.Verdict.{Verdict, pass, refuse, ◌then◌, refuse_if}
use Rattle.job.specs.Job.{item_at, items_of, job_of, unturned, turned, position_at, permitted}
use Rattle.job.proofs.Tests.{not-both}
use Rattle.job.proofs.ItemWords.{items-room}
use Rattle.job.proofs.Positions.{type-of, permitted-type, position-unturned, position-turned}
use Rattle.texts.specs.Shape.{Limit, ◌to◌, turning, formed, each_within, values, numbers_row}
use Rattle.texts.specs.JobLines.{board_sizes}
use Rattle.texts.specs.Admitted.{OfShape}
use Rattle.texts.proofs.ShapeLaws.{shape-groups}
use Rattle.texts_reading.specs.Judged.{limits_of, shape_of, line_verdict}
use Rattle.texts_reading.proofs.CodeJudge.{limits-length}
use Rattle.texts_reading.proofs.CodeJobLines.{of-shape, passed, limit-at, shape-values}

-- ---- a position by its type's words

-- words that do not reach as far as type n hold fewer types
types-few : (n : ℕ) (ws : List ℕ) → length ws < words_of_item * n → length (items_of ws) < n
unfolding items_of
types-few zero ws h = absurd (omega arith)
types-few (suc n) [] h = omega arith
types-few (suc n) (w ∷ []) h = omega arith
types-few (suc n) (w ∷ v ∷ []) h = omega arith
types-few (suc n) (w ∷ v ∷ d ∷ []) h = omega arith
types-few (suc n) (w ∷ v ∷ d ∷ l ∷ ws) h = omega (arith, types-few n ws (omega arith))

items-few : (ws : List ℕ) (n : ℕ) → 1 ≤ n → length ws < job_size (board_sizes ws) n → length (job_of ws).items < n
unfolding job_of
items-few ws n p h = types-few n (drop (words_before (board_sizes ws)) ws) (rw length-drop (omega arith))

-- 19 or none by the test
no-turn : (b : Bool) (line : ℕ) → (b ≡ true → ⊥) → refuse 19 line ≡ refuse_if (not b) 19 line
no-turn true line h = absurd (h refl)
no-turn false line h = refl

may-turn : (b : Bool) (line : ℕ) → b ≡ true → pass ≡ refuse_if (not b) 19 line
may-turn b line e = rw e

module _ (ws : List ℕ) (i t : ℕ) (u : t ≤ 1) where
  abbrev here : Bool
  here = permitted (job_of ws) (2 * i + t)

  -- no type has the number 0
  pub type-zero : (line : ℕ) → i ≡ 0 → refuse 19 line ≡ refuse_if (not here) 19 line
  type-zero line z = no-turn here line (λ e. omega (arith, (permitted-type (job_of ws) (2 * i + t) e).0, type-of i t u, z))

  -- the words have no such type
  pub type-past : (line : ℕ) → (i ≡ 0 → ⊥) → length ws < job_size (board_sizes ws) i → refuse 19 line ≡ refuse_if (not here) 19 line
  type-past line z h =
      no-turn here line (λ e. omega (arith, (permitted-type (job_of ws) (2 * i + t) e).1, type-of i t u, items-few ws i (omega arith) h))

  module _ (low : 1 ≤ i) (room : job_size (board_sizes ws) i ≤ length ws) where
    -- unturned
    pub turn-none : (line : ℕ) → t ≡ 0 → pass ≡ refuse_if (not here) 19 line
    unfolding unturned
    turn-none line z =
        let e : 2 * i + t ≡ 2 * i = omega arith in
        may-turn here line (ap (permitted (job_of ws)) e ∙ ap (λ (p : Position). p.allowed) (position-unturned (job_of ws) i low (items-room ws i room)))

    -- turned
    turned-here : (t ≡ 0 → ⊥) → position_at (job_of ws) (2 * i + t) ≡ turned (item_at (job_of ws) i)
    turned-here z =
        let e : 2 * i + t ≡ 2 * i + 1 = omega arith in
        ap (position_at (job_of ws)) e ∙ position-turned (job_of ws) i low (items-room ws i room)

    pub turn-may : (line : ℕ) {p : Position} → (t ≡ 0 → ⊥) → p ≡ turned (item_at (job_of ws) i) → p.allowed ≡ true → pass ≡ refuse_if (not here) 19 line
    turn-may line z e a = may-turn here line (ap (λ (q : Position). q.allowed) (turned-here z ∙ sym e) ∙ a)

    pub turn-not : (line : ℕ) {p : Position} → (t ≡ 0 → ⊥) → p ≡ turned (item_at (job_of ws) i) → p.allowed ≡ false → refuse 19 line ≡ refuse_if (not here) 19 line
    turn-not line z e a = no-turn here line (λ q. not-both (ap (λ (r : Position). r.allowed) (e ∙ sym (turned-here z)) ∙ q) a)

-- ---- the line row

-- 1 and 2 as without the turn, then 19
pub row-turning :
    (line kind : ℕ) (ls : List Limit) (ws : List ℕ) (i t : ℕ) (ns : List ℕ)
    → numbers_row line (turning kind ls ws i t ∷ []) ns
    ≡ (numbers_row line (shape_of (kind ∷ []) ls ∷ []) ns
    then refuse_if (not (permitted (job_of ws) (2 * get_or (drop 1 ns) i 0 + get_or (drop 1 ns) t 0))) 19 line)
unfolding numbers_row formed values
row-turning line kind ls ws i t ns = go (formed (shape_of (kind ∷ []) ls) ns) (each_within ls (drop 1 ns))
  where
    last : Verdict
    last = refuse_if (not (permitted (job_of ws) (2 * get_or (drop 1 ns) i 0 + get_or (drop 1 ns) t 0))) 19 line

    go :
        (a b : Bool)
        → elim a [ true ↦ refuse_if (not b) 2 line then last | false ↦ refuse 1 line ]
        ≡ (elim a [ true ↦ refuse_if (not b) 2 line then pass | false ↦ refuse 1 line ] then last)
    go true true = refl
    go true false = refl
    go false b = refl

-- a refusal stays
stays : (r line : ℕ) (v : Verdict) → (r ≡ 0 → ⊥) → line_verdict r line ≡ (line_verdict r line then v)
stays zero line v h = absurd (h refl)
stays (suc r) line v h = refl

module _ (kind : ℕ) (low high ws : List ℕ) (i t : ℕ) (ns : List ℕ) (r : ℕ)
    (judged : (line : ℕ) → line_verdict r line ≡ numbers_row line (shape_of (kind ∷ []) (limits_of low high) ∷ []) ns) where
  -- 1 and 2 first
  pub turning-refused : (r ≡ 0 → ⊥) → (line : ℕ) → line_verdict r line ≡ numbers_row line (turning kind (limits_of low high) ws i t ∷ []) ns
  turning-refused h line = stays r line (refuse_if (not (permitted (job_of ws) (2 * get_or (drop 1 ns) i 0 + get_or (drop 1 ns) t 0))) 19 line) h ∙ rw (judged line) (sym (row-turning line kind (limits_of low high) ws i t ns))

  module _ (z : r ≡ 0) where
    -- then 19
    pub turning-row :
        (n : ℕ)
        → ((line : ℕ) → line_verdict n line ≡ refuse_if (not (permitted (job_of ws) (2 * get_or ns (i + 1) 0 + get_or ns (t + 1) 0))) 19 line)
        → (line : ℕ)
        → line_verdict n line ≡ numbers_row line (turning kind (limits_of low high) ws i t ∷ []) ns
    turning-row n h line =
        let a : i + 1 ≡ 1 + i = omega arith in
        let b : t + 1 ≡ 1 + t = omega arith in
        sym (row-turning line kind (limits_of low high) ws i t ns ∙ rw (passed line z (judged line), get_or-drop 1 ns i 0, get_or-drop 1 ns t 0, ← a, ← b) (sym (h line)))

    -- the numbers are of the shape
    shaped : OfShape (shape_of (kind ∷ []) (limits_of low high)) ns
    shaped = of-shape 1 (shape_of (kind ∷ []) (limits_of low high)) ns (passed 1 z (judged 1))

    module _ (same : length high ≡ length low) where
      -- as many as the limits, and the kind
      pub turning-size : length ns ≡ suc (length low)
      turning-size = omega (arith, shape-groups (shape_of (kind ∷ []) (limits_of low high)) ns shaped, limits-length low high same)

      high-at : (low high : List ℕ) (k : ℕ) → length high ≡ length low → k < length low → (get_or (limits_of low high) k (0 to 0)).high ≡ get_or high k 0
      high-at [] high k e h = absurd (omega arith)
      high-at (l ∷ low) [] k e h = absurd (omega arith)
      high-at (l ∷ low) (h ∷ high) zero e q = refl
      high-at (l ∷ low) (h ∷ high) (suc k) e q = high-at low high k (omega arith) (omega arith)

      -- each at most its greatest value
      pub turning-at : (k : ℕ) → k < length low → get_or ns (k + 1) 0 ≤ get_or high k 0
      turning-at k h =
          let a : k + 1 ≡ 1 + k = omega arith in
          let v = shape-values (shape_of (kind ∷ []) (limits_of low high)) ns shaped in
          let w = (limit-at (limits_of low high) shaped.others shaped.limits k (omega (arith, limits-length low high same))).1 in
          rw (a, ← get_or-drop 1 ns k 0, v, ← high-at low high k same h) w
