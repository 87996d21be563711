-- The laws of a whole line: reading what was written gives the numbers, writing what was read the bytes; byte 10 stands at its end alone.
use Prim.Native.Nat.{ℕ, zero, suc, ◌+◌, ◌*◌, ◌/◌, ◌%◌, ◌<◌}
use mathlib.Core.Path.{◌≡◌, refl, sym, ap, ◌∙◌}
use mathlib.Core.Logic.{⊎_elim}
use mathlib.Core.Bool.{Bool, true, false}
use mathlib.Core.List.{List, [], ◌∷◌, ◌++◌, append-nil}
use mathlib.Core.Option.{Option, none, some}
use native.Mathlib.Omega.{arith}
use lib.ListN.{length, take, get_or, get_or-append}
use lib.Seq.{take_all, get_or-take, get_or-append-add}
use lib.Dec.{eqb, ltb}
use borrow.Author.Tests.{eqb-true, eq-eqb, ltb-true, ltb-false}
use Rattle.columns.specs.Widths.{lead_bytes, group_bytes, line_bytes}
use Rattle.columns.specs.Group.{mark, lead, group}
use Rattle.columns.specs.Line.{groups, line_of, Fit, numbers_of, read_line}
use Rattle.columns.proofs.GroupLaws.{mark-cases}
use Rattle.columns.proofs.LineLaws.{numbers-line, line-numbers, length-groups, length-line}

-- reading a line that was written gives its numbers
pub read-written : (ns : List ℕ) → Fit ns → read_line (line_of ns) ≡ some ns
unfolding read_line
read-written ns f =
    let size = length-line ns in
    let k : length (line_of ns) / group_bytes ≡ length ns = rw size (omega arith) in
    let e = eq-eqb (length (line_of ns)) (line_bytes (length (line_of ns) / group_bytes)) (omega arith) in
    let r : numbers_of (length ns) (line_of ns) ≡ some ns = rw append-nil at (numbers-line ns [] f) in
    rw (e, read_line, k) r

-- a line that is read, written again, is the same bytes
pub written_read : (bs ns : List ℕ) → read_line bs ≡ some ns → (bs ≡ line_of ns) × Fit ns
unfolding read_line
written_read bs ns h = go (eqb (length bs) (line_bytes (length bs / group_bytes))) refl h
  where
    go :
        (t : Bool)
        → eqb (length bs) (line_bytes (length bs / group_bytes)) ≡ t
        → elim t [ true ↦ numbers_of (length bs / group_bytes) bs | false ↦ none ] ≡ some ns
        → (bs ≡ line_of ns) × Fit ns
    go true e p =
        let w = line-numbers (length bs / group_bytes) bs ns p in
        (sym (take_all (line_bytes (length bs / group_bytes)) bs (omega (arith, eqb-true (length bs) (line_bytes (length bs / group_bytes)) e))) ∙ w.2, w.1)
    go false e p = let z : ◌≡◌ {A = ℕ} 0 1 = cc in absurd (omega arith)

-- no byte is 10, so no line ends within these bytes
abbrev pub Inner : List ℕ → Type 0
Inner [] = Unit
Inner (b ∷ bs) = (b ≡ 10 → ⊥) × Inner bs

-- one part after another
pub inner-append : (xs ys : List ℕ) → Inner xs → Inner ys → Inner (xs ++ ys)
inner-append [] ys h k = k
inner-append (x ∷ xs) ys h k = (h.0, inner-append xs ys h.1 k)

inner-lead : (k n : ℕ) → Inner (lead k n)
unfolding lead
inner-lead zero n = tt
inner-lead (suc k) n =
    inner-append (lead k (n / 10)) (mark n ∷ []) (inner-lead k (n / 10)) (λ e. ⊎_elim (λ w. omega arith) (λ w. omega arith) (mark-cases n), tt)

-- the columns of numbers hold no byte 10
pub inner-groups : (ns : List ℕ) → Inner (groups ns)
unfolding groups group
inner-groups [] = tt
inner-groups (n ∷ ns) =
    let one = inner-append (lead lead_bytes (n / 10)) ((48 + n % 10) ∷ []) (inner-lead lead_bytes (n / 10)) (λ e. omega arith, tt) in
    inner-append (group n) (groups ns) one (inner-groups ns)

-- no byte of these is 10
pub inner-at : (bs : List ℕ) → Inner bs → (j : ℕ) → j < length bs → get_or bs j 0 ≡ 10 → ⊥
inner-at [] h j l e = omega arith
inner-at (b ∷ bs) h zero l e = h.0 e
inner-at (b ∷ bs) h (suc j) l e = inner-at bs h.1 j (omega arith) e

-- ---- the line of k numbers that bytes begin with

module _ (k : ℕ) (bs ns : List ℕ) (e : numbers_of k bs ≡ some ns) where
  byte_of : (j : ℕ) → j < line_bytes k → get_or bs j 0 ≡ get_or (groups ns ++ (10 ∷ [])) j 0
  unfolding line_of
  byte_of j h = sym (get_or-take (line_bytes k) bs j 0 h) ∙ ap (λ (l : List ℕ). get_or l j 0) (line-numbers k bs ns e).2

  groups-size : length (groups ns) ≡ group_bytes * k
  groups-size = length-groups ns ∙ ap (λ (m : ℕ). group_bytes * m) (line-numbers k bs ns e).0

  -- byte 10 is at its end
  pub line-ten : get_or bs (group_bytes * k) 0 ≡ 10
  line-ten =
      let q : length (groups ns) + 0 ≡ group_bytes * k = omega (arith, groups-size) in
      byte_of (group_bytes * k) (omega arith) ∙ (rw q at (get_or-append-add (groups ns) (10 ∷ []) 0 0))

  -- and nowhere before
  pub line-inner : (j : ℕ) → j < group_bytes * k → get_or bs j 0 ≡ 10 → ⊥
  line-inner j h t =
      let l : j < length (groups ns) = omega (arith, groups-size) in
      inner-at (groups ns) (inner-groups ns) j l (sym (byte_of j (omega arith) ∙ get_or-append (groups ns) (10 ∷ []) 0 j l) ∙ t)

  -- its bytes are read as its numbers
  pub read-line : read_line (take (line_bytes k) bs) ≡ some ns
  read-line = let w = line-numbers k bs ns e in rw w.2 (read-written ns w.1)

-- bytes begin with one line at most
pub one_line : (k m : ℕ) (bs ns : List ℕ) → numbers_of k bs ≡ some ns → (k ≡ m → ⊥) → numbers_of m bs ≡ none
one_line k m bs ns e h = go (numbers_of m bs) refl
  where
    go : (o : Option (List ℕ)) → numbers_of m bs ≡ o → o ≡ none
    go none q = refl
    go (some ms) q = less (ltb k m) (ltb m k) refl refl
      where
        less : (t u : Bool) → ltb k m ≡ t → ltb m k ≡ u → some ms ≡ none
        less true u a b = absurd (line-inner m bs ms q (group_bytes * k) (omega (arith, ltb-true k m a)) (line-ten k bs ns e))
        less false true a b = absurd (line-inner k bs ns e (group_bytes * m) (omega (arith, ltb-true m k b)) (line-ten m bs ms q))
        less false false a b = absurd (h (omega (arith, ltb-false k m a, ltb-false m k b)))
