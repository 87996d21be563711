-- The line row of one line, both ways: it passes just the lines that are of an admitted shape with each number within its limits.
use Prim.Native.Nat.{ℕ, suc, ◌+◌, ◌<◌}
use native.Mathlib.Omega.{arith}
use mathlib.Core.Path.{◌≡◌, refl, ap, ◌∙◌}
use mathlib.Core.Logic.{◌⊎◌, inl, inr}
use mathlib.Core.Bool.{Bool, true, false, not}
use mathlib.Core.List.{List, [], ◌∷◌, ◌++◌}
use mathlib.Core.Option.{Option, none, some}
use lib.Dec.{eqb}
use lib.ListN.{length, length-append}
use lib.Seq.{drop-append_seam}
use borrow.Author.Tests.{eqb-true, eq-eqb}
use Rattle.job.specs.Verdict.{pass, refuse, ◌then◌, refuse_if, within}
use Rattle.job.proofs.Tests.{not-both, and_both, within-limits}
use Rattle.job.proofs.Verdicts.{pass-not-refuse}
use Rattle.job.proofs.CodeEnds.{then-pass}
use Rattle.columns.specs.Group.{limit}
use Rattle.columns.specs.Line.{Fit, line_of, read_line}
use Rattle.columns.proofs.ReadLaws.{read-written, written_read}
use Rattle.texts.specs.Shape.{Limit, Shape, job_line, size_line, item_line, plan_line, prices_line, layout_line, begins, formed, each_within, values, numbers_row, line_row}
use Rattle.texts.specs.JobLines.{board_sizes, types_of}
use Rattle.texts.specs.Admitted.{InLimits, OfShape, Admitted}
use Rattle.texts.proofs.Basics.{and_parts, within-parts, unless-passed}

-- ---- each value within its limits

-- the test says so in plain numbers, and the other way round
pub each-within-in : (ls : List Limit) (vs : List ℕ) → length vs ≡ length ls → each_within ls vs ≡ true → InLimits ls vs
unfolding each_within
each-within-in [] [] e h = tt
each-within-in [] (v ∷ vs) e h = omega arith
each-within-in (l ∷ ls) [] e h = omega arith
each-within-in (l ∷ ls) (v ∷ vs) e h =
    let p = and_parts (within l.low l.high v) (each_within ls vs) h in
    let q = within-parts l.low l.high v p.0 in
    (q.0, q.1, each-within-in ls vs (omega arith) p.1)

pub in-each-within : (ls : List Limit) (vs : List ℕ) → InLimits ls vs → each_within ls vs ≡ true
unfolding each_within
in-each-within [] [] h = refl
in-each-within [] (v ∷ vs) h = refl
in-each-within (l ∷ ls) [] h = refl
in-each-within (l ∷ ls) (v ∷ vs) h =
    and_both (within l.low l.high v) (each_within ls vs) (within-limits l.low l.high v h.0 h.1) (in-each-within ls vs h.2)

-- as many values as limits
pub in-limits-length : (ls : List Limit) (vs : List ℕ) → InLimits ls vs → length vs ≡ length ls
in-limits-length [] [] h = refl
in-limits-length [] (v ∷ vs) h = absurd h
in-limits-length (l ∷ ls) [] h = absurd h
in-limits-length (l ∷ ls) (v ∷ vs) h = ap suc (in-limits-length ls vs h.2)

-- ---- the form: kind, running number, as many others as limits

-- a list begins with another just where it is that one and something after it
begins-append : (ms vs : List ℕ) → begins ms (ms ++ vs) ≡ true
unfolding begins
begins-append [] vs = refl
begins-append (m ∷ ms) vs = and_both (eqb m m) (begins ms (ms ++ vs)) (eq-eqb m m refl) (begins-append ms vs)

begins-with : (ms ns : List ℕ) → begins ms ns ≡ true → (vs : List ℕ) × (ns ≡ ms ++ vs)
unfolding begins
begins-with [] ns h = (ns, refl)
begins-with (m ∷ ms) [] h = absurd (not-both h refl)
begins-with (m ∷ ms) (n ∷ ns) h =
    let p = and_parts (eqb m n) (begins ms ns) h in
    let q = begins-with ms ns p.1 in
    (q.0, cc (q.1, eqb-true m n p.0))

module _ (s : Shape) where
  -- the test of the form says so in plain numbers, and the other way round
  pub is-formed : (ns : List ℕ) → formed s ns ≡ true → (vs : List ℕ) × (ns ≡ s.kind ∷ (s.running ++ vs)) × (length vs ≡ length s.limits)
  unfolding formed
  is-formed ns h =
      let p = and_parts (begins (s.kind ∷ s.running) ns) (eqb (length ns) (1 + length s.running + length s.limits)) h in
      let q = begins-with (s.kind ∷ s.running) ns p.0 in
      let e : length ns ≡ 1 + length s.running + length s.limits = eqb-true (length ns) (1 + length s.running + length s.limits) p.1 in
      let f : length ns ≡ suc (length (s.running ++ q.0)) = ap length q.1 in
      (q.0, q.1, omega (arith, length-append s.running q.0))

  pub formed-is : (vs : List ℕ) → length vs ≡ length s.limits → formed s (s.kind ∷ (s.running ++ vs)) ≡ true
  unfolding formed
  formed-is vs h =
      and_both
      (begins (s.kind ∷ s.running) (s.kind ∷ (s.running ++ vs)))
      (eqb (length (s.kind ∷ (s.running ++ vs))) (1 + length s.running + length s.limits))
      (begins-append (s.kind ∷ s.running) vs)
      (eq-eqb (suc (length (s.running ++ vs))) (1 + length s.running + length s.limits) (rw length-append (omega arith)))

  -- the numbers after the kind and the running number
  values-are : (vs : List ℕ) → values s (s.kind ∷ (s.running ++ vs)) ≡ vs
  unfolding values
  values-are vs =
      let e : 1 + length s.running ≡ suc (length s.running) = omega arith in
      rw e (drop-append_seam s.running vs)

  -- numbers of the shape are of its form
  pub shape-formed : (ns : List ℕ) → OfShape s ns → formed s ns ≡ true
  shape-formed ns o = rw o.numbers (formed-is o.others (in-limits-length s.limits o.others o.limits))

  -- numbers of the shape pass, whatever other shapes are admitted
  pub shape-passes : (line : ℕ) (ss : List Shape) (ns : List ℕ) → OfShape s ns → numbers_row line (s ∷ ss) ns ≡ pass
  unfolding numbers_row
  shape-passes line ss ns o =
      let v : values s ns ≡ o.others = ap (values s) o.numbers ∙ values-are o.others in
      let l : each_within s.limits (values s ns) ≡ true = rw v (in-each-within s.limits o.others o.limits) in
      let t : s.permits (values s ns) ≡ true = rw v o.turned in
      rw (shape-formed ns o, numbers_row, l, t)

  -- what is of the form and passes is of the shape
  formed-passes :
      (line : ℕ) (ns : List ℕ)
      → formed s ns ≡ true
      → (refuse_if (not (each_within s.limits (values s ns))) 2 line then refuse_if (not (s.permits (values s ns))) 19 line) ≡ pass
      → OfShape s ns
  formed-passes line ns h p =
      let (vs, e, size) = is-formed ns h in
      let v : values s ns ≡ vs = ap (values s) e ∙ values-are vs in
      let q = then-pass (refuse_if (not (each_within s.limits (values s ns))) 2 line) (refuse_if (not (s.permits (values s ns))) 19 line) p in
      let l : each_within s.limits (values s ns) ≡ true = unless-passed (each_within s.limits (values s ns)) 2 line q.0 in
      let t : s.permits (values s ns) ≡ true = unless-passed (s.permits (values s ns)) 19 line q.1 in
      record { others = vs; numbers = e; limits = each-within-in s.limits vs size (rw v at l); turned = rw v at t }

-- numbers that pass are of an admitted shape
pub row-admitted : (line : ℕ) (ss : List Shape) (ns : List ℕ) → numbers_row line ss ns ≡ pass → Admitted ss ns
unfolding numbers_row
row-admitted line [] ns h = pass-not-refuse h refl
row-admitted line (s ∷ ss) ns h = go (formed s ns) refl (row-admitted line ss ns) h
  where
    go :
        (t : Bool)
        → formed s ns ≡ t
        → (numbers_row line ss ns ≡ pass → Admitted ss ns)
        → elim t [
          | true ↦ refuse_if (not (each_within s.limits (values s ns))) 2 line then refuse_if (not (s.permits (values s ns))) 19 line
          | false ↦ numbers_row line ss ns
        ]
        ≡ pass
        → OfShape s ns ⊎ Admitted ss ns
    go true e ih p = inl (formed-passes s line ns e p)
    go false e ih p = inr (ih p)

-- each kind stands once among the shapes
abbrev pub Other : ℕ → List Shape → Type 0
Other k [] = Unit {0}
Other k (s ∷ ss) = (k ≡ s.kind → ⊥) × Other k ss

abbrev pub Kinds : List Shape → Type 0
Kinds [] = Unit {0}
Kinds (s ∷ ss) = Other s.kind ss × Kinds ss

-- numbers of another kind are not of the form
other-unformed : (s : Shape) (ss : List Shape) (ns : List ℕ) → Other s.kind ss → Admitted ss ns → formed s ns ≡ false
other-unformed s [] ns h a = absurd a
other-unformed s (t ∷ ss) ns h (inl o) = go (formed s ns) refl
  where
    go : (b : Bool) → formed s ns ≡ b → b ≡ false
    go true e = let (vs, q, size) = is-formed s ns e in let k : s.kind ≡ t.kind = cc o.numbers in absurd (h.0 k)
    go false e = refl
other-unformed s (t ∷ ss) ns h (inr a) = other-unformed s ss ns h.1 a

-- numbers of an admitted shape pass
pub admitted-row : (line : ℕ) (ss : List Shape) (ns : List ℕ) → Kinds ss → Admitted ss ns → numbers_row line ss ns ≡ pass
unfolding numbers_row
admitted-row line [] ns k a = absurd a
admitted-row line (s ∷ ss) ns k (inl o) = shape-passes s line ss ns o
admitted-row line (s ∷ ss) ns k (inr a) = rw (other-unformed s ss ns k.0 a, numbers_row) (admitted-row line ss ns k.1 a)

-- the numbers of the line row
abbrev pub OfLineRow : ℕ → Type 0
OfLineRow n = (n ≡ 1) ⊎ ((n ≡ 2) ⊎ (n ≡ 19))

-- a refusal of the line row is one of them and names the line
pub row-refuses : (line : ℕ) (ss : List Shape) (ns : List ℕ) (n p : ℕ) → numbers_row line ss ns ≡ refuse n p → OfLineRow n × (p ≡ line)
unfolding numbers_row
row-refuses line [] ns n p h = (inl (cc), cc)
row-refuses line (s ∷ ss) ns n p h =
    go (formed s ns) (each_within s.limits (values s ns)) (s.permits (values s ns)) (row-refuses line ss ns n p) h
  where
    go :
        (t u v : Bool)
        → (numbers_row line ss ns ≡ refuse n p → OfLineRow n × (p ≡ line))
        → elim t [ true ↦ refuse_if (not u) 2 line then refuse_if (not v) 19 line | false ↦ numbers_row line ss ns ] ≡ refuse n p
        → OfLineRow n × (p ≡ line)
    go true true true ih q = absurd (pass-not-refuse refl q)
    go true true false ih q = (inr (inr (cc)), cc)
    go true false v ih q = (inr (inl (cc)), cc)
    go false u v ih q = ih q

-- ---- bytes

-- a line that passes is, written again, the same bytes, and its numbers are of an admitted shape
pub line-admitted :
    (line : ℕ) (ss : List Shape) (bs : List ℕ)
    → line_row line ss (read_line bs) ≡ pass
    → (ns : List ℕ) × (bs ≡ line_of ns) × Fit ns × Admitted ss ns
unfolding line_row
line-admitted line ss bs h = go (read_line bs) refl h
  where
    go : (o : Option (List ℕ)) → read_line bs ≡ o → line_row line ss o ≡ pass → (ns : List ℕ) × (bs ≡ line_of ns) × Fit ns × Admitted ss ns
    go none e p = absurd (pass-not-refuse p refl)
    go (some ns) e p = let w = written_read bs ns e in (ns, w.0, w.1, row-admitted line ss ns p)

-- the kind, the running number and the limits of a shape fit nine columns
abbrev pub Below : List Limit → Type 0
Below [] = Unit {0}
Below (l ∷ ls) = (l.high < limit) × Below ls

pub record Narrow (s : Shape) : Type 0 where
  pub kind : s.kind < limit
  pub running : Fit s.running
  pub limits : Below s.limits

-- each of them fits
fit_append : (ms ns : List ℕ) → Fit ms → Fit ns → Fit (ms ++ ns)
unfolding Fit
fit_append [] ns f g = g
fit_append (m ∷ ms) ns f g = (f.0, fit_append ms ns f.1 g)

fit-limits : (ls : List Limit) (vs : List ℕ) → Below ls → InLimits ls vs → Fit vs
unfolding Fit
fit-limits [] [] b h = tt
fit-limits [] (v ∷ vs) b h = absurd h
fit-limits (l ∷ ls) [] b h = absurd h
fit-limits (l ∷ ls) (v ∷ vs) b h = (omega arith, fit-limits ls vs b.1 h.2)

-- then so do the numbers of a line of the shape
pub shape-fits : (s : Shape) (ns : List ℕ) → Narrow s → OfShape s ns → Fit ns
unfolding Fit
shape-fits s ns n o =
    rw o.numbers (n.kind, fit_append s.running o.others n.running (fit-limits s.limits o.others n.limits o.limits))

-- so every line of a shape, its numbers within their limits, is read back from what is written
pub shape-read-back :
    (line : ℕ) (s : Shape) (ss : List Shape) (ns : List ℕ)
    → OfShape s ns
    → Fit ns
    → line_row line (s ∷ ss) (read_line (line_of ns)) ≡ pass
unfolding line_row
shape-read-back line s ss ns o f = rw (read-written ns f) (shape-passes s line ss ns o)

-- the kinds with a running number i or of the job words ws, and those without
pub narrow-job : Narrow job_line
unfolding Fit
narrow-job = omega arith

pub narrow_size : (j : ℕ) → j < limit → Narrow (size_line j)
unfolding Fit
narrow_size j h = omega arith

pub narrow-item : (i : ℕ) → i < limit → Narrow (item_line i)
unfolding Fit
narrow-item i h = omega arith

pub narrow-plan : (ws : List ℕ) → types_of ws < limit → Narrow (plan_line ws)
unfolding Fit
narrow-plan ws h = omega arith

pub narrow-prices : Narrow prices_line
unfolding Fit
narrow-prices = omega arith

pub narrow-layout : (ws : List ℕ) → board_sizes ws < limit → types_of ws < limit → Narrow (layout_line ws)
unfolding Fit
narrow-layout ws z h = omega arith

-- the groups of a line of a shape
abbrev pub groups_of : Shape → ℕ
groups_of s = 1 + length s.running + length s.limits

-- a line of a shape has just these
pub shape-groups : (s : Shape) (ns : List ℕ) → OfShape s ns → length ns ≡ groups_of s
shape-groups s ns o =
    let e : length ns ≡ suc (length (s.running ++ o.others)) = ap length o.numbers in
    omega (arith, length-append s.running o.others, in-limits-length s.limits o.others o.limits)

-- each shape has fewer than k groups
abbrev pub Shorter : ℕ → List Shape → Type 0
Shorter k [] = Unit {0}
Shorter k (s ∷ ss) = (groups_of s < k) × Shorter k ss

-- a line of more groups than every admitted shape is 1
pub row-too-long : (line : ℕ) (ss : List Shape) (ns : List ℕ) → Shorter (length ns) ss → numbers_row line ss ns ≡ refuse 1 line
unfolding numbers_row
row-too-long line [] ns h = refl
row-too-long line (s ∷ ss) ns h = rw (unformed (formed s ns) refl, numbers_row) (row-too-long line ss ns h.1)
  where
    unformed : (t : Bool) → formed s ns ≡ t → formed s ns ≡ false
    unformed true e =
        let (vs, q, size) = is-formed s ns e in
        let f : length ns ≡ suc (length (s.running ++ vs)) = ap length q in
        absurd (omega (arith, length-append s.running vs))
    unformed false e = e
