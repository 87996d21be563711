-- The lines 3 of counted cuts, both ways: they name their cuts, rise, and count what was counted; and lines 3 that rise are those of their counts.
use Prim.Native.Nat.{ℕ, zero, suc, ◌+◌, ◌≤◌, ◌<◌}
use native.Mathlib.Decide.{ℕ_discrete}
use native.Mathlib.Omega.{arith}
use mathlib.Core.Path.{◌≡◌, refl, sym, ap, ap₂, ◌∙◌, subst}
use mathlib.Core.Logic.{◌⊎◌, inl, inr}
use mathlib.Core.Bool.{Bool, true, false, ◌&&◌}
use mathlib.Core.List.{List, [], ◌∷◌}
use lib.Dec.{leb, eqb}
use lib.ListN.{length, get_or, drop, length-drop}
use lib.Seq.{drop-cons}
use borrow.Author.Tests.{eqb-true, eqb-false, eq-eqb, ne_eqb, leb-false, lt-leb}
use Rattle.job.specs.Sizes.{max_pieces, max_residuals}
use Rattle.job.specs.Lists.{sum_of}
use Rattle.job.specs.Verdict.{pass, refuse, lowest}
use Rattle.job.specs.Job.{type_of, turn_of, permitted, job_of}
use Rattle.job.proofs.Positions.{type-turn, turn_small, type-of, turn-of}
use Rattle.job.proofs.Verdicts.{pass-not-refuse}
use Rattle.listing.specs.declared.plate.Plate.{Plate}
use Rattle.listing.specs.Listing.{Cut, Listing, no_cut, plate_at, cut_at}
use Rattle.plan.specs.Plan.{on_plate, of_position, total}
use Rattle.layouts.specs.Fold.{cut_from, cut_of}
use Rattle.columns.specs.Line.{Fit}
use Rattle.texts.specs.JobLines.{types_of}
use Rattle.texts.specs.SawText.{Counted, position_on, named_cut, cuts_named, plates_shown, cuts_rising, count_for, counts_from, plan_counts}
use Rattle.texts.specs.Held.{PlanLimits}
use Rattle.texts.specs.Printed.{counted_cut, counted_of}
use Rattle.texts.specs.Shown.{Shows}
use Rattle.texts.proofs.Basics.{and_parts}
use Rattle.texts.proofs.ShownPlates.{shows-pass, pass-shows}

-- what holds of each of some cuts with its number, numbered from k
abbrev pub Each : (ℕ → Cut → Type 0) → ℕ → List Cut → Type 0
Each P k [] = Unit {0}
Each P k (c ∷ cs) = P k c × Each P (suc k) cs

-- of all cuts of a listing
pub each-cut : (P : ℕ → Cut → Type 0) (l : Listing) → ((d : ℕ) → d < length l.cuts → P (suc d) (cut_at l (suc d))) → Each P 1 l.cuts
unfolding cut_at
each-cut P l f = from 0 l.cuts refl
  where
    from : (d : ℕ) (cs : List Cut) → drop d l.cuts ≡ cs → Each P (suc d) cs
    from d [] e = tt
    from d (c ∷ cs) e =
        let n = ap length e in
        let inside : d < length l.cuts = omega (arith, length-drop d l.cuts) in
        let q = sym (drop-cons l.cuts d no_cut inside) ∙ e in
        let here : get_or l.cuts d no_cut ≡ c = cc in
        let rest : drop (suc d) l.cuts ≡ cs = cc in
        (subst (P (suc d)) here (f d inside), from (suc d) cs rest)

-- line 3 of a cut, which shows its plate; `plates` gives the plate type of a number
abbrev counted : (ℕ → Plate) → Cut → ℕ → Counted
counted plates c n = counted_cut (plates c.plate) c n

-- a cut that is counted has a line, one that is not has none
counted-by :
    (plates : ℕ → Plate) (P : List Counted → Type 0) (c : Cut) (cs : List Cut) (n : ℕ) (ns : List ℕ)
    → (n ≡ 0 → P (counted_of plates cs ns))
    → ((n ≡ 0 → ⊥) → P (counted plates c n ∷ counted_of plates cs ns))
    → P (counted_of plates (c ∷ cs) (n ∷ ns))
unfolding counted_of
counted-by plates P c cs n ns f g = go (eqb n 0) refl
  where
    go : (t : Bool) → eqb n 0 ≡ t → P (elim t [ true ↦ counted_of plates cs ns | false ↦ counted plates c n ∷ counted_of plates cs ns ])
    go true e = f (eqb-true n 0 e)
    go false e = g (eqb-false n 0 e)

-- at most a line for each cut
pub counted-length : (plates : ℕ → Plate) (cs : List Cut) (ns : List ℕ) → length (counted_of plates cs ns) ≤ length cs
unfolding counted_of
counted-length plates [] ns = omega arith
counted-length plates (c ∷ cs) [] = omega arith
counted-length plates (c ∷ cs) (n ∷ ns) =
    let h = counted-length plates cs ns in
    counted-by plates (λ rs. length rs ≤ suc (length cs)) c cs n ns (λ e. omega arith) (λ e. omega arith)

-- a cut within the limits of lines 3, of the job words ws, and a plate that fits the columns of a line
pub record CutLimits (ws : List ℕ) (plates : ℕ → Plate) (c : Cut) : Type 0 where
  pub plate : c.plate ≤ max_residuals
  pub low : 1 ≤ type_of c.item
  pub high : type_of c.item ≤ types_of ws
  pub lies : permitted (job_of ws) c.item ≡ true
  pub shown : let p = plates c.plate in Fit (p.width ∷ p.height ∷ p.stage ∷ [])

-- lines 3 of such cuts, with at most 4,000 pieces, are within their limits
pub counted-limits :
    (ws : List ℕ) (plates : ℕ → Plate) (k : ℕ) (cs : List Cut) (ns : List ℕ)
    → Each (λ _ c. CutLimits ws plates c) k cs
    → total ns ≤ max_pieces
    → PlanLimits ws (counted_of plates cs ns)
unfolding counted_of total sum_of
counted-limits ws plates k [] ns h t = tt
counted-limits ws plates k (c ∷ cs) [] h t = tt
counted-limits ws plates k (c ∷ cs) (m ∷ ns) h t =
    let rest = counted-limits ws plates (suc k) cs ns h.1 (omega arith) in
    counted-by plates (PlanLimits ws) c cs m ns (λ e. rest)
    (λ e. (
      record {
        plate = h.0.plate;
        low = h.0.low;
        high = h.0.high;
        counted = omega arith;
        few = omega arith;
        shown = h.0.shown;
        turned = turn_small c.item;
        lies = rw (type-turn c.item) h.0.lies;
      },
      rest,
    ))

module _ (l : Listing) where
  -- ---- what a line gives to a cut

  count-own : (k : ℕ) (r : Counted) (rs : List Counted) → named_cut l r ≡ k → count_for l (r ∷ rs) k ≡ r.count + count_for l rs k
  unfolding count_for sum_of
  count-own k r rs e = rw (eq-eqb (named_cut l r) k e)

  count-other : (k : ℕ) (r : Counted) (rs : List Counted) → (named_cut l r ≡ k → ⊥) → count_for l (r ∷ rs) k ≡ count_for l rs k
  unfolding count_for sum_of
  count-other k r rs e = rw (ne_eqb (named_cut l r) k e) (omega arith)

  -- a line of a lower cut gives nothing to those from k on
  from-other : (r : Counted) (rs : List Counted) (k n : ℕ) → named_cut l r < k → counts_from l (r ∷ rs) k n ≡ counts_from l rs k n
  unfolding counts_from
  from-other r rs k zero h = refl
  from-other r rs k (suc n) h = rw (count-other k r rs (λ e. omega arith), from-other r rs (suc k) n (omega arith))

  -- ---- lines 3 that rise

  -- the cuts that lines name rise, from cut k on
  abbrev Rises : ℕ → List Counted → Type 0
  Rises k [] = Unit {0}
  Rises k (r ∷ rs) = (k ≤ named_cut l r) × Rises (suc (named_cut l r)) rs

  rises-lower : (j k : ℕ) (rs : List Counted) → j ≤ k → Rises k rs → Rises j rs
  rises-lower j k [] p h = tt
  rises-lower j k (r ∷ rs) p h = (omega arith, h.1)

  -- they give nothing to a lower cut
  rises-none : (i k : ℕ) (rs : List Counted) → i < k → Rises k rs → count_for l rs i ≡ 0
  unfolding count_for sum_of
  rises-none i k [] p h = refl
  rises-none i k (r ∷ rs) p h =
      count-other i r rs (λ e. omega arith) ∙ rises-none i (suc (named_cut l r)) rs (omega arith) h.1

  -- 8: each names a cut
  rises-named : (k line : ℕ) (rs : List Counted) → Rises (suc k) rs → cuts_named l line rs ≡ pass
  unfolding cuts_named lowest
  rises-named k line [] h = refl
  rises-named k line (r ∷ rs) h =
      rw (ne_eqb (named_cut l r) 0 (λ z. omega arith), lowest) (rises-named (named_cut l r) (suc line) rs h.1)

  -- 9: they rise just where the check for those that do not passes
  rises-rising : (last line : ℕ) (rs : List Counted) → Rises (suc last) rs → cuts_rising l last line rs ≡ pass
  unfolding cuts_rising
  rises-rising last line [] h = refl
  rises-rising last line (r ∷ rs) h =
      rw (lt-leb (named_cut l r) last (omega arith), cuts_rising) (rises-rising (named_cut l r) (suc line) rs h.1)

  rising-rises : (last line : ℕ) (rs : List Counted) → cuts_rising l last line rs ≡ pass → Rises (suc last) rs
  unfolding cuts_rising
  rising-rises last line [] h = tt
  rising-rises last line (r ∷ rs) h = go (leb (named_cut l r) last) refl h (rising-rises (named_cut l r) (suc line) rs)
    where
      go :
          (t : Bool)
          → leb (named_cut l r) last ≡ t
          → elim t [ true ↦ refuse 9 line | false ↦ cuts_rising l (named_cut l r) (suc line) rs ] ≡ pass
          → (cuts_rising l (named_cut l r) (suc line) rs ≡ pass → Rises (suc (named_cut l r)) rs)
          → Rises (suc last) (r ∷ rs)
      go true e p ih = absurd (pass-not-refuse p refl)
      go false e p ih = (leb-false (named_cut l r) last e, ih p)

  -- ---- from counts to lines 3

  -- each of these cuts is the one of its plate and its position; they are numbered from k
  abbrev pub InRow : ℕ → List Cut → Type 0
  InRow k cs = Each (λ i c. cut_of l c.plate c.item ≡ i) k cs

  -- the line of a cut names it
  counted-cut : (c : Cut) (n : ℕ) → named_cut l (counted (plate_at l) c n) ≡ cut_of l c.plate c.item
  unfolding named_cut
  counted-cut c n = ap (cut_of l c.plate) (type-turn c.item)

  -- their lines rise
  counted-rises : (k : ℕ) (cs : List Cut) (ns : List ℕ) → InRow k cs → Rises k (counted_of (plate_at l) cs ns)
  unfolding counted_of
  counted-rises k [] ns h = tt
  counted-rises k (c ∷ cs) [] h = tt
  counted-rises k (c ∷ cs) (n ∷ ns) h =
      let rest = counted-rises (suc k) cs ns h.1 in
      counted-by (plate_at l) (Rises k) c cs n ns
      (λ e. rises-lower k (suc k) (counted_of (plate_at l) cs ns) (omega arith) rest)
      (λ e. (omega (arith, counted-cut c n), rises-lower (suc (named_cut l (counted (plate_at l) c n))) (suc k) (counted_of (plate_at l) cs ns) (omega (arith, counted-cut c n)) rest))

  -- and show their plates
  pub counted-shows : (cs : List Cut) (ns : List ℕ) → Shows (plate_at l) (counted_of (plate_at l) cs ns)
  unfolding counted_of
  counted-shows [] ns = tt
  counted-shows (c ∷ cs) [] = tt
  counted-shows (c ∷ cs) (n ∷ ns) =
      let rest = counted-shows cs ns in
      counted-by (plate_at l) (Shows (plate_at l)) c cs n ns (λ e. rest) (λ e. (refl, rest))

  -- so they pass 8, 20 and 9
  pub counted-named : (line : ℕ) (cs : List Cut) (ns : List ℕ) → InRow 1 cs → cuts_named l line (counted_of (plate_at l) cs ns) ≡ pass
  counted-named line cs ns h = rises-named 0 line (counted_of (plate_at l) cs ns) (counted-rises 1 cs ns h)

  pub counted-shown : (line : ℕ) (cs : List Cut) (ns : List ℕ) → plates_shown l line (counted_of (plate_at l) cs ns) ≡ pass
  counted-shown line cs ns = shows-pass l line (counted_of (plate_at l) cs ns) (counted-shows cs ns)

  pub counted-rising : (line : ℕ) (cs : List Cut) (ns : List ℕ) → InRow 1 cs → cuts_rising l 0 line (counted_of (plate_at l) cs ns) ≡ pass
  counted-rising line cs ns h = rises-rising 0 line (counted_of (plate_at l) cs ns) (counted-rises 1 cs ns h)

  -- and count what was counted
  from-counted : (k : ℕ) (cs : List Cut) (ns : List ℕ) → InRow k cs → length ns ≡ length cs → counts_from l (counted_of (plate_at l) cs ns) k (length cs) ≡ ns
  unfolding counted_of counts_from
  from-counted k [] [] h e = refl
  from-counted k [] (n ∷ ns) h e = absurd (omega arith)
  from-counted k (c ∷ cs) [] h e = absurd (omega arith)
  from-counted k (c ∷ cs) (n ∷ ns) h e =
      let rest = from-counted (suc k) cs ns h.1 (omega arith) in
      let none = rises-none k (suc k) (counted_of (plate_at l) cs ns) (omega arith) (counted-rises (suc k) cs ns h.1) in
      counted-by (plate_at l) (λ rs. count_for l rs k ∷ counts_from l rs (suc k) (length cs) ≡ n ∷ ns) c cs n ns
      (λ z. ap₂ (λ (m : ℕ) (ms : List ℕ). m ∷ ms) (none ∙ sym z) rest)
      (λ z.
      let own : count_for l (counted (plate_at l) c n ∷ counted_of (plate_at l) cs ns) k ≡ n = count-own k (counted (plate_at l) c n) (counted_of (plate_at l) cs ns) (counted-cut c n ∙ h.0) ∙ omega arith in
      ap₂ (λ (m : ℕ) (ms : List ℕ). m ∷ ms) own (from-other (counted (plate_at l) c n) (counted_of (plate_at l) cs ns) (suc k) (length cs) (omega (arith, counted-cut c n)) ∙ rest))

  pub counted-counts : (ns : List ℕ) → InRow 1 l.cuts → length ns ≡ length l.cuts → plan_counts l (counted_of (plate_at l) l.cuts ns) ≡ ns
  unfolding plan_counts
  counted-counts ns h e = from-counted 1 l.cuts ns h e

  -- ---- from lines 3 to counts and back

  -- the cut that each line names is found among these cuts, which are numbered from k
  abbrev Found : ℕ → List Cut → List Counted → Type 0
  Found k cs [] = Unit {0}
  Found k cs (r ∷ rs) = (cut_from r.plate (position_on r) k cs ≡ named_cut l r) × Found k cs rs

  -- a cut that is found has one of their numbers
  found_from : (j i k : ℕ) (cs : List Cut) → (cut_from j i k cs ≡ 0) ⊎ (k ≤ cut_from j i k cs)
  unfolding cut_from
  found_from j i k [] = inl refl
  found_from j i k (c ∷ cs) = go (on_plate j c && of_position i c) (found_from j i (suc k) cs)
    where
      from : Bool → ℕ
      from t = elim t [ true ↦ k | false ↦ cut_from j i (suc k) cs ]

      go : (t : Bool) → (cut_from j i (suc k) cs ≡ 0) ⊎ (suc k ≤ cut_from j i (suc k) cs) → (from t ≡ 0) ⊎ (k ≤ from t)
      go true h = inr (omega arith)
      go false (inl e) = inl e
      go false (inr e) = inr (omega arith)

  -- where it is the first of them, that cut is of the line's plate and position; else it is found among the others
  found_here : (j i k : ℕ) (c : Cut) (cs : List Cut) → 1 ≤ k → cut_from j i k (c ∷ cs) ≡ k → (c.plate ≡ j) × (c.item ≡ i)
  unfolding cut_from on_plate of_position
  found_here j i k c cs low h = go (eqb c.plate j && eqb c.item i) refl h (found_from j i (suc k) cs)
    where
      go :
          (t : Bool)
          → (eqb c.plate j && eqb c.item i) ≡ t
          → elim t [ true ↦ k | false ↦ cut_from j i (suc k) cs ] ≡ k
          → (cut_from j i (suc k) cs ≡ 0) ⊎ (suc k ≤ cut_from j i (suc k) cs)
          → (c.plate ≡ j) × (c.item ≡ i)
      go true e p q = let w = and_parts (eqb c.plate j) (eqb c.item i) e in (eqb-true c.plate j w.0, eqb-true c.item i w.1)
      go false e p (inl q) = absurd (omega arith)
      go false e p (inr q) = absurd (omega arith)

  found-later : (j i k m : ℕ) (c : Cut) (cs : List Cut) → k < m → cut_from j i k (c ∷ cs) ≡ m → cut_from j i (suc k) cs ≡ m
  unfolding cut_from
  found-later j i k m c cs p h = go (on_plate j c && of_position i c) h
    where
      go : (t : Bool) → elim t [ true ↦ k | false ↦ cut_from j i (suc k) cs ] ≡ m → cut_from j i (suc k) cs ≡ m
      go true h = absurd (omega arith)
      go false h = h

  found-rest : (k : ℕ) (c : Cut) (cs : List Cut) (rs : List Counted) → Rises (suc k) rs → Found k (c ∷ cs) rs → Found (suc k) cs rs
  found-rest k c cs [] h f = tt
  found-rest k c cs (r ∷ rs) h f = (
    found-later r.plate (position_on r) k (named_cut l r) c cs (omega arith) f.0,
    found-rest k c cs rs (rises-lower (suc k) (suc (named_cut l r)) rs (omega arith) h.1) f.1,
  )

  -- where a line names the first of these cuts, that cut's line is this one; `rest` are the lines of the others
  line-own :
      (k : ℕ) (c : Cut) (cs : List Cut) (r : Counted) (rs rest : List Counted)
      → 1 ≤ k
      → named_cut l r ≡ k
      → Rises k (r ∷ rs)
      → Found k (c ∷ cs) (r ∷ rs)
      → 1 ≤ r.count
      → r.turn ≤ 1
      → r.shown ≡ plate_at l r.plate
      → rest ≡ rs
      → counted (plate_at l) c (count_for l (r ∷ rs) k) ∷ rest ≡ r ∷ rs
  line-own k c cs r rs rest low e h f some turned shown q =
      let none = rises-none k (suc (named_cut l r)) rs (omega arith) h.1 in
      let m : count_for l (r ∷ rs) k ≡ r.count = count-own k r rs e ∙ omega arith in
      let pair = found_here r.plate (position_on r) k c cs low (f.0 ∙ e) in
      let i : type_of c.item ≡ r.type = ap type_of pair.1 ∙ type-of r.type r.turn turned in
      let t : turn_of c.item ≡ r.turn = ap turn_of pair.1 ∙ turn-of r.type r.turn turned in
      let p : plate_at l c.plate ≡ r.shown = ap (plate_at l) pair.0 ∙ sym shown in
      ap₂ (λ (a : Counted) (as' : List Counted). a ∷ as') (λ d. record { plate = pair.0 d; type = i d; turn = t d; count = m d; shown = p d }) q

  -- a line for each cut that lines count is the lines themselves
  counts-counted :
      (k : ℕ) (ws : List ℕ) (cs : List Cut) (rs : List Counted)
      → 1 ≤ k
      → Rises k rs
      → Found k cs rs
      → PlanLimits ws rs
      → Shows (plate_at l) rs
      → counted_of (plate_at l) cs (counts_from l rs k (length cs)) ≡ rs
  unfolding counted_of counts_from cut_from
  counts-counted k ws [] [] low h f p v = refl
  counts-counted k ws [] (r ∷ rs) low h f p v = absurd (omega arith)
  counts-counted k ws (c ∷ cs) [] low h f p v =
      counted-by (plate_at l) (λ qs. qs ≡ []) c cs (count_for l [] k) (counts_from l [] (suc k) (length cs))
      (λ z. counts-counted (suc k) ws cs [] (omega arith) tt tt tt tt)
      (λ z. absurd (z (rises-none k (suc k) [] (omega arith) tt)))
  counts-counted k ws (c ∷ cs) (r ∷ rs) low h f p v = go (ℕ_discrete (named_cut l r) k) (λ qs. counts-counted (suc k) ws cs qs (omega arith))
    where
      m : ℕ
      m = count_for l (r ∷ rs) k

      ms : List ℕ
      ms = counts_from l (r ∷ rs) (suc k) (length cs)

      go :
          Dec (named_cut l r ≡ k)
          → ((qs : List Counted) → Rises (suc k) qs → Found (suc k) cs qs → PlanLimits ws qs → Shows (plate_at l) qs → counted_of (plate_at l) cs (counts_from l qs (suc k) (length cs)) ≡ qs)
          → counted_of (plate_at l) (c ∷ cs) (m ∷ ms) ≡ r ∷ rs
      go (yes e) ih =
          let up = rises-lower (suc k) (suc (named_cut l r)) rs (omega arith) h.1 in
          let none = rises-none k (suc k) rs (omega arith) up in
          let rest = ap (counted_of (plate_at l) cs) (from-other r rs (suc k) (length cs) (omega arith)) ∙ ih rs up (found-rest k c cs rs up f.1) p.1 v.1 in
          counted-by (plate_at l) (λ qs. qs ≡ r ∷ rs) c cs m ms
          (λ z. absurd (omega (arith, count-own k r rs e)))
          (λ z. line-own k c cs r rs (counted_of (plate_at l) cs ms) low e h f p.0.counted p.0.turned v.0 rest)
      go (no e) ih =
          let up : Rises (suc k) (r ∷ rs) = (omega arith, h.1) in
          counted-by (plate_at l) (λ qs. qs ≡ r ∷ rs) c cs m ms
          (λ z. ih (r ∷ rs) up (found-rest k c cs (r ∷ rs) up f) p v)
          (λ z. absurd (z (rises-none k (suc k) (r ∷ rs) (omega arith) up)))

  found_all : (rs : List Counted) → Found 1 l.cuts rs
  unfolding named_cut cut_of
  found_all [] = tt
  found_all (r ∷ rs) = (refl, found_all rs)

  -- lines 3 that pass 20 and 9 are the lines of the cuts that they count
  pub plan-counted :
      (line : ℕ) (ws : List ℕ) (rs : List Counted)
      → plates_shown l line rs ≡ pass
      → cuts_rising l 0 line rs ≡ pass
      → PlanLimits ws rs
      → counted_of (plate_at l) l.cuts (plan_counts l rs) ≡ rs
  unfolding plan_counts
  plan-counted line ws rs v h p =
      counts-counted 1 ws l.cuts rs (omega arith) (rising-rises 0 line rs h) (found_all rs) p (pass-shows l line rs v)
