-- The lines 3 of counted cuts, one by one, and how many bytes they are.
use Prim.Native.Nat.{ℕ, zero, suc, ◌+◌, ◌*◌, ◌≤◌, ◌<◌}
use native.Mathlib.Decide.{ℕ_discrete}
use native.Mathlib.Numerals.{add-one}
use native.Mathlib.Omega.{arith}
use mathlib.Core.Path.{◌≡◌, refl, sym, ap, ◌∙◌}
use mathlib.Core.Bool.{Bool, true, false}
use mathlib.Core.List.{List, [], ◌∷◌, ◌++◌, append_assoc, append-nil}
use lib.Dec.{eqb}
use lib.ListN.{length, get_or, take, drop, length-append}
use lib.Seq.{take_all}
use borrow.Author.Tests.{eq-eqb, ne_eqb}
use Rattle.job.specs.Lists.{sum_of}
use Rattle.listing.specs.declared.plate.Plate.{Plate}
use Rattle.listing.specs.Listing.{Cut, no_cut}
use Rattle.plan.specs.Plan.{total}
use Rattle.columns.specs.Group.{put}
use Rattle.columns.specs.Line.{line_of}
use Rattle.columns.proofs.LineLaws.{length-line}
use Rattle.listing.specs.CutRead.{cut_read, cuts_read}
use Rattle.listing.proofs.CodeCuts.{length-cuts_from, cut-read}
use Rattle.texts.specs.Widths.{plan_line_bytes}
use Rattle.texts.specs.FoldText.{count_row, count_lines}
use Rattle.texts_writing.specs.Wrote.{Wrote, count_line}
use Rattle.texts_writing.proofs.WroteLaws.{wrote-more, wrote-line}

-- of k cuts, read from words, the lines of those before cut c
abbrev pub lines_to : (ℕ → Plate) → ℕ → ℕ → List ℕ → List ℕ → List ℕ
lines_to plates k c cuts ns = count_lines plates (take c (cuts_read k cuts)) ns

-- `plates` gives the plate type of a number
module _ (plates : ℕ → Plate) where
  -- the first cut and the rest
  lines_cons : (c : Cut) (cs : List Cut) (n : ℕ) (ns : List ℕ) → count_lines plates (c ∷ cs) (n ∷ ns) ≡ count_line plates c n ++ count_lines plates cs ns
  unfolding count_lines count_line
  lines_cons c cs n ns = go (eqb n 0)
    where
      line : List ℕ
      line = line_of (count_row (plates c.plate) c n)

      go :
          (t : Bool)
          → elim t [ true ↦ count_lines plates cs ns | false ↦ line ++ count_lines plates cs ns ]
          ≡ elim t [ true ↦ [] | false ↦ line ] ++ count_lines plates cs ns
      go true = refl
      go false = refl

  -- the first k cuts and the rest
  lines_split : (k : ℕ) (cs : List Cut) (ns : List ℕ) → k ≤ length ns → count_lines plates cs ns ≡ count_lines plates (take k cs) ns ++ count_lines plates (drop k cs) (drop k ns)
  unfolding count_lines
  lines_split zero cs ns h = refl
  lines_split (suc k) [] ns h = refl
  lines_split (suc k) (c ∷ cs) [] h = absurd (omega arith)
  lines_split (suc k) (c ∷ cs) (n ∷ ns) h =
      lines_cons c cs n ns
      ∙ ap (λ (l : List ℕ). count_line plates c n ++ l) (lines_split k cs ns (omega arith))
      ∙ sym (append_assoc (count_line plates c n) (count_lines plates (take k cs) ns) (count_lines plates (drop k cs) (drop k ns)))
      ∙ ap (λ (l : List ℕ). l ++ count_lines plates (drop k cs) (drop k ns)) (sym (lines_cons c (take k cs) n ns))

  lines_next :
      (k : ℕ) (cs : List Cut) (ns : List ℕ)
      → k < length cs
      → k < length ns
      → count_lines plates (take (suc k) cs) ns ≡ count_lines plates (take k cs) ns ++ count_line plates (get_or cs k no_cut) (get_or ns k 0)
  unfolding count_lines
  lines_next k [] ns h g = absurd (omega arith)
  lines_next k (c ∷ cs) [] h g = absurd (omega arith)
  lines_next zero (c ∷ cs) (n ∷ ns) h g = lines_cons c [] n ns ∙ append-nil (count_line plates c n)
  lines_next (suc k) (c ∷ cs) (n ∷ ns) h g =
      lines_cons c (take (suc k) cs) n ns
      ∙ ap (λ (l : List ℕ). count_line plates c n ++ l) (lines_next k cs ns (omega arith) (omega arith))
      ∙ sym (append_assoc (count_line plates c n) (count_lines plates (take k cs) ns) (count_line plates (get_or cs k no_cut) (get_or ns k 0)))
      ∙ ap (λ (l : List ℕ). l ++ count_line plates (get_or cs k no_cut) (get_or ns k 0)) (sym (lines_cons c (take k cs) n ns))

  module _ (k c : ℕ) (cuts ns : List ℕ) (h : c < k) (g : c < length ns) where
    -- one cut more
    pub lines_more : lines_to plates k (c + 1) cuts ns ≡ lines_to plates k c cuts ns ++ count_line plates (cut_read cuts c) (get_or ns c 0)
    lines_more = rw (add-one, ← cut-read k c cuts h) (lines_next c (cuts_read k cuts) ns (rw length-cuts_from h) g)

    -- there is room for it, as there is for all
    pub lines-room : length (lines_to plates k c cuts ns) + length (count_line plates (cut_read cuts c) (get_or ns c 0)) ≤ length (count_lines plates (cuts_read k cuts) ns)
    lines-room =
        let cs : List Cut = cuts_read k cuts in
        let all = ap length (lines_split (c + 1) cs ns (omega arith)) in
        let one = ap length lines_more in
        omega (arith, simp length-append at all, simp length-append at one)

  -- one line more is written
  pub counted-more :
      {d out out' : List ℕ} {at end : ℕ} (k c : ℕ) (cuts ns : List ℕ)
      → c < k
      → c < length ns
      → length (count_lines plates (cuts_read k cuts) ns) ≤ length d
      → Wrote d 0 (lines_to plates k c cuts ns) at out
      → Wrote out at (count_line plates (cut_read cuts c) (get_or ns c 0)) end out'
      → Wrote d 0 (lines_to plates k (c + 1) cuts ns) end out'
  counted-more k c cuts ns h g r w v =
      rw (lines_more k c cuts ns h g) (wrote-more w (omega (arith, lines-room k c cuts ns h g)) v)

  -- all of them
  pub lines-all : (k c : ℕ) (cuts ns : List ℕ) → k ≤ c → lines_to plates k c cuts ns ≡ count_lines plates (cuts_read k cuts) ns
  lines-all k c cuts ns h = rw (take_all c (cuts_read k cuts) (rw length-cuts_from h))

  -- a line 3, none for a cut that is not counted
  line-counted : (c : Cut) (n : ℕ) → (n ≡ 0 → ⊥) → count_line plates c n ≡ line_of (count_row (plates c.plate) c n)
  unfolding count_line
  line-counted c n h = rw (ne_eqb n 0 h, count_line)

  pub line-absent : (c : Cut) (n : ℕ) → n ≡ 0 → count_line plates c n ≡ []
  unfolding count_line
  line-absent c n h = rw (eq-eqb n 0 h, count_line)

  pub line-room : (at m : ℕ) (c : Cut) (n : ℕ) → (n ≡ 0 → ⊥) → at + length (count_line plates c n) ≤ m → at + plan_line_bytes ≤ m
  line-room at m c n h r = omega (arith, r, ap length (line-counted c n h) ∙ length-line (count_row (plates c.plate) c n))

  -- the line of a cut and a plate type that are read, written
  pub line_wrote :
      {d out : List ℕ} {at end : ℕ} (p : Plate) (cut c : Cut) (n : ℕ)
      → p ≡ plates cut.plate
      → cut ≡ c
      → (n ≡ 0 → ⊥)
      → out ≡ put d at (line_of (count_row p cut n))
      → end ≡ at + plan_line_bytes
      → Wrote d at (count_line plates c n) end out
  line_wrote p cut c n f e h o q = rw (← e, line-counted cut n h, ← f) (wrote-line (count_row p cut n) 8 o refl q)

  line-bytes : (c : Cut) (n : ℕ) → length (count_line plates c n) ≤ plan_line_bytes * n
  line-bytes c n = go (ℕ_discrete n 0)
    where
      go : Dec (n ≡ 0) → length (count_line plates c n) ≤ plan_line_bytes * n
      go (yes p) = rw (line-absent c n p) (omega arith)
      go (no p) = rw (line-counted c n p, length-line) (omega (arith, p))

  -- a line 3 for each piece cut is enough
  pub lines-few : (cs : List Cut) (ns : List ℕ) → length (count_lines plates cs ns) ≤ plan_line_bytes * total ns
  unfolding count_lines total sum_of
  lines-few [] ns = omega arith
  lines-few (c ∷ cs) [] = omega arith
  lines-few (c ∷ cs) (n ∷ ns) =
      let e = ap length (lines_cons c cs n ns) ∙ length-append (count_line plates c n) (count_lines plates cs ns) in
      let i : length (count_lines plates cs ns) ≤ plan_line_bytes * total ns = lines-few cs ns in
      omega (arith, e, line-bytes c n, i)
