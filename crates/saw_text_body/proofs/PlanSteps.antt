-- What is kept of lines 3 is kept with one line more: the three ways that the code goes.
use Prim.Native.Nat.{ℕ, zero, suc, ◌+◌, ◌-◌, ◌≤◌, ◌<◌}
use native.Mathlib.Omega.{arith}
use mathlib.Core.Path.{◌≡◌, refl, sym, ◌∙◌}
use mathlib.Core.Bool.{Bool, true, false, cond, not}
use mathlib.Core.List.{List, [], ◌∷◌, ◌++◌}
use lib.Dec.{leb, eqb}
use lib.ListN.{length, set}
use borrow.Author.Tests.{le-leb, lt-leb, ne_eqb}
use Rattle.job.specs.Verdict.{pass, refuse, refuse_if, lowest}
use Rattle.listing.specs.Plate.{same}
use Rattle.listing.specs.Listing.{Listing, plate_at}
use Rattle.job.specs.Job.{Job}
use Rattle.listing.specs.Records.{plate_words}
use Rattle.listing.specs.Holds.{Holds, plate_read}
use Rattle.listing.proofs.CodeHolds.{held-plate}
use Rattle.texts.specs.SawText.{Counted, named_cut, cuts_named, misshown, plates_shown, cuts_rising, plan_counts}
use Rattle.texts.proofs.CallRows.{counts-length}
use Rattle.saw_text_body.specs.declared.plan_lines.PlanLine.{PlanLine}
use Rattle.saw_text_body.specs.declared.plan_lines.PlanLines.{PlanLines}
use Rattle.saw_text_body.specs.PlanRead.{plate_shown, LineOf, at_line, first_line, risen, last_cut, PlanKept}
use Rattle.saw_text_body.proofs.PlanLaws.{first_next, first-stays, rising-next, rising_stays, risen-all, risen-falls, risen-stays, last-next}
use Rattle.saw_text_body.proofs.CountLaws.{counts-next, counts_zero, held-set, held-zeros}

-- a line refused is not line 0
refused-line : (number line : ℕ) → 0 < line → refuse number line ≡ at_line number line
refused-line number zero h = absurd (omega arith)
refused-line number (suc line) h = refl

-- the first line that a test refuses, with one line more
first_more :
    (number : ℕ) (bad : Counted → Bool) (first : ℕ) (rs : List Counted) (r : Counted) (u line : ℕ)
    → first + length rs ≡ line
    → 0 < line
    → lowest number (λ _ s. bad s) first rs ≡ at_line number u
    → lowest number (λ _ s. bad s) first (rs ++ r ∷ []) ≡ at_line number (first_line u (bad r) line)
unfolding first_line
first_more number bad first rs r zero line e h p = first_next number bad first rs r p ∙ rw e (go (bad r))
  where
    go : (t : Bool) → refuse_if t number line ≡ at_line number (cond t line 0)
    go true = refused-line number line h
    go false = refl
first_more number bad first rs r (suc u) line e h p = rw (ne_eqb (suc u) 0 (λ q. omega arith)) (first-stays number bad first rs (r ∷ []) p)

-- the number of a refused line stands
pub at-refused : (number line : ℕ) → (line ≡ 0 → ⊥) → at_line number line ≡ refuse number line
at-refused number zero h = absurd (h refl)
at-refused number (suc line) h = refl

-- the plate that a line shows is another than the model's, by the words of the plate
pub shown-other :
    (job : Job) (l : Listing) {plates : List ℕ} (here : PlanLine) (r : Counted) {o : Bool}
    → Holds plates (plate_words job l.plates)
    → LineOf here r
    → o ≡ not (same (plate_shown here.shown) (plate_read plates here.plate.0))
    → o ≡ misshown l r
unfolding misshown plate_at
shown-other job l here r h line e = e ∙ rw (line.shown-is, line.plate-is, held-plate job l.plates h here.plate.0)

-- `c` is the cut that line r names, `o` whether it shows another plate, `p'` what is kept after it
module _ (l : Listing) (first line c : ℕ) (o : Bool) (rs : List Counted) (r : Counted) (p p' : PlanLines) (counts : List ℕ) (here : first + length rs ≡ line) (from : 0 < line) (cut : c ≡ named_cut l r) (other : o ≡ misshown l r) (unnamed : p'.unnamed ≡ first_line p.unnamed (eqb c 0) line) (shows : p'.misshown ≡ first_line p.misshown o line) (kept : PlanKept l first rs p counts) where
  named : cuts_named l first (rs ++ r ∷ []) ≡ at_line 8 p'.unnamed
  unfolding cuts_named
  named = rw (unnamed, cut) (first_more 8 (λ s. eqb (named_cut l s) 0) first rs r p.unnamed line here from kept.unnamed-is)

  shown : plates_shown l first (rs ++ r ∷ []) ≡ at_line 20 p'.misshown
  unfolding plates_shown
  shown = rw (shows, other) (first_more 20 (misshown l) first rs r p.misshown line here from kept.misshown-is)

  -- a line has fallen before
  pub line_stays : (p.fallen ≡ 0 → ⊥) → p'.fallen ≡ p.fallen → p'.last.0 ≡ p.last.0 → PlanKept l first (rs ++ r ∷ []) p' counts
  line_stays h f k =
      let v : cuts_rising l 0 first rs ≡ refuse 9 p.fallen = kept.fallen-is ∙ at-refused 9 p.fallen h in
      let e = risen-stays l 0 first rs (r ∷ []) v in
      record {
        unnamed-is = named;
        misshown-is = shown;
        fallen-is = rw f (rising_stays l 0 first rs (r ∷ []) v ∙ sym (at-refused 9 p.fallen h));
        last-is = rw (e, k) kept.last-is;
        counts-are = rw e kept.counts-are;
      }

  module _ (none : p.fallen ≡ 0) where
    rises : cuts_rising l 0 first rs ≡ pass
    rises = kept.fallen-is ∙ rw none

    all : risen l 0 rs ≡ rs
    all = risen-all l 0 first rs rises

    last : p.last.0 ≡ last_cut l 0 rs
    last = kept.last-is ∙ rw all

    -- this line falls
    pub line-falls : c ≤ p.last.0 → p'.fallen ≡ line → p'.last.0 ≡ p.last.0 → PlanKept l first (rs ++ r ∷ []) p' counts
    line-falls h f k =
        let t : leb (named_cut l r) (last_cut l 0 rs) ≡ true = le-leb (named_cut l r) (last_cut l 0 rs) (omega (arith, last, cut)) in
        let e : risen l 0 (rs ++ r ∷ []) ≡ risen l 0 rs = risen-falls l 0 first rs r rises t ∙ sym all in
        record {
          unnamed-is = named;
          misshown-is = shown;
          fallen-is = rising-next l 0 first rs r rises ∙ rw (t, here, f) (refused-line 9 line from);
          last-is = rw (e, k) kept.last-is;
          counts-are = rw e kept.counts-are;
        }

    -- this line rises, and is counted
    pub line-rises : (n : ℕ) → r.count ≡ n → p.last.0 < c → c ≤ length l.cuts → p'.fallen ≡ 0 → p'.last.0 ≡ c → PlanKept l first (rs ++ r ∷ []) p' (set counts (c - 1) n)
    line-rises n q h m f k =
        let t : leb (named_cut l r) (last_cut l 0 rs) ≡ false = lt-leb (named_cut l r) (last_cut l 0 rs) (omega (arith, last, cut)) in
        let v : cuts_rising l 0 first (rs ++ r ∷ []) ≡ pass = rising-next l 0 first rs r rises ∙ rw t in
        let e : risen l 0 (rs ++ r ∷ []) ≡ rs ++ r ∷ [] = risen-all l 0 first (rs ++ r ∷ []) v in
        let held : Holds counts (plan_counts l rs) = rw all at kept.counts-are in
        record {
          unnamed-is = named;
          misshown-is = shown;
          fallen-is = rw f v;
          last-is = rw (e, last-next, k) cut;
          counts-are = rw (e, counts-next l first c rs r rises (omega (arith, last)) (sym cut) m, q) (held-set (c - 1) n (omega (arith, counts-length l rs)) held);
        }

-- no line yet: what is kept of none, over a buffer of zeros
pub no_lines :
    (l : Listing) (first : ℕ) (p : PlanLines) {counts : List ℕ}
    → length l.cuts ≤ length counts
    → p.unnamed ≡ 0
    → p.misshown ≡ 0
    → p.fallen ≡ 0
    → p.last.0 ≡ 0
    → Holds counts []
    → PlanKept l first [] p counts
unfolding cuts_named plates_shown lowest cuts_rising risen last_cut
no_lines l first p {counts} m u s f k h =
    record {
      unnamed-is = rw u refl;
      misshown-is = rw s refl;
      fallen-is = rw f refl;
      last-is = k;
      counts-are = held-zeros (length l.cuts) (plan_counts l []) (counts_zero l) m h;
    }
