-- Whole texts, both ways: a text passes the line row just where it is lines of its grammar; and no byte comes after the 99,999th line.
use Prim.Native.Nat.{ℕ, suc, ◌+◌, ◌≤◌, ◌<◌}
use native.Mathlib.Omega.{arith}
use mathlib.Core.Path.{◌≡◌, refl, ap, ◌∙◌, subst}
use mathlib.Core.Bool.{true, false}
use mathlib.Core.List.{List, [], ◌∷◌, ◌++◌, append-nil}
use lib.ListN.{length}
use Rattle.job.specs.Lists.{non_empty}
use Rattle.job.specs.Verdict.{pass, refuse, refuse_if}
use Rattle.job.proofs.Verdicts.{pass-not-refuse}
use Rattle.job.proofs.CodeEnds.{then-pass}
use Rattle.texts.specs.Reader.{Grammar, Reader, max_lines, started, refused_as, fed, text_row}
use Rattle.texts.specs.Admitted.{Runs, Text}
use Rattle.texts.specs.Held.{BothWays}
use Rattle.texts.proofs.Basics.{unless-passed}
use Rattle.texts.proofs.Lists.{bytes_of}
use Rattle.texts.proofs.ReaderLaws.{standing, fed-refused, byte-over}
use Rattle.texts.proofs.Running.{Plain, runs-read}
use Rattle.texts.proofs.ReadSoFar.{sound, read}

module _ {S : Type 0} (g : Grammar S) where
  -- where a text passes, no line is refused, none has begun, and it may end where it stands
  pub row-passed : (r : Reader S) → text_row g r ≡ pass → (r.verdict ≡ pass) × (r.pending ≡ []) × (g.complete r.state ≡ true)
  unfolding text_row
  row-passed r h =
      let a = then-pass r.verdict _ h in
      let b = then-pass (refuse_if (non_empty r.pending) 1 (suc r.lines)) _ a.1 in
      (a.0, empty r.pending b.0, unless-passed (g.complete r.state) _ _ b.1)
    where
      empty : (bs : List ℕ) → refuse_if (non_empty bs) 1 (suc r.lines) ≡ pass → bs ≡ []
      empty [] h = refl
      empty (b ∷ bs) h = absurd (pass-not-refuse h refl)

  -- where it does not: the first line refused; else 1 for a last line without byte 10; else 1 for the missing line, one past the last
  pub row-refused : (r : Reader S) (n p : ℕ) → r.verdict ≡ refuse n p → text_row g r ≡ refuse n p
  unfolding text_row
  row-refused r n p h = rw h

  pub row-begun : (r : Reader S) → r.verdict ≡ pass → 0 < length r.pending → text_row g r ≡ refuse 1 (suc r.lines)
  unfolding text_row
  row-begun r v h = rw (v, begun r.pending h)
    where
      begun : (bs : List ℕ) → 0 < length bs → non_empty bs ≡ true
      begun [] h = absurd (omega arith)
      begun (b ∷ bs) h = refl

  pub row-missing :
      (r : Reader S)
      → r.verdict ≡ pass
      → r.pending ≡ []
      → g.complete r.state ≡ false
      → text_row g r ≡ refuse 1 (suc r.lines)
  unfolding text_row
  row-missing r v e c = rw (v, e, c)

  -- a text that passes is a text of the grammar, and the reader stands where it brings it
  pub row-text : (bs : List ℕ) → text_row g (fed g (started g) bs) ≡ pass → Text g bs (fed g (started g) bs).state
  row-text bs h =
      let p = row-passed (fed g (started g) bs) h in
      let d = read g bs in
      record {
        lines = d.rows;
        bytes = d.bytes ∙ ap (λ (l : List ℕ). bytes_of d.rows ++ l) (d.left p.0 ∙ p.1) ∙ append-nil (bytes_of d.rows);
        few = omega (arith, d.count, (sound g bs).few);
        runs = d.runs;
        whole = p.2;
      }

  -- where the lines of a text of the grammar bring the reader
  pub text-read :
      Plain g
      → (bs : List ℕ) (s : S) (t : Text g bs s)
      → fed g (started g) bs ≡ standing g s (length t.lines)
  text-read p bs s t =
      let n : 0 + length t.lines ≡ length t.lines = omega arith in
      ap (fed g (started g)) t.bytes
      ∙ runs-read g p t.lines (started g) s refl refl t.runs (omega (arith, t.few))
      ∙ ap (standing g s) n

  -- a text of the grammar passes
  pub text-row : Plain g → (bs : List ℕ) (s : S) → Text g bs s → text_row g (fed g (started g) bs) ≡ pass
  unfolding text_row
  text-row p bs s t = rw (text-read p bs s t, t.whole)

  -- both ways at once, from what lines bring a text to and back
  pub both_ways :
      Plain g
      → (Held : S → Type 0) (rows : S → List (List ℕ))
      → ((nss : List (List ℕ)) (s : S) → Runs g g.start nss s → g.complete s ≡ true → Held s × (nss ≡ rows s))
      → ((s : S) → Held s → Runs g g.start (rows s) s × (g.complete s ≡ true))
      → BothWays g Held rows
  both_ways p Held rows back forth =
      record {
        read = λ bs h.
            let t = row-text bs h in
            let b = back t.lines (fed g (started g) bs).state t.runs t.whole in
            (b.0, t.bytes ∙ ap bytes_of b.1, subst (λ (nss : List (List ℕ)). length nss ≤ max_lines) b.1 t.few);
        written = λ s h l.
            let t : Text g (bytes_of (rows s)) s = record { lines = rows s; bytes = refl; few = l; runs = (forth s h).0; whole = (forth s h).1 } in
            (text-read p (bytes_of (rows s)) s t, text-row p (bytes_of (rows s)) s t);
      }

  -- any byte after the 99,999th line
  pub fed-over :
      (r : Reader S) (bs : List ℕ)
      → r.verdict ≡ pass
      → max_lines ≤ r.lines
      → 0 < length bs
      → fed g r bs ≡ refused_as g r (refuse 1 (suc r.lines))
  unfolding fed
  fed-over r [] v l h = absurd (omega arith)
  fed-over r (b ∷ bs) v l h = rw (byte-over g r b v l) (fed-refused g (refused_as g r (refuse 1 (suc r.lines))) bs 1 (suc r.lines) refl)
