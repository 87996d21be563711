-- Lines that run, one admitted after another: what each of them keeps holds at the end, and written they bring the reader as far.
use Prim.Native.Nat.{ℕ, suc, ◌+◌, ◌≤◌, ◌<◌}
use native.Mathlib.Omega.{arith}
use mathlib.Core.Path.{◌≡◌, refl, ap, ◌∙◌, subst}
use mathlib.Core.Logic.{inl, inr}
use mathlib.Core.List.{List, [], ◌∷◌, ◌++◌, flat_map, append_assoc, append-nil}
use mathlib.Core.Option.{some}
use lib.ListN.{length}
use Rattle.job.specs.Verdict.{pass}
use Rattle.columns.specs.Widths.{most_numbers}
use Rattle.columns.specs.Line.{line_of}
use Rattle.texts.specs.Shape.{Shape, line_row}
use Rattle.texts.specs.Reader.{Grammar, Reader, max_lines, line_read, fed}
use Rattle.texts.specs.Admitted.{Admitted, Runs}
use Rattle.texts.proofs.Lists.{bytes_of}
use Rattle.texts.proofs.ShapeLaws.{Kinds, Shorter, admitted-row, shape-groups}
use Rattle.texts.proofs.ReaderLaws.{standing, Open, fed-append, fed-written}

-- the shapes of a grammar: each kind stands once among those admitted, and no line has more than ten numbers
pub record Plain {S : Type 0} (g : Grammar S) : Type 0 where
  pub kinds : (s : S) → Kinds (g.admits s)
  pub short : (s : S) → Shorter (suc most_numbers) (g.admits s)

module _ {S : Type 0} (g : Grammar S) where
  -- lines that run, and then others from where they bring the text
  pub runs_append : (s t u : S) (as' bs : List (List ℕ)) → Runs g s as' t → Runs g t bs u → Runs g s (as' ++ bs) u
  runs_append s t u [] bs p q = rw p q
  runs_append s t u (ns ∷ as') bs p q = (p.0, p.1, runs_append (g.after s ns) t u as' bs p.2 q)

  -- what holds at s and is kept by every admitted line holds wherever lines bring the text; `done` are the lines before s
  pub runs-keep :
      (P : List (List ℕ) → S → Type 0)
      → ((done : List (List ℕ)) (s : S) (ns : List ℕ) → P done s → Admitted (g.admits s) ns → P (done ++ (ns ∷ [])) (g.after s ns))
      → (done : List (List ℕ)) (s t : S) (nss : List (List ℕ)) → P done s → Runs g s nss t → P (done ++ nss) t
  runs-keep P step done s t [] h r = subst (P (done ++ [])) r (rw append-nil h)
  runs-keep P step done s t (ns ∷ nss) h r =
      rw append_assoc at (runs-keep P step (done ++ (ns ∷ [])) (g.after s ns) t nss (step done s ns h r.0) r.2)

  -- ---- from lines to the reader

  -- an admitted line goes on with the text
  pub line_read_lem :
      Plain g
      → (r : Reader S) (ns : List ℕ)
      → Admitted (g.admits r.state) ns
      → line_read g r (some ns) ≡ standing g (g.after r.state ns) (suc r.lines)
  unfolding line_read line_row
  line_read_lem p r ns a = rw (admitted-row (suc r.lines) (g.admits r.state) ns (p.kinds r.state) a, line_read)

  -- the numbers of an admitted line are as few as those of its shape
  admitted-short : (ss : List Shape) (ns : List ℕ) (k : ℕ) → Shorter k ss → Admitted ss ns → length ns < k
  admitted-short [] ns k h a = absurd a
  admitted-short (s ∷ ss) ns k h (inl o) = omega (arith, shape-groups s ns o)
  admitted-short (s ∷ ss) ns k h (inr a) = admitted-short ss ns k h.1 a

  -- lines that run, written, bring the reader as far
  pub runs-read :
      Plain g
      → (nss : List (List ℕ)) (r : Reader S) (t : S)
      → r.verdict ≡ pass
      → r.pending ≡ []
      → Runs g r.state nss t
      → r.lines + length nss ≤ max_lines
      → fed g r (bytes_of nss) ≡ standing g t (r.lines + length nss)
  unfolding flat_map fed
  runs-read p [] r t v e runs l = λ i. record { state = runs i; lines = n i; pending = e i; verdict = v i }
    where
      n : r.lines ≡ r.lines + length {A = List ℕ} []
      n = omega arith
  runs-read p (ns ∷ nss) r t v e runs l =
      let r' : Reader S = standing g (g.after r.state ns) (suc r.lines) in
      let k = admitted-short (g.admits r.state) ns (suc most_numbers) (p.short r.state) runs.0 in
      let o : Open g r = record { passed = v; few = omega arith } in
      let h : fed g r (line_of ns) ≡ r' = fed-written g r ns o e runs.1 (omega arith) ∙ line_read_lem p r ns runs.0 in
      let n : suc r.lines + length nss ≡ r.lines + suc (length nss) = omega arith in
      fed-append g r (line_of ns) (bytes_of nss)
      ∙ ap (λ (q : Reader S). fed g q (bytes_of nss)) h
      ∙ runs-read p nss r' t refl refl runs.2 (omega arith)
      ∙ ap (standing g t) n
