-- A long text is decided by its beginning: once refused it stays so, and a line too long for its place is refused however it ends.
use Prim.Native.Nat.{ℕ, suc, ◌+◌, ◌*◌, ◌≤◌, ◌<◌}
use native.Mathlib.Omega.{arith}
use mathlib.Core.Path.{◌≡◌, refl, sym, ap, ◌∙◌, subst}
use mathlib.Core.Logic.{◌⊎◌, inl, inr}
use mathlib.Core.Bool.{Bool, true, false}
use mathlib.Core.List.{List, [], ◌∷◌, ◌++◌}
use mathlib.Core.Option.{Option, none, some}
use lib.Dec.{leb, ltb, eqb}
use lib.ListN.{length, take, drop, length-append, take-append-drop}
use lib.Seq.{length-take-le, take_all, take-take}
use borrow.Author.Tests.{ltb-true, ltb-false, leb-true, leb-false, eqb-true, eqb-false}
use Rattle.job.specs.Verdict.{Verdict, pass, refuse, ◌then◌}
use Rattle.columns.specs.Widths.{group_bytes, line_bytes}
use Rattle.columns.specs.Line.{read_line}
use Rattle.columns.proofs.LineLaws.{length-line}
use Rattle.columns.proofs.ReadLaws.{written_read}
use Rattle.texts.specs.Shape.{Shape, line_row}
use Rattle.texts.specs.Reader.{Grammar, Reader, max_lines, longest_line, started, refused_as, line_read, byte_read, fed, text_row, written}
use Rattle.texts.specs.Admitted.{Runs}
use Rattle.texts.proofs.Lists.{bytes_of}
use Rattle.texts.proofs.ShapeLaws.{groups_of, Shorter, row-too-long}
use Rattle.texts.proofs.ReaderLaws.{Open, holding, fed-append, fed-refused, byte-end, byte-kept, byte-long}
use Rattle.texts.proofs.ReadSoFar.{Read, sound, read}
use Rattle.texts.proofs.WholeTexts.{row-text, row-refused, row-begun, fed-over}

-- p bytes are more than any of the shapes has before its byte 10
abbrev pub Longer : ℕ → List Shape → Type 0
Longer p [] = Unit {0}
Longer p (s ∷ ss) = (group_bytes * groups_of s < p) × Longer p ss

-- then p bytes in groups of nine are more groups than any of them has
longer-shorter : (p k : ℕ) (ss : List Shape) → p ≡ group_bytes * k → Longer p ss → Shorter k ss
longer-shorter p k [] e h = tt
longer-shorter p k (s ∷ ss) e h = (omega arith, longer-shorter p k ss e h.1)

-- and so are more bytes
longer-more : (p : ℕ) (ss : List Shape) → Longer p ss → Longer (suc p) ss
longer-more p [] h = tt
longer-more p (s ∷ ss) h = (omega arith, longer-more p ss h.1)

module _ {S : Type 0} (g : Grammar S) where
  -- the answer to a text, where f are the rows after the line row and h what is written of a text that passes them
  abbrev pub answer_to : (S → Verdict) → (S → List ℕ) → Reader S → List ℕ
  answer_to f h r = written (text_row g r then f r.state) (h r.state)

  -- 99,999 lines and one byte more decide the text
  pub lines-prefix :
      (as' bs : List ℕ)
      → (fed g (started g) as').verdict ≡ pass
      → (fed g (started g) as').lines ≡ max_lines
      → 0 < length bs
      → (fed g (started g) (as' ++ bs)).verdict ≡ refuse 1 100000
  lines-prefix as' bs v l h =
      let e = fed-append g (started g) as' bs ∙ fed-over g (fed g (started g) as') bs v (omega arith) h in
      ap (λ (r : Reader S). r.verdict) e ∙ ap (λ (k : ℕ). refuse 1 (suc k)) l

  -- ---- a line that is too long for its place

  -- a whole line of more groups than any admitted one is 1
  line-too-long :
      (r : Reader S) (o : Option (List ℕ))
      → ((ns : List ℕ) → o ≡ some ns → Shorter (length ns) (g.admits r.state))
      → line_read g r o ≡ refused_as g r (refuse 1 (suc r.lines))
  unfolding line_read line_row
  line-too-long r none h = refl
  line-too-long r (some ns) h = rw (row-too-long (suc r.lines) (g.admits r.state) ns (h ns refl), line_read)

  -- so is a line that ends after too many bytes
  ends-too-long :
      (r : Reader S)
      → Longer (length r.pending) (g.admits r.state)
      → line_read g r (read_line (r.pending ++ (10 ∷ []))) ≡ refused_as g r (refuse 1 (suc r.lines))
  ends-too-long r h =
      line-too-long r (read_line (r.pending ++ (10 ∷ [])))
      (λ ns e.
      let w = written_read (r.pending ++ (10 ∷ [])) ns e in
      let k : length r.pending + 1 ≡ line_bytes (length ns) = sym (length-append r.pending (10 ∷ [])) ∙ ap length w.0 ∙ length-line ns in
      longer-shorter (length r.pending) (length ns) (g.admits r.state) (omega arith) h)

  -- however it goes on, the line is 1
  pub too_long :
      (bs : List ℕ) (r : Reader S)
      → Open g r
      → 0 < length r.pending
      → Longer (length r.pending) (g.admits r.state)
      → text_row g (fed g r bs) ≡ refuse 1 (suc r.lines)
  unfolding fed
  too_long [] r o p h = row-begun g r o.passed p
  too_long (b ∷ bs) r o p h = go (eqb b 10) refl (too_long bs)
    where
      ends : (r' : Reader S) → r' ≡ refused_as g r (refuse 1 (suc r.lines)) → text_row g (fed g r' bs) ≡ refuse 1 (suc r.lines)
      ends r' e =
          rw (e, fed-refused g (refused_as g r (refuse 1 (suc r.lines))) bs 1 (suc r.lines) refl)
          (row-refused g (refused_as g r (refuse 1 (suc r.lines))) 1 (suc r.lines) refl)

      go :
          (t : Bool)
          → eqb b 10 ≡ t
          → ((r' : Reader S)
          → Open g r'
          → 0 < length r'.pending
          → Longer (length r'.pending) (g.admits r'.state)
          → text_row g (fed g r' bs) ≡ refuse 1 (suc r'.lines))
          → text_row g (fed g (byte_read g r b) bs) ≡ refuse 1 (suc r.lines)
      go true e ih = ends (byte_read g r b) (ap (byte_read g r) (eqb-true b 10 e) ∙ byte-end g r o ∙ ends-too-long r h)
      go false e ih = long (ltb (suc (length r.pending)) longest_line) refl
        where
          q : b ≡ 10 → ⊥
          q = eqb-false b 10 e

          one : length (r.pending ++ (b ∷ [])) ≡ suc (length r.pending)
          one = length-append r.pending (b ∷ []) ∙ omega arith

          long : (t : Bool) → ltb (suc (length r.pending)) longest_line ≡ t → text_row g (fed g (byte_read g r b) bs) ≡ refuse 1 (suc r.lines)
          long true f =
              rw (byte-kept g r b o q (ltb-true (suc (length r.pending)) longest_line f))
              (ih (holding g r (r.pending ++ (b ∷ [])))
              (record { passed = refl; few = o.few })
              (rw one (omega arith))
              (rw one (longer-more (length r.pending) (g.admits r.state) h)))
          long false f = ends (byte_read g r b) (byte-long g r b o q (ltb-false (suc (length r.pending)) longest_line f))

  -- ---- the first N bytes

  -- two readers answer alike, whatever follows the line row: they are one, or the line row refuses both in the same way
  abbrev Alike : Reader S → Reader S → Type 0
  Alike r q = (r ≡ q) ⊎ ((n : ℕ) × (p : ℕ) × (text_row g r ≡ refuse n p) × (text_row g q ≡ refuse n p))

  -- then their answers are one
  alike-answers : (r q : Reader S) → Alike r q → (f : S → Verdict) (h : S → List ℕ) → answer_to f h r ≡ answer_to f h q
  unfolding written
  alike-answers r q (inl e) f h = ap (answer_to f h) e
  alike-answers r q (inr a) f h = rw (a.2, a.3)

  -- N bytes are more than the admitted lines of any text, and where they end within a line it is too long
  pub record Enough (N : ℕ) : Type 0 where
    pub full : (rows : List (List ℕ)) (s : S) → Runs g g.start rows s → length rows ≤ max_lines → length (bytes_of rows) < N
    pub long :
        (rows : List (List ℕ)) (s : S) (p : ℕ)
        → Runs g g.start rows s
        → length rows < max_lines
        → length (bytes_of rows) + p ≡ N
        → p < longest_line
        → Longer p (g.admits s)

  -- then a text that passes is shorter
  pub text-bytes : (N : ℕ) → Enough N → (bs : List ℕ) → text_row g (fed g (started g) bs) ≡ pass → length bs < N
  text-bytes N e bs h =
      let t = row-text g bs h in
      subst (λ (l : List ℕ). length l < N) (sym t.bytes) (e.full t.lines (fed g (started g) bs).state t.runs t.few)

  -- and they decide any text
  prefix : (N : ℕ) → Enough N → (bs : List ℕ) → Alike (fed g (started g) (take N bs)) (fed g (started g) bs)
  prefix N e bs = go (leb (length bs) N) refl
    where
      go : (t : Bool) → leb (length bs) N ≡ t → Alike (fed g (started g) (take N bs)) (fed g (started g) bs)
      go true t = inl (ap (fed g (started g)) (take_all N bs (leb-true (length bs) N t)))
      go false t = stop r.verdict refl
        where
          r : Reader S
          r = fed g (started g) (take N bs)

          size : length (take N bs) ≡ N
          size = let l = leb-false (length bs) N t in length-take-le N bs (omega arith)

          whole : fed g (started g) bs ≡ fed g r (drop N bs)
          whole = ap (fed g (started g)) (sym (take-append-drop N bs)) ∙ fed-append g (started g) (take N bs) (drop N bs)

          d : Read g r (take N bs)
          d = read g (take N bs)

          stop : (v : Verdict) → r.verdict ≡ v → Alike r (fed g (started g) bs)
          stop (refuse n p) v = inl (sym (whole ∙ fed-refused g r (drop N bs) n p v))
          stop pass v = begun (ltb 0 (length r.pending)) refl
            where
              bytes : length (bytes_of d.rows) + length r.pending ≡ N
              bytes =
                  sym (length-append (bytes_of d.rows) r.pending)
                  ∙ ap (λ (l : List ℕ). length (bytes_of d.rows ++ l)) (sym (d.left v))
                  ∙ sym (ap length d.bytes)
                  ∙ size

              begun : (b : Bool) → ltb 0 (length r.pending) ≡ b → Alike r (fed g (started g) bs)
              begun true b =
                  let p = ltb-true 0 (length r.pending) b in
                  let s = sound g (take N bs) in
                  let o = s.begun p in
                  let few : length d.rows < max_lines = rw d.count at o.few in
                  let h = e.long d.rows r.state (length r.pending) d.runs few bytes (omega (arith, s.short)) in
                  inr (1, suc r.lines, row-begun g r v p, ap (text_row g) whole ∙ too_long (drop N bs) r o p h)
              begun false b =
                  let p = ltb-false 0 (length r.pending) b in
                  let few : length d.rows ≤ max_lines = rw d.count at (sound g (take N bs)).few in
                  absurd (omega (arith, bytes, e.full d.rows r.state d.runs few))

  -- as do any more
  pub decided :
      (N n : ℕ) (bs : List ℕ)
      → Enough N
      → N ≤ n
      → (f : S → Verdict) (h : S → List ℕ)
      → answer_to f h (fed g (started g) (take n bs)) ≡ answer_to f h (fed g (started g) bs)
  decided N n bs e l f h =
      sym (first (take n bs)) ∙ ap (λ (cs : List ℕ). answer_to f h (fed g (started g) cs)) (take-take N n bs l) ∙ first bs
    where
      first : (cs : List ℕ) → answer_to f h (fed g (started g) (take N cs)) ≡ answer_to f h (fed g (started g) cs)
      first cs = alike-answers (fed g (started g) (take N cs)) (fed g (started g) cs) (prefix N e cs) f h
