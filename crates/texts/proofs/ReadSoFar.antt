-- What a reader has read: lines of its grammar, the line that has begun, and how it stands where a line was refused.
use Prim.Native.Nat.{ℕ, suc, ◌≤◌, ◌<◌}
use native.Mathlib.Omega.{arith}
use mathlib.Core.Path.{◌≡◌, refl, sym, ap, ◌∙◌, subst}
use mathlib.Core.Logic.{inl}
use mathlib.Core.Bool.{Bool, true, false}
use mathlib.Core.List.{List, [], ◌∷◌, ◌++◌, append_assoc, append-nil}
use mathlib.Core.Option.{Option, none, some}
use lib.Dec.{ltb, eqb}
use lib.ListN.{length, length-append}
use borrow.Author.Tests.{ltb-true, ltb-false, eqb-true, eqb-false}
use Rattle.job.specs.Verdict.{Verdict, pass, refuse}
use Rattle.job.proofs.Verdicts.{pass-not-refuse}
use Rattle.columns.specs.Line.{line_of, read_line}
use Rattle.columns.proofs.ReadLaws.{written_read, Inner, inner-append}
use Rattle.texts.specs.Shape.{numbers_row, line_row}
use Rattle.texts.specs.Reader.{Grammar, Reader, max_lines, longest_line, started, refused_as, line_read, byte_read, fed}
use Rattle.texts.specs.Admitted.{Admitted, Runs}
use Rattle.texts.proofs.Lists.{bytes_of, bytes-more}
use Rattle.texts.proofs.ShapeLaws.{OfLineRow, row-admitted, row-refuses}
use Rattle.texts.proofs.ReaderLaws.{standing, Open, holding, byte-refused, byte-over, byte-end, byte-kept, byte-long}
use Rattle.texts.proofs.Running.{runs_append}

module _ {S : Type 0} (g : Grammar S) where
  -- how a reader stands, whatever it was fed
  pub record Sound (r : Reader S) : Type 0 where
    -- at most 99,999 lines
    pub few : r.lines ≤ max_lines
    -- a line has begun only where the text is not refused and may go on
    pub begun : 0 < length r.pending → Open g r
    -- the line that has begun is at most 90 bytes, none of them 10
    pub short : length r.pending < longest_line
    pub inner : Inner r.pending
    -- a refusal of the line row is 1, 2 or 19, and names the line after those admitted
    pub named : (n p : ℕ) → r.verdict ≡ refuse n p → OfLineRow n × (p ≡ suc r.lines)

  -- what has been read of bs: the numbers of the lines admitted, which run from the start to where the text stands, and the bytes after them
  pub record Read (r : Reader S) (bs : List ℕ) : Type 0 where
    pub rows : List (List ℕ)
    pub rest : List ℕ
    pub bytes : bs ≡ bytes_of rows ++ rest
    pub count : r.lines ≡ length rows
    pub runs : Runs g g.start rows r.state
    -- of a text that is not refused these bytes are the line that has begun
    pub left : r.verdict ≡ pass → rest ≡ r.pending

  -- where no line has begun
  standing-sound : (t : S) (n : ℕ) → n ≤ max_lines → Sound (standing g t n)
  standing-sound t n h =
      record {
        few = h;
        begun = λ e. absurd (omega arith);
        short = omega arith;
        inner = tt;
        named = λ m p e. absurd (pass-not-refuse refl e);
      }

  -- where nothing has been read
  started-read : Read (started g) []
  unfolding mathlib.Core.List.flat_map
  started-read = record { rows = []; rest = []; bytes = refl; count = refl; runs = refl; left = λ h. refl }

  -- where a line was refused
  refused-sound : (r : Reader S) (n : ℕ) → OfLineRow n → Sound r → Sound (refused_as g r (refuse n (suc r.lines)))
  refused-sound r n h s =
      record {
        few = s.few;
        begun = λ h. absurd (omega arith);
        short = omega arith;
        inner = tt;
        named = λ m p e. let a : n ≡ m = cc in let b : p ≡ suc r.lines = cc in (subst OfLineRow a h, b);
      }

  -- one byte more, which ends no line
  byte_more : (bs : List ℕ) (b : ℕ) (r : Reader S) (d : Read r bs) → bs ++ (b ∷ []) ≡ bytes_of d.rows ++ (d.rest ++ (b ∷ []))
  byte_more bs b r d = ap (λ (l : List ℕ). l ++ (b ∷ [])) d.bytes ∙ append_assoc (bytes_of d.rows) d.rest (b ∷ [])

  -- so what has been read goes on where the text stands as before
  read-on :
      (r q : Reader S) (bs : List ℕ) (b : ℕ) (d : Read r bs)
      → r.state ≡ q.state
      → r.lines ≡ q.lines
      → (q.verdict ≡ pass → d.rest ++ (b ∷ []) ≡ q.pending)
      → Read q (bs ++ (b ∷ []))
  read-on r q bs b d s l h =
      record {
        rows = d.rows;
        rest = d.rest ++ (b ∷ []);
        bytes = byte_more bs b r d;
        count = sym l ∙ d.count;
        runs = subst (Runs g g.start d.rows) s d.runs;
        left = h;
      }

  -- ---- a line that is whole

  -- what a whole line makes of a text, in one place: it goes on, or it is refused with 1, 2 or 19
  line-cases :
      (P : Reader S → Type 0) (r : Reader S) (o : Option (List ℕ))
      → ((n : ℕ) → OfLineRow n → P (refused_as g r (refuse n (suc r.lines))))
      → ((ns : List ℕ) → o ≡ some ns → Admitted (g.admits r.state) ns → P (standing g (g.after r.state ns) (suc r.lines)))
      → P (line_read g r o)
  unfolding line_read line_row
  line-cases P r none stops goes = stops 1 (inl refl)
  line-cases P r (some ns) stops goes = go (numbers_row (suc r.lines) (g.admits r.state) ns) refl
    where
      go :
          (v : Verdict)
          → numbers_row (suc r.lines) (g.admits r.state) ns ≡ v
          → P (elim v [ pass ↦ standing g (g.after r.state ns) (suc r.lines) | refuse number line ↦ refused_as g r (refuse number line) ])
      go pass e = goes ns refl (row-admitted (suc r.lines) (g.admits r.state) ns e)
      go (refuse n p) e =
          let w = row-refuses (suc r.lines) (g.admits r.state) ns n p e in
          rw w.1 (stops n w.0)

  -- ---- one byte

  -- what a byte makes of a text, in one place
  byte-cases :
      (P : Reader S → Type 0) (r : Reader S) (b : ℕ)
      → ((n p : ℕ) → r.verdict ≡ refuse n p → P r)
      → ((n : ℕ) → OfLineRow n → P (refused_as g r (refuse n (suc r.lines))))
      → (Open g r → (b ≡ 10 → ⊥) → suc (length r.pending) < longest_line → P (holding g r (r.pending ++ (b ∷ []))))
      → (Open g r
      → b ≡ 10
      → (ns : List ℕ)
      → read_line (r.pending ++ (10 ∷ [])) ≡ some ns
      → Admitted (g.admits r.state) ns
      → P (standing g (g.after r.state ns) (suc r.lines)))
      → P (byte_read g r b)
  byte-cases P r b was stops kept ended = go r.verdict refl
    where
      open-cases : Open g r → P (byte_read g r b)
      open-cases o = at (eqb b 10) refl
        where
          at : (t : Bool) → eqb b 10 ≡ t → P (byte_read g r b)
          at true e =
              let q : b ≡ 10 = eqb-true b 10 e in
              rw (q, byte-end g r o) (line-cases P r (read_line (r.pending ++ (10 ∷ []))) stops (ended o q))
          at false e = long (ltb (suc (length r.pending)) longest_line) refl
            where
              q : b ≡ 10 → ⊥
              q = eqb-false b 10 e

              long : (t : Bool) → ltb (suc (length r.pending)) longest_line ≡ t → P (byte_read g r b)
              long true f =
                  let l : suc (length r.pending) < longest_line = ltb-true (suc (length r.pending)) longest_line f in
                  rw (byte-kept g r b o q l) (kept o q l)
              long false f = rw (byte-long g r b o q (ltb-false (suc (length r.pending)) longest_line f)) (stops 1 (inl refl))

      go : (v : Verdict) → r.verdict ≡ v → P (byte_read g r b)
      go (refuse n p) e = rw (byte-refused g r b n p e) (was n p e)
      go pass e = few (ltb r.lines max_lines) refl
        where
          few : (t : Bool) → ltb r.lines max_lines ≡ t → P (byte_read g r b)
          few true f = open-cases (record { passed = e; few = ltb-true r.lines max_lines f })
          few false f = rw (byte-over g r b e (ltb-false r.lines max_lines f)) (stops 1 (inl refl))

  -- a reader stays sound, and what it has read goes on
  byte-sound : (r : Reader S) (b : ℕ) → Sound r → Sound (byte_read g r b)
  byte-sound r b s =
      byte-cases Sound r b
      (λ n p e. s)
      (λ n h. refused-sound r n h s)
      (λ o q l.
      let k : length (r.pending ++ (b ∷ [])) ≡ suc (length r.pending) = length-append r.pending (b ∷ []) ∙ omega arith in
      record {
        few = s.few;
        begun = λ h. record { passed = refl; few = o.few };
        short = omega arith;
        inner = inner-append r.pending (b ∷ []) s.inner (q, tt);
        named = λ n p h. absurd (pass-not-refuse refl h);
      })
      (λ o q ns e a. standing-sound (g.after r.state ns) (suc r.lines) o.few)

  byte-read : (r : Reader S) (bs : List ℕ) (b : ℕ) → Read r bs → Read (byte_read g r b) (bs ++ (b ∷ []))
  byte-read r bs b d =
      byte-cases (λ q. Read q (bs ++ (b ∷ []))) r b
      (λ n p e. read-on r r bs b d refl refl (λ h. absurd (pass-not-refuse h e)))
      (λ n h. read-on r (refused_as g r (refuse n (suc r.lines))) bs b d refl refl (λ h. absurd (pass-not-refuse h refl)))
      (λ o q l. read-on r (holding g r (r.pending ++ (b ∷ []))) bs b d refl refl (λ h. begun o))
      (λ o q ns e a.
      let w = written_read (r.pending ++ (10 ∷ [])) ns e in
      let line : d.rest ++ (b ∷ []) ≡ line_of ns = begun o ∙ ap (λ (k : ℕ). r.pending ++ (k ∷ [])) q ∙ w.0 in
      let more = bytes-more d.rows ns ∙ ap (λ (l : List ℕ). bytes_of d.rows ++ l) (sym line) in
      record {
        rows = d.rows ++ (ns ∷ []);
        rest = [];
        bytes = byte_more bs b r d ∙ sym more ∙ sym (append-nil (bytes_of (d.rows ++ (ns ∷ []))));
        count = rw (length-append d.rows (ns ∷ [])) (omega (arith, d.count));
        runs = runs_append g g.start r.state (g.after r.state ns) d.rows (ns ∷ []) d.runs (a, w.1, refl);
        left = λ h. refl;
      })
    where
      begun : Open g r → d.rest ++ (b ∷ []) ≡ r.pending ++ (b ∷ [])
      begun o = ap (λ (l : List ℕ). l ++ (b ∷ [])) (d.left o.passed)

  -- ---- a part of a text

  -- a reader stays sound
  pub fed-sound : (r : Reader S) (bs : List ℕ) → Sound r → Sound (fed g r bs)
  unfolding fed
  fed-sound r [] s = s
  fed-sound r (b ∷ bs) s = fed-sound (byte_read g r b) bs (byte-sound r b s)

  -- and what it has read goes on
  pub fed-read : (r : Reader S) (as' bs : List ℕ) → Read r as' → Read (fed g r bs) (as' ++ bs)
  unfolding fed
  fed-read r as' [] d = rw (append-nil as') d
  fed-read r as' (b ∷ bs) d =
      rw append_assoc at (fed-read (byte_read g r b) (as' ++ (b ∷ [])) bs (byte-read r as' b d))

  -- every text from its start
  pub sound : (bs : List ℕ) → Sound (fed g (started g) bs)
  sound bs = fed-sound (started g) bs (standing-sound g.start 0 (omega arith))

  -- and the lines that it has read
  pub read : (bs : List ℕ) → Read (fed g (started g) bs) bs
  read bs = fed-read (started g) [] bs started-read
