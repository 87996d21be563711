-- A text read in parts: one part after another is the whole, a refused text stays as it is, and a whole line is read at once.
use Prim.Native.Nat.{ℕ, suc, ◌+◌, ◌≤◌, ◌<◌}
use native.Mathlib.Omega.{arith}
use mathlib.Core.Path.{◌≡◌, refl, sym, ap, ◌∙◌}
use mathlib.Core.Bool.{Bool, true, false}
use mathlib.Core.List.{List, [], ◌∷◌, ◌++◌, append_assoc, append-nil}
use mathlib.Core.Option.{Option, none, some}
use lib.Dec.{ltb}
use lib.ListN.{length, length-append}
use borrow.Author.Tests.{ne_eqb, lt-ltb, le-ltb, ltb-true, ltb-false}
use Rattle.job.specs.Verdict.{pass, refuse}
use Rattle.columns.specs.Widths.{most_numbers}
use Rattle.columns.specs.Line.{groups, line_of, Fit, read_line}
use Rattle.columns.proofs.LineLaws.{length-groups}
use Rattle.columns.proofs.ReadLaws.{read-written, Inner, inner-groups}
use Rattle.texts.specs.Reader.{Grammar, Reader, max_lines, longest_line, refused_as, line_read, byte_taken, byte_read, fed}

module _ {S : Type 0} (g : Grammar S) where
  -- the reader after n lines that bring the text to t, no further line begun
  abbrev pub standing : S → ℕ → Reader S
  standing t n = record { state = t; lines = n; pending = []; verdict = pass }

  -- the reader with another line that has begun
  abbrev pub holding : Reader S → List ℕ → Reader S
  holding r bs = record { state = r.state; lines = r.lines; pending = bs; verdict = pass }

  -- the text is not refused, and another line may begin or go on
  pub record Open (r : Reader S) : Type 0 where
    pub passed : r.verdict ≡ pass
    pub few : r.lines < max_lines

  -- one part after another is the whole
  pub fed-append : (r : Reader S) (as' bs : List ℕ) → fed g r (as' ++ bs) ≡ fed g (fed g r as') bs
  unfolding fed
  fed-append r [] bs = refl
  fed-append r (a ∷ as') bs = fed-append (byte_read g r a) as' bs

  -- a text that is refused stays as it is
  pub byte-refused : (r : Reader S) (b n p : ℕ) → r.verdict ≡ refuse n p → byte_read g r b ≡ r
  unfolding byte_read
  byte-refused r b n p h = rw (h, byte_read) (λ i. record { state = r.state; lines = r.lines; pending = r.pending; verdict = h i })

  -- whatever it is fed
  pub fed-refused : (r : Reader S) (bs : List ℕ) (n p : ℕ) → r.verdict ≡ refuse n p → fed g r bs ≡ r
  unfolding fed
  fed-refused r [] n p h = refl
  fed-refused r (b ∷ bs) n p h = rw (byte-refused r b n p h) (fed-refused r bs n p h)

  -- any byte after the 99,999th line is 1, line 100,000
  pub byte-over : (r : Reader S) (b : ℕ) → r.verdict ≡ pass → max_lines ≤ r.lines → byte_read g r b ≡ refused_as g r (refuse 1 (suc r.lines))
  unfolding byte_read
  byte-over r b h l = rw (h, byte_read, le-ltb r.lines max_lines l)

  -- a byte of an open text goes to the line that has begun
  byte-open : (r : Reader S) (b : ℕ) → Open r → byte_read g r b ≡ byte_taken g r b (r.pending ++ (b ∷ []))
  unfolding byte_read
  byte-open r b o =
      rw (o.passed, byte_read, lt-ltb r.lines max_lines o.few)
      (λ i. byte_taken g (record { state = r.state; lines = r.lines; pending = r.pending; verdict = o.passed i }) b (r.pending ++ (b ∷ [])))

  -- byte 10 ends the line
  pub byte-end : (r : Reader S) → Open r → byte_read g r 10 ≡ line_read g r (read_line (r.pending ++ (10 ∷ [])))
  unfolding byte_taken
  byte-end r o = byte-open r 10 o

  -- another byte is kept while the line is no longer than every kind
  pub byte-kept :
      (r : Reader S) (b : ℕ)
      → Open r
      → (b ≡ 10 → ⊥)
      → suc (length r.pending) < longest_line
      → byte_read g r b ≡ holding r (r.pending ++ (b ∷ []))
  unfolding byte_taken
  byte-kept r b o n h =
      let e = length-append r.pending (b ∷ []) in
      let l = lt-ltb (length (r.pending ++ (b ∷ []))) longest_line (omega arith) in
      byte-open r b o ∙ rw (ne_eqb b 10 n, byte_taken, l)

  -- and then the line is 1
  pub byte-long :
      (r : Reader S) (b : ℕ)
      → Open r
      → (b ≡ 10 → ⊥)
      → longest_line ≤ suc (length r.pending)
      → byte_read g r b ≡ refused_as g r (refuse 1 (suc r.lines))
  unfolding byte_taken
  byte-long r b o n h =
      let e = length-append r.pending (b ∷ []) in
      let l = le-ltb (length (r.pending ++ (b ∷ []))) longest_line (omega arith) in
      byte-open r b o ∙ rw (ne_eqb b 10 n, byte_taken, l)

  -- what a line makes of a text does not depend on how it began
  line-holding : (r : Reader S) (bs : List ℕ) (o : Option (List ℕ)) → line_read g (holding r bs) o ≡ line_read g r o
  unfolding line_read
  line-holding r bs none = refl
  line-holding r bs (some ns) = refl

  open-holding : (r : Reader S) (bs : List ℕ) → Open r → Open (holding r bs)
  open-holding r bs o = record { passed = refl; few = o.few }

  -- a part of a line is kept
  pub fed-kept : (r : Reader S) (bs : List ℕ) → Open r → Inner bs → length r.pending + length bs < longest_line → fed g r bs ≡ holding r (r.pending ++ bs)
  unfolding fed
  fed-kept r [] o i h = λ m. record { state = r.state; lines = r.lines; pending = sym (append-nil r.pending) m; verdict = o.passed m }
  fed-kept r (b ∷ bs) o i h =
      let r' : Reader S = holding r (r.pending ++ (b ∷ [])) in
      let l : length (r.pending ++ (b ∷ [])) + length bs < longest_line = rw length-append (omega arith) in
      rw (byte-kept r b o i.0 (omega arith))
      (fed-kept r' bs (open-holding r (r.pending ++ (b ∷ [])) o) i.1 l ∙ ap (holding r) (append_assoc r.pending (b ∷ []) bs))

  -- a line of any bytes is read at once, what was pending before it
  pub fed-line :
      (r : Reader S) (bs : List ℕ)
      → Open r
      → Inner bs
      → length r.pending + length bs < longest_line
      → fed g r (bs ++ (10 ∷ [])) ≡ line_read g r (read_line (r.pending ++ bs ++ (10 ∷ [])))
  unfolding fed
  fed-line r bs o i h =
      fed-append r bs (10 ∷ [])
      ∙ rw (fed-kept r bs o i h)
      (byte-end (holding r (r.pending ++ bs)) (open-holding r (r.pending ++ bs) o)
      ∙ line-holding r (r.pending ++ bs) (read_line (r.pending ++ bs ++ (10 ∷ []))))

  -- a line longer than every kind is 1, whatever follows
  pub fed-long :
      (r : Reader S) (bs : List ℕ)
      → Open r
      → Inner bs
      → length r.pending < longest_line
      → longest_line ≤ length r.pending + length bs
      → (cs : List ℕ)
      → fed g r (bs ++ cs) ≡ refused_as g r (refuse 1 (suc r.lines))
  unfolding fed
  fed-long r [] o i l h cs = absurd (omega arith)
  fed-long r (b ∷ bs) o i l h cs = go (ltb (suc (length r.pending)) longest_line) refl (λ r'. fed-long r' bs)
    where
      go :
          (t : Bool)
          → ltb (suc (length r.pending)) longest_line ≡ t
          → ((r' : Reader S)
          → Open r'
          → Inner bs
          → length r'.pending < longest_line
          → longest_line ≤ length r'.pending + length bs
          → (cs : List ℕ)
          → fed g r' (bs ++ cs) ≡ refused_as g r' (refuse 1 (suc r'.lines)))
          → fed g (byte_read g r b) (bs ++ cs) ≡ refused_as g r (refuse 1 (suc r.lines))
      go true e ih =
          let p : suc (length r.pending) < longest_line = ltb-true (suc (length r.pending)) longest_line e in
          let q : length (r.pending ++ (b ∷ [])) ≡ suc (length r.pending) = length-append r.pending (b ∷ []) ∙ omega arith in
          let r' : Reader S = holding r (r.pending ++ (b ∷ [])) in
          rw (byte-kept r b o i.0 p)
          (ih r' (open-holding r (r.pending ++ (b ∷ [])) o) i.1 (omega arith) (omega arith) cs)
      go false e ih =
          let p : longest_line ≤ suc (length r.pending) = ltb-false (suc (length r.pending)) longest_line e in
          rw (byte-long r b o i.0 p) (fed-refused (refused_as g r (refuse 1 (suc r.lines))) (bs ++ cs) 1 (suc r.lines) refl)

  -- the line that is written of at most ten numbers is read at once
  pub fed-written : (r : Reader S) (ns : List ℕ) → Open r → r.pending ≡ [] → Fit ns → length ns ≤ most_numbers → fed g r (line_of ns) ≡ line_read g r (some ns)
  unfolding line_of
  fed-written r ns o e f l =
      let h : length r.pending + length (groups ns) < longest_line = rw (e, length-groups ns) (omega arith) in
      fed-line r (groups ns) o (inner-groups ns) h ∙ ap (line_read g r) (rw e (read-written ns f))
