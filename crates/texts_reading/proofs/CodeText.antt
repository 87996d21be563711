-- What a part makes of a text: the rest of a part in which no line ends, and a line that ends in it, by the definition's reader.
use Prim.Native.Nat.{ℕ, zero, suc, ◌+◌, ◌-◌, ◌≤◌, ◌<◌}
use mathlib.Core.Path.{◌≡◌, refl, sym, ap, ◌∙◌}
use mathlib.Core.Bool.{Bool, true, false, ◌&&◌}
use mathlib.Core.List.{List, [], ◌∷◌, ◌++◌, append_assoc}
use mathlib.Core.Option.{none, some}
use native.Mathlib.Omega.{arith}
use lib.Dec.{eqb, ltb}
use lib.ListN.{length, get_or, take, drop, length-append, length-take, length-drop, take-append-drop}
use lib.Seq.{drop-cons, drop-drop, take_all, take-suc, get_or-take, get_or-drop}
use borrow.Author.Tests.{eqb-true, eq-eqb, ltb-true, ltb-false, lt-ltb}
use Rattle.job.specs.Verdict.{Verdict, pass, refuse}
use Rattle.columns.specs.Line.{read_line}
use Rattle.columns.proofs.ReadLaws.{Inner}
use Rattle.texts.specs.Shape.{Shape, numbers_row, line_row}
use Rattle.texts.specs.Reader.{Grammar, Reader, max_lines, longest_line, refused_as, line_read, fed}
use Rattle.texts.specs.JobLines as definition
use Rattle.texts.proofs.Basics.{and_parts}
use Rattle.texts.proofs.ReaderLaws.{Open, standing, holding, fed-append, fed-refused, byte-over, fed-kept, fed-line, fed-long}
use Rattle.texts_reading.specs.declared.text.Place.{Place}
use Rattle.texts_reading.specs.declared.text.TextReader.{TextReader}
use Rattle.texts_reading.specs.Judged.{line_verdict}
use Rattle.texts_reading.specs.LineEnd.{LineEnd}
use Rattle.texts_reading.specs.Standing.{place_of, TextAt, TextKept, TextReady, line_ends, Rest}

-- ---- whether a line ends

module _ (t : TextReader) (at end size : ℕ) where
  pub ends-size : t.refusal ≡ 0 → t.lines < max_lines → end - at + t.pending.length < longest_line → ltb end size ≡ line_ends t at end size
  unfolding line_ends
  ends-size h l n = rw (eq-eqb t.refusal 0 h, lt-ltb t.lines max_lines l, lt-ltb (end - at + t.pending.length) longest_line n)

  -- what it says where a line ends
  pub record Whole : Type 0 where
    pub goes : t.refusal ≡ 0
    pub few : t.lines < max_lines
    pub short : end - at + t.pending.length < longest_line
    pub inside : end < size

  pub whole : line_ends t at end size ≡ true → Whole
  unfolding line_ends
  whole h =
      let goes_on = eqb t.refusal 0 in
      let few-lines = ltb t.lines max_lines in
      let short-line = ltb (end - at + t.pending.length) longest_line in
      let a = and_parts (goes_on && few-lines && short-line) (ltb end size) h in
      let b = and_parts (goes_on && few-lines) short-line a.0 in
      let d = and_parts goes_on few-lines b.0 in
      record {
        goes = eqb-true t.refusal 0 d.0;
        few = ltb-true t.lines max_lines d.1;
        short = ltb-true (end - at + t.pending.length) longest_line b.1;
        inside = ltb-true end size a.1;
      }

  -- and where none does, though the text goes on
  pub no_line : line_ends t at end size ≡ false → t.refusal ≡ 0 → t.lines < max_lines → end - at + t.pending.length < longest_line → size ≤ end
  no_line h r l n = ltb-false end size (ends-size r l n ∙ h)

-- ---- bytes that are not 10

inner_of : (bs : List ℕ) → ((k : ℕ) → k < length bs → get_or bs k 0 ≡ 10 → ⊥) → Inner bs
inner_of [] h = tt
inner_of (b ∷ bs) h = (h 0 (omega arith), inner_of bs (λ k l. h (suc k) (omega arith)))

module _ (part : List ℕ) (at most end : ℕ) (e : LineEnd part at most end) where
  -- the bytes of the line
  abbrev bytes : List ℕ
  bytes = take (end - at) (drop at part)

  size : length bytes ≡ end - at
  size = let i = e.inside in simp (length-take, length-drop) (omega (arith, e.inside, e.from))

  inner : Inner bytes
  inner =
      inner_of bytes (λ k l q.
      let l' : k < end - at = omega (arith, size) in
      e.inner (at + k) (omega (arith, e.from)) (omega arith) (sym (get_or-take (end - at) (drop at part) k 0 l' ∙ get_or-drop at part k 0) ∙ q))

-- ---- what a part makes of a text

module _ {S : Type 0} (g : Grammar S) (place : S → definition.Place) (r : Reader S) (t : TextReader) (k : TextKept place r t) where
  -- a text that is refused, or not
  refused_as_lem : (n : ℕ) → t.refusal ≡ suc n → r.verdict ≡ refuse (suc n) (suc t.lines)
  refused_as_lem n e = sym k.verdict ∙ ap (λ (m : ℕ). line_verdict m (suc t.lines)) e

  passes : t.refusal ≡ 0 → r.verdict ≡ pass
  passes e = sym k.verdict ∙ ap (λ (m : ℕ). line_verdict m (suc t.lines)) e

  open-text : t.refusal ≡ 0 → t.lines < max_lines → Open g r
  open-text e l = record { passed = passes e; few = omega (arith, k.lines) }

  pending-size : t.pending.length ≡ length r.pending
  pending-size = k.begun.size

  -- the line after those admitted is refused
  pub kept-refused : (n : ℕ) {t' : TextReader} → TextAt t' t.place t.lines (suc n) [] → TextKept place (refused_as g r (refuse (suc n) (suc r.lines))) t'
  kept-refused n a =
      record {
        stands = ap place_of a.place_is ∙ k.stands;
        lines = a.lines_are ∙ k.lines;
        verdict = rw (a.refusal_is, a.lines_are, k.lines);
        begun = a.begun;
      }

  module _ (part : List ℕ) (at end : ℕ) (e : LineEnd part at (longest_line - t.pending.length) end) (short : t.pending.length < longest_line) where
    abbrev line : List ℕ
    line = take (end - at) (drop at part)

    line-size : length line ≡ end - at
    line-size = size part at (longest_line - t.pending.length) end e

    line-inner : Inner line
    line-inner = inner part at (longest_line - t.pending.length) end e

    split : drop at part ≡ line ++ drop (end - at) (drop at part)
    split = sym (take-append-drop (end - at) (drop at part))

    -- the rest of a part in which no line ends, and where it leaves the text
    abbrev pub RestKept : TextReader → Type 0
    RestKept t' = TextKept place (fed g r (drop at part)) t' × ((fed g r (drop at part)).state ≡ r.state)

    pub rest-kept : at < length part → {t' : TextReader} → Rest t part at end t' → line_ends t at end (length part) ≡ false → RestKept t'
    unfolding fed
    rest-kept b {t'} rest ends = go t.refusal refl
      where
        over : t.refusal ≡ 0 → max_lines ≤ t.lines → RestKept t'
        over z l =
            let v : fed g r (drop at part) ≡ refused_as g r (refuse 1 (suc r.lines)) =
            ap (fed g r) (drop-cons part at 0 b)
            ∙ ap (λ (q : Reader S). fed g q (drop (suc at) part)) (byte-over g r (get_or part at 0) (passes z) (omega (arith, k.lines)))
            ∙ fed-refused g (refused_as g r (refuse 1 (suc r.lines))) (drop (suc at) part) 1 (suc r.lines) refl in
            (rw v (kept-refused 0 (rest.over z l)), ap (λ (q : Reader S). q.state) v)

        long : t.refusal ≡ 0 → t.lines < max_lines → longest_line ≤ end - at + t.pending.length → RestKept t'
        long z l n =
            let v : fed g r (drop at part) ≡ refused_as g r (refuse 1 (suc r.lines)) =
            ap (fed g r) split
            ∙ fed-long g r line (open-text z l) line-inner (omega (arith, pending-size)) (omega (arith, pending-size, line-size)) (drop (end - at) (drop at part)) in
            (rw v (kept-refused 0 (rest.long z l n)), ap (λ (q : Reader S). q.state) v)

        kept : t.refusal ≡ 0 → t.lines < max_lines → end - at + t.pending.length < longest_line → RestKept t'
        kept z l n =
            let o = no_line t at end (length part) ends z l n in
            let all : drop at part ≡ line = sym (take_all (end - at) (drop at part) (rw length-drop (omega arith))) in
            let v : fed g r (drop at part) ≡ holding g r (r.pending ++ line) =
            ap (fed g r) all ∙ fed-kept g r line (open-text z l) line-inner (omega (arith, pending-size, line-size)) in
            let a = rest.kept z l n r.pending k.begun in (
              rw v
                  (record {
                    stands = ap place_of a.place_is ∙ k.stands;
                    lines = a.lines_are ∙ k.lines;
                    verdict = rw a.refusal_is;
                    begun = a.begun;
                  }),
              ap (λ (q : Reader S). q.state) v,
            )

        go : (n : ℕ) → t.refusal ≡ n → RestKept t'
        go (suc n) z =
            let v = fed-refused g r (drop at part) (suc n) (suc t.lines) (refused_as_lem n z) in
            (rw (v, rest.was (λ q. omega (arith, q, z))) k, ap (λ (q : Reader S). q.state) v)
        go zero z = few (ltb t.lines max_lines) refl
          where
            few : (b : Bool) → ltb t.lines max_lines ≡ b → RestKept t'
            few false q = over z (ltb-false t.lines max_lines q)
            few true q = near (ltb (end - at + t.pending.length) longest_line) refl
              where
                near : (b : Bool) → ltb (end - at + t.pending.length) longest_line ≡ b → RestKept t'
                near true p = kept z (ltb-true t.lines max_lines q) (ltb-true (end - at + t.pending.length) longest_line p)
                near false p = long z (ltb-true t.lines max_lines q) (ltb-false (end - at + t.pending.length) longest_line p)

    -- place and lines stay, and the text is ready for another part
    pub record Same (t' : TextReader) : Type 0 where
      pub place_same : t'.place ≡ t.place
      pub lines_same : t'.lines ≡ t.lines
      pub ready : TextReady t'

    at_same : TextReady t → {n : ℕ} {bs : List ℕ} {t' : TextReader} → TextAt t' t.place t.lines n bs → length bs < longest_line → Same t'
    at_same q a h =
        record {
          place_same = a.place_is;
          lines_same = a.lines_are;
          ready = record { few = omega (arith, a.lines_are, q.few); short = omega (arith, a.begun.size) };
        }

    pub rest-same : TextReady t → {t' : TextReader} → Rest t part at end t' → Same t'
    rest-same q {t'} rest = go t.refusal refl
      where
        go : (n : ℕ) → t.refusal ≡ n → Same t'
        go (suc n) z = rw (rest.was (λ y. omega (arith, y, z))) (record { place_same = refl; lines_same = refl; ready = q })
        go zero z = few (ltb t.lines max_lines) refl
          where
            few : (b : Bool) → ltb t.lines max_lines ≡ b → Same t'
            few false l = at_same q (rest.over z (ltb-false t.lines max_lines l)) (omega arith)
            few true l = near (ltb (end - at + t.pending.length) longest_line) refl
              where
                near : (b : Bool) → ltb (end - at + t.pending.length) longest_line ≡ b → Same t'
                near false p = at_same q (rest.long z (ltb-true t.lines max_lines l) (ltb-false (end - at + t.pending.length) longest_line p)) (omega arith)
                near true p =
                    let n = ltb-true (end - at + t.pending.length) longest_line p in
                    let h : length (r.pending ++ line) < longest_line = rw (length-append r.pending line) (omega (arith, n, line-size, pending-size)) in
                    at_same q (rest.kept z (ltb-true t.lines max_lines l) n r.pending k.begun) h

    -- a line that ends in the part
    pub line-fed :
        Whole t at end (length part)
        → fed g r (drop at part) ≡ fed g (line_read g r (read_line (r.pending ++ take (end + 1 - at) (drop at part)))) (drop (end + 1) part)
    line-fed w =
        let h : end - at < length (drop at part) = rw length-drop (omega (arith, w.inside, e.from)) in
        let ten : get_or (drop at part) (end - at) 0 ≡ 10 =
        get_or-drop at part (end - at) 0
        ∙ ap (λ (i : ℕ). get_or part i 0) (sum e.from)
        ∙ e.stops w.inside (omega (arith, w.short, e.from)) in
        let more : take (end + 1 - at) (drop at part) ≡ line ++ (10 ∷ []) =
        ap (λ (n : ℕ). take n (drop at part)) next ∙ take-suc (drop at part) (end - at) 0 h ∙ ap (λ (b : ℕ). line ++ (b ∷ [])) ten in
        let after : drop (end + 1 - at) (drop at part) ≡ drop (end + 1) part = drop-drop (end + 1 - at) at part ∙ ap (λ (n : ℕ). drop n part) whole-next in
        ap (fed g r) (sym (take-append-drop (end + 1 - at) (drop at part)))
        ∙ fed-append g r (take (end + 1 - at) (drop at part)) (drop (end + 1 - at) (drop at part))
        ∙ rw (after, more, fed-line g r line (open-text w.goes w.few) line-inner (omega (arith, pending-size, line-size, w.short)), append_assoc)
      where
        sum : at ≤ end → at + (end - at) ≡ end
        sum h = omega arith

        next : end + 1 - at ≡ suc (end - at)
        next = omega (arith, e.from)

        whole-next : at + (end + 1 - at) ≡ end + 1
        whole-next = omega (arith, e.from)

-- ---- what the numbers of a line make of a text

module _ {S : Type 0} (g : Grammar S) (r : Reader S) (ns : List ℕ) {ss : List Shape} (admits : g.admits r.state ≡ ss) where
  row_is : {v : Verdict} → v ≡ numbers_row (suc r.lines) ss ns → line_row (suc r.lines) (g.admits r.state) (some ns) ≡ v
  unfolding line_row
  row_is e = ap (λ (l : List Shape). numbers_row (suc r.lines) l ns) admits ∙ sym e

  -- they are refused
  pub line_refused : (n : ℕ) → line_verdict (suc n) (suc r.lines) ≡ numbers_row (suc r.lines) ss ns → line_read g r (some ns) ≡ refused_as g r (refuse (suc n) (suc r.lines))
  unfolding line_read
  line_refused n e = rw (row_is e, line_read)

  -- they are admitted
  pub line-admitted : line_verdict 0 (suc r.lines) ≡ numbers_row (suc r.lines) ss ns → line_read g r (some ns) ≡ standing g (g.after r.state ns) (suc r.lines)
  unfolding line_read
  line-admitted e = rw (row_is e, line_read)

-- a line that is not of the form
pub line-malformed : {S : Type 0} (g : Grammar S) (r : Reader S) → line_read g r none ≡ refused_as g r (refuse 1 (suc r.lines))
unfolding line_read
line-malformed g r = refl

-- the text keeps one line more
pub kept-admitted :
    {S : Type 0} (g : Grammar S) (place : S → definition.Place) (r : Reader S) (t : TextReader)
    → TextKept place r t
    → (s : S) {p : Place} {t' : TextReader}
    → TextAt t' p (suc t.lines) 0 []
    → place_of p ≡ place s
    → TextKept place (standing g s (suc r.lines)) t'
kept-admitted g place r t k s a e =
    record {
      stands = ap place_of a.place_is ∙ e;
      lines = a.lines_are ∙ ap suc k.lines;
      verdict = rw a.refusal_is;
      begun = a.begun;
    }

-- where no line has begun a text is ready
pub at_ready : (t : TextReader) {p : Place} {n m : ℕ} → TextAt t p n m [] → n ≤ max_lines → TextReady t
at_ready t a h = record { few = omega (arith, a.lines_are); short = omega (arith, a.begun.size) }
