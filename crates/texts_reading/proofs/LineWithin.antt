-- A line of the form that begins and ends in a part: its numbers, which were read first, say where it ends.
use Prim.Native.Nat.{ℕ, ◌+◌, ◌-◌, ◌*◌, ◌≤◌, ◌<◌}
use mathlib.Core.Path.{◌≡◌, sym, ap, ◌∙◌}
use mathlib.Core.List.{List, ◌++◌}
use mathlib.Core.Option.{some}
use native.Mathlib.Omega.{arith}
use lib.ListN.{length, get_or, take, drop, length-append, length-drop}
use lib.Seq.{get_or-drop, take_at}
use borrow.Author.Tests.{lt-ltb}
use Rattle.columns.specs.Widths.{group_bytes, most_numbers, line_bytes}
use Rattle.std.specs.Prelude.{Option, Some, None}
use Rattle.columns.specs.Line.{numbers_of, read_line, CompleteAs}
use Rattle.columns.proofs.LineLaws.{line-fits}
use Rattle.columns.proofs.LineLaws.{line-numbers as numbers-of-line}
use Rattle.columns.proofs.ReadLaws.{line-ten, line-inner, read-line}
use Rattle.texts.specs.Reader.{max_lines, longest_line}
use Rattle.texts_reading.specs.declared.text.TextReader.{TextReader}
use Rattle.texts_reading.specs.LineEnd.{LineEnd}
use Rattle.texts_reading.specs.Within.{LineWithin, Within}
use Rattle.texts_reading.proofs.CodeLine.{begun-none}
use Rattle.texts_reading.proofs.CodeText.{ends-size}

module _ (part : List ℕ) (at k : ℕ) (ns : List ℕ) (e : numbers_of k (drop at part) ≡ some ns) where
  line-end : (most : ℕ) → group_bytes * k ≤ most → LineEnd part at most (at + group_bytes * k)
  line-end most h =
      record {
        from = omega arith;
        inside = omega (arith, line-fits part at k ns e);
        near = omega arith;
        inner = λ j l m q.
            let s : at + (j - at) ≡ j = omega arith in
            line-inner k (drop at part) ns e (j - at) (omega arith) (get_or-drop at part (j - at) 0 ∙ ap (λ (i : ℕ). get_or part i 0) s ∙ q);
        stops = λ _ _. sym (get_or-drop at part (group_bytes * k) 0) ∙ line-ten k (drop at part) ns e;
      }

  module _ (t : TextReader) (goes : t.refusal ≡ 0) (few : t.lines < max_lines) (none : t.pending.length ≡ 0) (h : k ≤ most_numbers) where
    line-within : (was numbers : List ℕ) → length was ≡ most_numbers → numbers ≡ ns ++ drop k was → LineWithin t part at numbers k
    line-within was numbers nine w =
        let size = (numbers-of-line k (drop at part) ns e).0 in
        record {
          size = ap length w ∙ simp (length-append, length-drop) (omega arith);
          few = h;
          end = line-end (longest_line - t.pending.length) (omega arith);
          ends = sym (ends-size t at (at + group_bytes * k) (length part) goes few (omega arith)) ∙ lt-ltb (at + group_bytes * k) (length part) (omega (arith, line-fits part at k ns e));
          reads = λ bs b.
              let n : at + group_bytes * k + 1 - at ≡ line_bytes k = omega arith in
              let r : read_line (take (at + group_bytes * k + 1 - at) (drop at part)) ≡ some ns = rw n (read-line k (drop at part) ns e) in
              let first : take k numbers ≡ ns = rw w (take_at ns (drop k was) k size) in
              ap read_line (sym (begun-none t.pending part at (at + group_bytes * k + 1) (omega arith) (omega (arith, line-fits part at k ns e)) bs b none)) ∙ r ∙ ap some (sym first);
        }

-- what is said of the line that is found, if one is
pub within :
    (t : TextReader) (part : List ℕ) (at : ℕ) (was numbers : List ℕ)
    → t.refusal ≡ 0
    → t.lines < max_lines
    → t.pending.length ≡ 0
    → length was ≡ most_numbers
    → (r : Option ℕ)
    → CompleteAs (drop at part) was numbers r
    → Within t part at numbers r
within t part at was numbers goes few none nine (Some k) (h, line) = line-within part at k line.0 line.1 t goes few none h was numbers nine line.2
within t part at was numbers goes few none nine None n = tt
