use native.Mathlib.Omega.{arith}
use Prim.Native.Nat.{◌+◌, ◌-◌, ◌*◌, ◌/◌}
use mathlib.Core.Path.{◌≡◌, sym, ap, ◌∙◌}
use mathlib.Core.Bool.{true}
use mathlib.Core.List.{◌++◌}
use lib.ListN.{length, take, drop}
use borrow.Author.Tests.{not-true, not-false}
use Rattle.columns.specs.Widths.{group_bytes}
use Rattle.columns.specs.Line.{read_line}
use Rattle.texts_reading.specs.Standing.{line_ends}
use Rattle.texts_reading.specs.Within.{LineWithin}
use Rattle.texts_reading.proofs.CodeLine.{line-not}
use Rattle.texts_reading.proofs.CodeText.{whole}
use Rattle.saw_text_reader.proofs.LineSteps.{readable, whole-size}
use Rattle.saw_text_reader.proofs.next.next_line.Goals as goal

pub overflow_mul-end : goal.overflow_mul-end
overflow_mul-end c =
    let within : LineWithin c.args.text c.args.part.now c.args.at c.line_within.new.numbers c.in-Some.k = rw c.in-Some.is at (c.line_within.ensures c.requires.numbers_len) in
    omega (arith, within.few)

pub overflow_add-end : goal.overflow_add-end
overflow_add-end c =
    let within : LineWithin c.args.text c.args.part.now c.args.at c.line_within.new.numbers c.in-Some.k = rw c.in-Some.is at (c.line_within.ensures c.requires.numbers_len) in
    let a = c.args in
    omega (arith, c.well_formed.1.0.0, (whole a.text a.at (a.at + group_bytes * c.in-Some.k) (length a.part.now) within.ends).inside)

pub returns-in-Some : goal.returns-in-Some
returns-in-Some c =
    let within : LineWithin c.args.text c.args.part.now c.args.at c.line_within.new.numbers c.in-Some.k = rw c.in-Some.is at (c.line_within.ensures c.requires.numbers_len) in
    let w = within in record { size = w.size; few = w.few; end_is = w.end; ends = w.ends; reads = w.reads }

-- ---- any other
pub returns-then-not-line_ends : goal.returns-then-not-line_ends
returns-then-not-line_ends c = record { end_is = c.line_end-end.ensures; ends = sym c.line_ends.ensures ∙ not-true _ c.if-not-line_ends.true-raw }

pub line-requires : goal.line-requires
line-requires c =
    let ends : line_ends c.args.text c.args.at c.line_end-end.result (length c.args.part.now) ≡ true = sym c.line_ends.ensures ∙ not-false _ c.if-not-line_ends.false-raw in
    let a = c.args in
    let w = whole a.text a.at c.line_end-end.result (length a.part.now) ends in
    let from = c.line_end-end.ensures.from in
    (omega (arith, from), (omega (arith, w.inside), omega (arith, w.short, from)))

pub returns-in_default-line : goal.returns-in_default-line
returns-in_default-line c =
    let ends : line_ends c.args.text c.args.at c.line_end-end.result (length c.args.part.now) ≡ true = sym c.line_ends.ensures ∙ not-false _ c.if-not-line_ends.false-raw in
    record {
      end_is = c.line_end-end.ensures;
      ends = ends;
      bad = λ bs b. line-not (read_line (bs ++ take (c.line_end-end.result + 1 - c.args.at) (drop c.args.at c.args.part.now))) (sym (c.line.ensures.1 bs b) ∙ c.in_default-line.is);
    }

pub returns : goal.returns
returns c =
    let ends : line_ends c.args.text c.args.at c.line_end-end.result (length c.args.part.now) ≡ true = sym c.line_ends.ensures ∙ not-false _ c.if-not-line_ends.false-raw in
    let a = c.args in
    let end = c.line_end-end.result in
    let e = c.line_end-end.ensures in
    let w = whole a.text a.at end (length a.part.now) ends in
    record {
      size = rw c.in-Some-line.is at c.line.ensures.0;
      few = omega (arith, w.short, e.from);
      end_is = e;
      ends = ends;
      reads = λ bs b.
          readable (bs ++ take (end + 1 - a.at) (drop a.at a.part.now)) _ ((a.text.pending.length + (end + 1 - a.at)) / group_bytes)
          (sym (c.line.ensures.1 bs b) ∙ c.in-Some-line.is)
          (ap (λ n. n / group_bytes) (whole-size a.text.pending bs a.part.now a.at end b e.from w.inside));
    }
