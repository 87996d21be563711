use mathlib.Core.Path.{refl, sym, ◌∙◌}
use Prim.Native.Nat.{◌+◌, ◌-◌, ◌*◌}
use lib.ListN.{length, take, drop}
use borrow.Author.Tests.{not-true, not-false}
use Rattle.texts_reading.specs.Within.{LineWithin}
use Rattle.texts_reading.proofs.CodeText.{whole}
use Rattle.fold_text_reader.proofs.CodeParts.{within_step, going_end, going-line, going-rest, fed-ready}
use Rattle.columns.specs.Widths.{group_bytes}
use Rattle.fold_text_reader.proofs.fold.FoldReader.feed_ready.Goals as goal

pub numbers-reader-requires : goal.numbers-reader-requires
numbers-reader-requires c =
    let line : LineWithin c.loop-at.reader.text c.args.part.now c.loop-at.at c.line_within.new.numbers c.in-Some.k = rw c.in-Some.is at (c.line_within.ensures refl) in
    let l = c.loop-at in record { lines_lt_max_lines = (whole l.reader.text l.at (l.at + group_bytes * c.in-Some.k) (length c.args.part.now) line.ends).few; fold_ready = l.invariant.ready }

pub loop-at-preserved-in-Some : goal.loop-at-preserved-in-Some
loop-at-preserved-in-Some c =
    let line : LineWithin c.loop-at.reader.text c.args.part.now c.loop-at.at c.line_within.new.numbers c.in-Some.k = rw c.in-Some.is at (c.line_within.ensures refl) in
    let a = c.args in
    let l = c.loop-at in
    let x = c.numbers-reader in
    let w = line in
    let end = l.at + group_bytes * c.in-Some.k in
    going-line a.part.now a.self a.job.now a.layouts.now l.reader l.job l.layouts l.at l.invariant end w.end w.ends x.auto.job x.auto.layouts
    (within_step (take (end + 1 - l.at) (drop l.at a.part.now)) (take c.in-Some.k c.line_within.new.numbers) w.reads x.ensures)

pub returns-then-not-line_ends : goal.returns-then-not-line_ends
returns-then-not-line_ends c =
    let l = c.loop-at in
    fed-ready c.requires (going-rest c.args.part.now c.args.self c.args.job.now c.args.layouts.now l.reader l.job l.layouts l.at l.invariant c.line_end-end.result c.line_end-end.ensures c.loop-at-test.true (sym c.line_ends.ensures ∙ not-true _ c.if-not-line_ends.true-raw) c.rest.ensures)

pub loop-at-preserved : goal.loop-at-preserved
loop-at-preserved c =
    let l = c.loop-at in
    let x = c.line-reader in
    going-line c.args.part.now c.args.self c.args.job.now c.args.layouts.now l.reader l.job l.layouts l.at l.invariant c.line_end-end.result c.line_end-end.ensures (sym c.line_ends.ensures ∙ not-false _ c.if-not-line_ends.false-raw) x.auto.job x.auto.layouts x.ensures

pub returns : goal.returns
returns c =
    let l = c.loop-at in
    fed-ready c.requires (going_end c.args.part.now c.args.self c.args.job.now c.args.layouts.now l.reader l.job l.layouts l.at l.invariant c.loop-at-test.false)
