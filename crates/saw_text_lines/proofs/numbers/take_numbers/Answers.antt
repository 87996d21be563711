use Prim.Native.Nat.{suc}
use native.Mathlib.Omega.{arith}
use mathlib.Core.Path.{refl, sym, ap, ◌∙◌}
use lib.Dec.{leb}
use borrow.Author.Tests.{leb-true, ltb-true}
use Rattle.job.specs.Sizes.{max_sizes, max_types}
use Rattle.job.specs.Verdict.{within}
use Rattle.listing.proofs.CodeHolds.{held_word}
use Rattle.texts.specs.JobLines.{board_sizes}
use Rattle.texts.proofs.Basics.{and_parts, within-parts}
use Rattle.job.specs.declared.refused.Refusal.TheVariants.{Form}
use Rattle.texts_reading.specs.Standing.{place_of}
use Rattle.saw_text_body.proofs.BodyRows.{row_done}
use Rattle.saw_text_lines.specs.SawKept.{lent}
use Rattle.saw_text_lines.proofs.TakeLaws.{taken_refused}
use Rattle.saw_text_lines.proofs.KeptSound.{plate-within}
use Rattle.saw_text_lines.proofs.numbers.take_numbers.Goals as goal

-- `take_numbers` goes by what comes next.
pub take_size-requires : goal.take_size-requires
take_size-requires c =
    let few = ltb-true c.in-Sizes.j.0 max_sizes (rw c.in-Sizes.is at c.requires.line_nonzero.1) in
    (omega (arith, few), omega (arith, few, c.requires.room.for-job))

pub take_item-requires : goal.take_item-requires
take_item-requires c =
    let t = board_sizes c.args.job.now in
    let parts = and_parts (within 1 max_types c.in-Types.i.0) (leb t max_sizes) (rw c.in-Types.is at c.requires.line_nonzero.1) in
    let w = within-parts 1 max_types c.in-Types.i.0 parts.0 in
    (w.0, (omega (arith, w.1), omega (arith, w.1, leb-true t max_sizes parts.1, c.requires.room.for-job)))

pub head_of-requires : goal.head_of-requires
head_of-requires c = omega (arith, c.requires.room.for-job)

pub take_item_price-requires : goal.take_item_price-requires
take_item_price-requires c =
    let few = leb-true c.in-ItemPrices.i.0 max_types (rw c.in-ItemPrices.is at c.requires.line_nonzero.1) in
    (omega (arith, few), omega (arith, few, c.requires.room.for-prices))

pub head_of-requires-in-PlatePrices : goal.head_of-requires-in-PlatePrices
head_of-requires-in-PlatePrices c = omega (arith, c.requires.room.for-job)

pub take_plate_price-requires : goal.take_plate_price-requires
take_plate_price-requires c =
    let e = c.head_of-in-PlatePrices.ensures.of-sizes in
    let w = plate-within (board_sizes c.args.job.now) c.args.held.prices.types.0 c.in-PlatePrices.j.0 (rw c.in-PlatePrices.is at c.requires.line_nonzero.1) in
    (omega (arith, e, w.1.0), (omega (arith, w.0, w.1.0, w.1.1.0), omega (arith, e, w.1.0, w.1.1.0, w.1.1.1, c.requires.room.for-prices)))

pub returns-in-First : goal.returns-in-First
returns-in-First c s lines p here kept =
    let a = c.args in
    c.take_first.ensures s lines a.plates.now a.cuts.now a.counts.now a.prices.now (sym p ∙ ap place_of c.in-First.is) kept

pub returns-in-Sizes : goal.returns-in-Sizes
returns-in-Sizes c s lines p here kept =
    let a = c.args in
    c.take_size.ensures s lines a.plates.now a.cuts.now a.counts.now a.prices.now (sym p ∙ ap place_of c.in-Sizes.is) kept

pub returns-in-Types : goal.returns-in-Types
returns-in-Types c s lines p here kept = c.take_item.ensures s lines c.args.counts.now c.args.prices.now (sym p ∙ ap place_of c.in-Types.is) c.requires.room kept

pub returns-in-Body : goal.returns-in-Body
returns-in-Body c s lines p here kept = c.take_body.ensures s lines (sym p ∙ ap place_of c.in-Body.is) here kept

pub returns-in-ItemPrices : goal.returns-in-ItemPrices
returns-in-ItemPrices c s lines p here kept =
    let a = c.args in
    let sizes = sym (c.head_of.ensures.of-sizes ∙ held_word s.job kept.words 2) in
    c.take_item_price.ensures s lines a.job.now a.plates.now a.cuts.now a.counts.now (sym p ∙ ap place_of c.in-ItemPrices.is) sizes kept

pub returns-in-PlatePrices : goal.returns-in-PlatePrices
returns-in-PlatePrices c s lines p here kept =
    let a = c.args in
    let sizes = sym (c.head_of-in-PlatePrices.ensures.of-sizes ∙ held_word s.job kept.words 2) in
    c.take_plate_price.ensures s lines a.job.now a.plates.now a.cuts.now a.counts.now (sym p ∙ ap place_of c.in-PlatePrices.is) sizes kept

pub returns-in-Done : goal.returns-in-Done
returns-in-Done c s lines p here kept =
    let a = c.args in
    taken_refused s lines 1 a.numbers.now a.held (lent a.job.now a.plates.now a.cuts.now a.counts.now a.prices.now)
    (row_done s (suc lines) a.numbers.now (sym p ∙ ap place_of c.in-Done.is)) Form refl kept
