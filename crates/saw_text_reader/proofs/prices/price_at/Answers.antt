use native.Mathlib.Omega.{arith}
use Prim.Native.Nat.{◌+◌, ◌*◌}
use lib.ListN.{drop}
use borrow.Author.Tests.{not-false}
use Rattle.columns.specs.Widths.{group_bytes}
use Rattle.std.specs.Prelude.{Some}
use Rattle.columns.specs.Line.{CompleteAs}
use Rattle.saw_text_reader.proofs.BodySteps.{numbers-left}
use Rattle.saw_text_reader.proofs.KnownNumber.{kind-six}
use Rattle.saw_text_reader.proofs.PriceSteps.{three-numbers}
use Rattle.saw_text_reader.proofs.prices.price_at.Goals as goal

pub bounds-numbers-0 : goal.bounds-numbers-0
bounds-numbers-0 c =
    let price : CompleteAs (drop (c.args.at + 2 * group_bytes) c.args.part.now) c.args.numbers.now c.complete_line.new.numbers (Some 1) = rw (c.in-Some.is, c.if-k-ne1.false) at (c.complete_line.ensures c.requires.1.1) in
    omega (arith, numbers-left _ c.args.numbers.now _ 1 c.requires.1.1 price)

pub returns : goal.returns
returns c =
    let price : CompleteAs (drop (c.args.at + 2 * group_bytes) c.args.part.now) c.args.numbers.now c.complete_line.new.numbers (Some 1) = rw (c.in-Some.is, c.if-k-ne1.false) at (c.complete_line.ensures c.requires.1.1) in
    let a = c.args in
    let kind = kind-six a.part.now a.at (omega (arith, c.if-part-at-lt-PRICE_LINE.false, c.requires.0)) (c.blank_at.ensures.0 (not-false _ c.if-not-blank_at.false-raw)) c.if-part-at-ne54.false in
    let plate = c.number_is.ensures (not-false _ c.if-not-number_is.false-raw) in (
      record {
        numbers = three-numbers a.part.now a.at a.j.0 a.numbers.now _ kind plate price;
        limit = omega (arith, c.if-price.false);
      },
      numbers-left _ a.numbers.now _ 1 c.requires.1.1 price,
    )
