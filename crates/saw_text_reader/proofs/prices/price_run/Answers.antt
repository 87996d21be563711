use native.Mathlib.Omega.{arith}
use mathlib.Core.Path.{◌≡◌, refl}
use lib.ListN.{length}
use Rattle.columns.specs.Widths.{most_numbers}
use Rattle.texts.specs.Reader.{max_lines}
use Rattle.saw_text_reader.specs.PriceRun.{PriceLine}
use Rattle.saw_text_reader.proofs.PriceSteps.{ran-none, ran-more}
use Rattle.saw_text_reader.proofs.prices.price_run.Goals as goal

pub loop-lines-init : goal.loop-lines-init
loop-lines-init c = (ran-none _ _ _ _ _ _ _ c.requires.from_in_bounds.0 c.requires.from_in_bounds.1 c.requires.plate_within.0, refl)

pub shape_of-prices-then-t-priced : goal.shape_of-prices-then-t-priced
shape_of-prices-then-t-priced c = c.loop-lines.invariant.0.long

pub returns-then-t-priced : goal.returns-then-t-priced
returns-then-t-priced c = c.loop-lines.invariant.0

pub price_at-requires : goal.price_at-requires
price_at-requires c =
    let l = c.loop-lines in
    (l.invariant.0.within, (omega (arith, l.invariant.0.next.few-sizes, l.invariant.0.next.few-residuals, l.invariant.0.next.to), l.invariant.1))

pub shape_of-prices-in_default : goal.shape_of-prices-in_default
shape_of-prices-in_default c = c.loop-lines.invariant.0.long

pub returns-in_default : goal.returns-in_default
returns-in_default c = c.loop-lines.invariant.0

pub bounds-prices-word : goal.bounds-prices-word
bounds-prices-word c =
    let ran = c.loop-lines.invariant.0 in
    omega (arith, c.requires.plate_within.1, ran.long, ran.next.few-types, ran.next.few-residuals, ran.next.from, c.if-t-priced.false)

pub loop-lines-preserved : goal.loop-lines-preserved
loop-lines-preserved c =
    let line : PriceLine c.args.part.now c.loop-lines.at c.loop-lines.plate.0 c.in-Some.price × (length c.price_at.new.numbers ≡ most_numbers) = rw c.in-Some.is at c.price_at.ensures in
    let a = c.args in
    let l = c.loop-lines in
    let ran = l.invariant.0 in
    let found = line in (
      ran-more a.part.now a.from a.t a.priced a.first a.before a.prices.now l.at l.lines l.plate l.prices _ (omega (arith, c.requires.plate_within.1, ran.long)) ran
          (record { few = omega arith; plate = ran.next; more = omega (arith, c.if-t-priced.false); line = found.0 }),
      found.1,
    )

pub shape_of-prices : goal.shape_of-prices
shape_of-prices c = c.loop-lines.invariant.0.long

pub returns : goal.returns
returns c = let last : c.loop-lines.lines ≡ max_lines = omega arith in rw (← last) c.loop-lines.invariant.0
