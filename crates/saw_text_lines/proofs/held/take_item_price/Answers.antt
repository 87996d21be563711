use native.Mathlib.Omega.{arith}
use mathlib.Core.Path.{ap}
use Rattle.std.proofs.lemmas.Result.{err_from_is_err_and}
use Rattle.texts_reading.specs.Judged.{number_said}
use Rattle.texts_reading.proofs.CodeJobLines.{said-passed}
use Rattle.saw_text_body.proofs.BodyRows.{item-price-judged}
use Rattle.saw_text_lines.proofs.PriceTakes.{item-price-refused, item-price-taken}
use Rattle.saw_text_lines.proofs.held.take_item_price.Goals as goal

-- `take_item_price` judges a price and keeps it.
pub returns-in_err-item_price_line : goal.returns-in_err-item_price_line
returns-in_err-item_price_line c s lines job plates cuts counts e sizes kept =
    let p = err_from_is_err_and c.from_residual.result c.from_residual.ensures.1 in
    rw (p.1, p.2)
    (item-price-refused s lines _ c.args.i _ job plates cuts counts _ _ e c.item_price_line.ensures kept _ (ap number_said c.in_err-item_price_line.was))

pub bounds-numbers-2 : goal.bounds-numbers-2
bounds-numbers-2 c =
    omega (arith, (item-price-judged _ c.args.numbers.now (said-passed c.in_ok-item_price_line.was) c.args.i.0 c.item_price_line.ensures).size)

pub overflow_cast-prices : goal.overflow_cast-prices
overflow_cast-prices c =
    omega (arith, (item-price-judged _ c.args.numbers.now (said-passed c.in_ok-item_price_line.was) c.args.i.0 c.item_price_line.ensures).price)

pub returns : goal.returns
returns c s lines job plates cuts counts e sizes kept =
    item-price-taken s lines _ c.args.i _ job plates cuts counts _ _ e c.item_price_line.ensures kept c.args.t.0 sizes _ (said-passed c.in_ok-item_price_line.was) c.requires.1 c.after_item_price-place.ensures
