use native.Mathlib.Omega.{arith}
use mathlib.Core.Path.{ap}
use Rattle.std.proofs.lemmas.Result.{err_from_is_err_and}
use Rattle.texts_reading.specs.Judged.{number_said}
use Rattle.texts_reading.proofs.CodeJobLines.{said-passed}
use Rattle.saw_text_body.proofs.BodyRows.{plate-price-judged}
use Rattle.saw_text_lines.proofs.PriceTakes.{plate-price-refused, plate-price-taken}
use Rattle.saw_text_lines.proofs.held.take_plate_price.Goals as goal

-- `take_plate_price` judges a price and keeps it.
pub returns-in_err-plate_price_line : goal.returns-in_err-plate_price_line
returns-in_err-plate_price_line c s lines job plates cuts counts e sizes kept =
    let p = err_from_is_err_and c.from_residual.result c.from_residual.ensures.1 in
    rw (p.1, p.2)
    (plate-price-refused s lines _ c.args.j _ job plates cuts counts _ _ e c.plate_price_line.ensures kept _ (ap number_said c.in_err-plate_price_line.was))

pub bounds-numbers-2 : goal.bounds-numbers-2
bounds-numbers-2 c =
    omega (arith, (plate-price-judged _ c.args.numbers.now (said-passed c.in_ok-plate_price_line.was) c.args.j.0 c.plate_price_line.ensures).size)

pub overflow_cast-prices : goal.overflow_cast-prices
overflow_cast-prices c =
    omega (arith, (plate-price-judged _ c.args.numbers.now (said-passed c.in_ok-plate_price_line.was) c.args.j.0 c.plate_price_line.ensures).price)

pub returns : goal.returns
returns c s lines job plates cuts counts e sizes kept =
    plate-price-taken s lines _ c.args.j _ job plates cuts counts _ _ e c.plate_price_line.ensures kept c.args.t.0 sizes _ (said-passed c.in_ok-plate_price_line.was) c.requires.1.1 c.after_plate_price-place.ensures
