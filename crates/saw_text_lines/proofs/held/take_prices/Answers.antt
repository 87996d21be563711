use native.Mathlib.Omega.{arith}
use mathlib.Core.Path.{ap}
use Rattle.std.proofs.lemmas.Result.{err_from_is_err_and}
use Rattle.texts_reading.specs.Judged.{number_said}
use Rattle.texts_reading.proofs.CodeJobLines.{said-passed}
use Rattle.saw_text_body.proofs.BodyRows.{prices-judged}
use Rattle.saw_text_lines.proofs.PriceTakes.{prices-refused, prices-taken}
use Rattle.saw_text_lines.proofs.held.take_prices.Goals as goal

-- `take_prices` judges line 4 and begins the prices.
pub returns-in_err-prices_line : goal.returns-in_err-prices_line
returns-in_err-prices_line c s lines job plates cuts counts e four kept =
    let p = err_from_is_err_and c.from_residual.result c.from_residual.ensures.1 in
    rw (p.1, p.2)
    (prices-refused s lines _ _ job plates cuts counts _ _ e four c.prices_line.ensures kept _ (ap number_said c.in_err-prices_line.was))

pub bounds-numbers-1 : goal.bounds-numbers-1
bounds-numbers-1 c = omega (arith, (prices-judged _ c.args.numbers.now (said-passed c.in_ok-prices_line.was) c.prices_line.ensures).size)

pub overflow_cast-prices : goal.overflow_cast-prices
overflow_cast-prices c = omega (arith, (prices-judged _ c.args.numbers.now (said-passed c.in_ok-prices_line.was) c.prices_line.ensures).denominator)

pub bounds-numbers-2 : goal.bounds-numbers-2
bounds-numbers-2 c = omega (arith, (prices-judged _ c.args.numbers.now (said-passed c.in_ok-prices_line.was) c.prices_line.ensures).size)

pub overflow_cast-begun : goal.overflow_cast-begun
overflow_cast-begun c = omega (arith, (prices-judged _ c.args.numbers.now (said-passed c.in_ok-prices_line.was) c.prices_line.ensures).few-types)

pub bounds-numbers-3 : goal.bounds-numbers-3
bounds-numbers-3 c = omega (arith, (prices-judged _ c.args.numbers.now (said-passed c.in_ok-prices_line.was) c.prices_line.ensures).size)

pub overflow_cast-begun-2 : goal.overflow_cast-begun-2
overflow_cast-begun-2 c = omega (arith, (prices-judged _ c.args.numbers.now (said-passed c.in_ok-prices_line.was) c.prices_line.ensures).few-residuals)

pub returns : goal.returns
returns c s lines job plates cuts counts e four kept =
    let judged = c.prices_line.ensures in
    let z = said-passed c.in_ok-prices_line.was in
    prices-taken s lines _ _ job plates cuts counts _ _ e four judged kept z (prices-judged _ c.args.numbers.now z judged) (omega (arith, c.requires))
