use Rattle.std.proofs.lemmas.Result.{err_from_is_err_and}
use mathlib.Core.Path.{◌≡◌, sym, ◌∙◌}
use Prim.Native.Nat.{ℕ, ◌+◌}
use native.Mathlib.Omega.{arith}
use Rattle.listing.proofs.CodeLent.{lent-items}
use Rattle.price_test.proofs.CodePriceRows.{other-size, over-refused, prices-accepted}
use Rattle.price_test.proofs.prices.price_rows.Goals as goal

-- `price_rows` takes 13 first, then 14, and then the sum.
-- the words that are asked for, with a word for each residual type
by-residuals : (n : ℕ) {r x : ℕ} → r ≡ x → 1 + n + r ≡ 1 + n + x
by-residuals n e = omega arith

pub returns-then-prices-words : goal.returns-then-prices-words
returns-then-prices-words c l z p e =
    let items = lent-items c.args.listed.now.lent in
    let words = by-residuals c.args.listed.now.job.head.types.0 c.residuals.ensures in
    rw c.at.ensures (other-size _ l _ _ _ c.args.prices.now z items p (λ h. c.if-prices-words.true (h ∙ sym words)))

pub returns-in_err-cuts_over : goal.returns-in_err-cuts_over
returns-in_err-cuts_over c l z p e =
    let items = lent-items c.args.listed.now.lent in
    let words = c.if-prices-words.false ∙ by-residuals c.args.listed.now.job.head.types.0 c.residuals.ensures in
    let f = err_from_is_err_and c.from_residual.result c.from_residual.ensures.1 in
    let over = over-refused _ l _ _ _ c.args.prices.now z items p words (rw e c.cuts_over.ensures) in
    rw (f.1, f.2) (over c.in_err-cuts_over.was)

pub returns : goal.returns
returns c l z p e =
    let items = lent-items c.args.listed.now.lent in
    let words = c.if-prices-words.false ∙ by-residuals c.args.listed.now.job.head.types.0 c.residuals.ensures in
    let held = c.in_ok-cuts_over.was in
    let accepted = prices-accepted _ l _ _ _ c.args.prices.now z items p words (rw e c.cuts_over.ensures) held in
    accepted c.sum.ensures
