use mathlib.Core.Path.{sym, ◌∙◌}
use Rattle.std.proofs.lemmas.Option.{get_or_from_slice_get}
use Prim.Native.Nat.{◌+◌}
use Rattle.job.proofs.CodeLowest.{lowest-end, lowest-found, lowest-next}
use Rattle.price_test.proofs.CodePrices.{no_words, no-denominator, words-all}
use native.Mathlib.Omega.{arith}
use borrow.Author.Tests.{lt-ltb, le-ltb}
use Rattle.price_test.proofs.prices.price_words.Goals as goal

pub returns-then-prices-i-gt-MAX_PRICE : goal.returns-then-prices-i-gt-MAX_PRICE
returns-then-prices-i-gt-MAX_PRICE c =
    let l = c.loop-i in
    let over = lt-ltb _ _ c.if-prices-i-gt-MAX_PRICE.true in
    let found = lowest-found c.args.prices.now 0 2 _ (l.i + 1) l.i l.invariant c.loop-i-test.true over in
    rw c.at-then-prices-i-gt-MAX_PRICE.ensures found

pub loop-i-preserved : goal.loop-i-preserved
loop-i-preserved c =
    let l = c.loop-i in
    let ws = c.args.prices.now in
    lowest-next ws 0 2 _ (l.i + 1) l.i l.invariant c.loop-i-test.true (le-ltb _ _ (omega arith))

pub returns : goal.returns
returns c =
    let l = c.loop-i in
    lowest-end c.args.prices.now 0 2 _ (l.i + 1) l.i l.invariant c.loop-i-test.false

pub returns-in_default : goal.returns-in_default
returns-in_default c = no_words c.args.prices.now c.in_default.ensures.value

pub returns-then-d-eq0 : goal.returns-then-d-eq0
returns-then-d-eq0 c = rw c.at.ensures (no-denominator c.args.prices.now c.in-Some.ensures.value c.if-d-eq0.true)

pub loop-i-init : goal.loop-i-init
loop-i-init c =
    let d = sym (get_or_from_slice_get c.args.prices.now 0 _ 0 (sym c.in-Some.ensures.value)) in
    words-all c.args.prices.now (λ z. c.if-d-eq0.false (d ∙ z))
