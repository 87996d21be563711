use mathlib.Core.Path.{sym, ap, ◌∙◌}
use Prim.Native.Nat.{ℕ}
use Rattle.job.specs.Buffers.{refused}
use Rattle.price_test.specs.PriceSays.{says_of}
use Rattle.answers.specs.AnswerWords.{answer_words}
use Rattle.engine.proofs.Promises.{prices-exactly, price-accepted, price-refused}
use Rattle.engine.proofs.calls.saw_test_prices.Goals as goal

-- `saw_test_prices` hands on the answer of the price test.
pub returns-in-Ok : goal.returns-in-Ok
returns-in-Ok c =
    let call = c.test_prices.ensures in
    let args = c.args in
    let words = c.accept.ensures ∙ ap answer_words (sym (ap says_of c.in-Ok.is) ∙ call.result_value) in
    record {
      answer_after = words;
      plates_after = call.plates_after;
      cuts_after = call.cuts_after;
      variant = prices-exactly args.job.now args.prices.now args.plates.now args.cuts.now _ words;
      where_accepted = price-accepted args.job.now _ _ c.in-Ok.is call.on_accepted c.accept.ensures;
    }

pub returns-in-Err : goal.returns-in-Err
returns-in-Err c =
    let call = c.test_prices.ensures in
    let args = c.args in
    let says = sym (ap says_of c.in-Err.is) ∙ call.result_value in
    let words = c.refuse.ensures ∙ ap (λ (n : ℕ). answer_words (refused n c.in-Err.refused.place)) c.number.ensures in
    record {
      answer_after = words ∙ ap answer_words says;
      plates_after = call.plates_after;
      cuts_after = call.cuts_after;
      variant = prices-exactly args.job.now args.prices.now args.plates.now args.cuts.now _ (words ∙ ap answer_words says);
      where_accepted = λ zero. absurd (price-refused args.job.now args.prices.now args.plates.now args.cuts.now _ says words zero);
    }
