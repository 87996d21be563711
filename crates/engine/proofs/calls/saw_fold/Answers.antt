use mathlib.Core.Path.{sym, ap, ◌∙◌}
use Prim.Native.Nat.{ℕ}
use Rattle.job.specs.Buffers.{refused}
use Rattle.fold_call.specs.FoldSays.{says_of}
use Rattle.answers.specs.AnswerWords.{answer_words}
use Rattle.engine.proofs.Promises.{fold-accepted, fold-refused}
use Rattle.engine.proofs.calls.saw_fold.Goals as goal

-- `saw_fold` hands on the answer of the folding call.
pub returns-in-Ok : goal.returns-in-Ok
returns-in-Ok c =
    let call = c.fold.ensures in
    let words = c.accept.ensures in
    record {
      answer_after = words ∙ ap answer_words (sym (ap says_of c.in-Ok.is) ∙ call.result_value);
      plates_after = call.plates_after;
      cuts_after = call.cuts_after;
      counts_after = call.counts_after;
      where_accepted = fold-accepted _ _ _ c.in-Ok.is call.on_success words;
    }

pub returns-in-Err : goal.returns-in-Err
returns-in-Err c =
    let call = c.fold.ensures in
    let a = c.args in
    let says = sym (ap says_of c.in-Err.is) ∙ call.result_value in
    let words = c.refuse.ensures ∙ ap (λ (n : ℕ). answer_words (refused n c.in-Err.refused.place)) c.number.ensures in
    let none = fold-refused a.job.now a.layouts.now a.plates.now a.cuts.now a.counts.now _ says words in
    record {
      answer_after = words ∙ ap answer_words says;
      plates_after = call.plates_after;
      cuts_after = call.cuts_after;
      counts_after = call.counts_after;
      where_accepted = λ zero. absurd (none zero);
    }
