use mathlib.Core.Path.{sym, ap, ◌∙◌}
use Prim.Native.Nat.{ℕ}
use Rattle.job.specs.Buffers.{refused}
use Rattle.unfold_call.specs.UnfoldSays.{says_of}
use Rattle.answers.specs.AnswerWords.{four_words}
use Rattle.engine.proofs.Promises.{unfold-accepted, unfold-refused}
use Rattle.engine.proofs.calls.saw_unfold.Goals as goal

-- `saw_unfold` hands on the answer of the unfolding call.
pub returns-in-Ok : goal.returns-in-Ok
returns-in-Ok c =
    let call = c.unfold.ensures in
    let words = c.accept_four.ensures in
    record {
      answer_after = words ∙ ap four_words (sym (ap says_of c.in-Ok.is) ∙ call.result_value);
      plates_after = call.plates_after;
      cuts_after = call.cuts_after;
      placements_after = call.placements_after;
      offcuts_after = call.offcuts_after;
      where_unfolded = unfold-accepted _ _ _ c.in-Ok.is call.on_success words;
    }

pub returns-in-Err : goal.returns-in-Err
returns-in-Err c =
    let call = c.unfold.ensures in
    let a = c.args in
    let says = sym (ap says_of c.in-Err.is) ∙ call.result_value in
    let words = c.refuse_four.ensures ∙ ap (λ (n : ℕ). four_words (refused n c.in-Err.refused.place)) c.number.ensures in
    let none = unfold-refused a.job.now a.first a.second a.counts.now a.plates.now a.cuts.now a.placements.now a.offcuts.now _ says words in
    record {
      answer_after = words ∙ ap four_words says;
      plates_after = call.plates_after;
      cuts_after = call.cuts_after;
      placements_after = call.placements_after;
      offcuts_after = call.offcuts_after;
      where_unfolded = λ zero. absurd (none zero);
    }
