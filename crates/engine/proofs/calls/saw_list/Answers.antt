use mathlib.Core.Path.{◌≡◌, sym, ap, ◌∙◌}
use mathlib.Core.List.{[], ◌∷◌}
use Prim.Native.Nat.{ℕ, ◌-◌}
use native.Mathlib.Omega.{arith}
use lib.ListN.{length}
use Rattle.job.specs.Job.{job_of}
use Rattle.job.specs.Buffers.{given, refused}
use Rattle.listing_call.specs.ListSays.{says_of}
use Rattle.listing_call.proofs.CodeEnding.{sizes-listed, listed-done}
use Rattle.engine.proofs.Promises.{list-refused, list-head, list-sizes}
use Rattle.answers.specs.AnswerWords.{answer_words}
use Rattle.engine.proofs.calls.saw_list.Goals as goal

-- `saw_list` hands on the answer of the listing call.
pub head_of-head-requires : goal.head_of-head-requires
head_of-head-requires c =
    let args = c.args in
    let says = sym (ap (says_of (job_of args.job.now)) c.in-Ok.is) ∙ c.list.ensures.result_value in
    list-head args.job.now args.plates.now args.cuts.now _ says

pub residuals-residuals-requires : goal.residuals-residuals-requires
residuals-residuals-requires c =
    let args = c.args in
    let job = job_of args.job.now in
    let told = c.in-Ok.is in
    let says = sym (ap (says_of job) told) ∙ c.list.ensures.result_value in
    omega (arith, sizes-listed job told c.list.ensures.sizes_listed, list-sizes args.job.now args.plates.now args.cuts.now _ says, c.head_of-head.ensures.of-sizes)

pub returns-in-Ok : goal.returns-in-Ok
returns-in-Ok c =
    let args = c.args in
    let job = job_of args.job.now in
    let call = c.list.ensures in
    let listed = c.in-Ok.listed in
    let says = sym (ap (says_of job) c.in-Ok.is) ∙ call.result_value in
    let sizes : c.head_of-head.result.sizes.0 ≡ length job.sizes = c.head_of-head.ensures.of-sizes ∙ sym (list-sizes args.job.now args.plates.now args.cuts.now _ says) in
    let residuals = c.residuals-residuals.ensures ∙ ap (λ (t : ℕ). listed.plates.0 - t) sizes in
    record {
      answer_after = c.accept.ensures ∙ ap (λ (r : ℕ). answer_words (given (r ∷ listed.cuts.0 ∷ []))) residuals ∙ ap answer_words says;
      plates_after = call.plates_after;
      cuts_after = call.cuts_after;
      where_accepted = λ zero. listed-done c.in-Ok.is call.on_listed;
    }

pub returns-in-Err : goal.returns-in-Err
returns-in-Err c =
    let args = c.args in
    let call = c.list.ensures in
    let says = sym (ap (says_of (job_of args.job.now)) c.in-Err.is) ∙ call.result_value in
    let words = c.refuse.ensures ∙ ap (λ (n : ℕ). answer_words (refused n c.in-Err.refused.place)) c.number.ensures in
    record {
      answer_after = words ∙ ap answer_words says;
      plates_after = call.plates_after;
      cuts_after = call.cuts_after;
      where_accepted = λ zero. absurd (list-refused args.job.now args.plates.now args.cuts.now _ says words zero);
    }
