use native.Mathlib.Omega.{arith}
use mathlib.Core.Path.{refl, sym}
use lib.Seq.{length-take-le}
use Rattle.job.specs.Sizes.{job_size}
use Rattle.saw_text_lines.specs.SawKept.{lent}
use Rattle.saw_text_ending.proofs.Answers.{refused-answer}
use Rattle.saw_text_ending.proofs.JobPart.{few-sizes, few-types, job-refused, place-fits, job-listed, job-passed}
use Rattle.saw_text_ending.proofs.ending.answer_job.Goals as goal

pub slice_bounds-answer_listed-end : goal.slice_bounds-answer_listed-end
slice_bounds-answer_listed-end c =
    let a = c.args in
    let b = lent a.job.now a.plates.now a.cuts.now a.counts.now a.prices.now in
    let head = c.head_of-head in
    let w = c.requires.whole_kept in
    let t = few-sizes w.0 a.held b c.requires.room w.1 in
    let n = few-types w.0 a.held b c.requires.room w.1 in
    sym (length-take-le (job_size head.result.sizes.0 head.result.types.0) a.job.now (omega (arith, head.ensures.of-sizes, head.ensures.of_types, t, n, c.requires.room.for-job)))

pub answer_listed-requires : goal.answer_listed-requires
answer_listed-requires c =
    let a = c.args in
    let b = lent a.job.now a.plates.now a.cuts.now a.counts.now a.prices.now in
    let head = c.head_of-head.ensures in record { listed_lent = rw (head.of-sizes, head.of_types) (job-listed c.requires.whole_kept.0 a.held b c.requires.room c.requires.whole_kept.1 c.in-Listed.is); ready = c.requires.ready }

pub returns-in-Refused : goal.returns-in-Refused
returns-in-Refused c q w =
    let a = c.args in
    let b = lent a.job.now a.plates.now a.cuts.now a.counts.now a.prices.now in
    refused-answer q (job-refused q a.held b c.requires.room w c.in-Refused.is) (c.refuse.ensures (place-fits q a.held b c.requires.room w c.in-Refused.is)) c.requires.ready.cleared refl

pub returns-in-Listed : goal.returns-in-Listed
returns-in-Listed c q w =
    let a = c.args in
    let b = lent a.job.now a.plates.now a.cuts.now a.counts.now a.prices.now in
    let head = c.head_of-head.ensures in
    job-passed q a.held b c.requires.room w c.in-Listed.is _ _ _ _ _ (rw (head.of-sizes, head.of_types) at c.answer_listed.ensures)
