use native.Mathlib.Omega.{arith}
use mathlib.Core.Path.{refl}
use lib.ListN.{take}
use Rattle.job.specs.Sizes.{job_size}
use Rattle.job.specs.Job.{job_of, admission}
use Rattle.job.proofs.Verdicts.{then-both}
use Rattle.listing.specs.Listing.{model_row}
use Rattle.texts_reading.proofs.JobKept.{few-sizes-kept, few-kept}
use Rattle.texts.proofs.Places.{near-place, near-job}
use Rattle.fold_text_ending.specs.FoldEnd.{last_rows}
use Rattle.fold_text_ending.proofs.Answers.{answered-again}
use Rattle.fold_text_ending.proofs.JobPart.{listed-so, rows-refused, words_are, words-pass, job-refused, job-passed}
use Rattle.fold_text_ending.proofs.ending.answer_job.Goals as goal
use Rattle.fold_text_ending.proofs.ending.answer_job.Goals.{then-t-gt-MAX_SIZES-via-then-t-gt-MAX_SIZES, then-t-gt-MAX_SIZES-via-else-t-gt-MAX_SIZES+then-n-gt-MAX_TYPES}

-- `answer_job` lists the job, and answers by the listing.
pub returns-then-t-gt-MAX_SIZES : goal.returns-then-t-gt-MAX_SIZES
returns-then-t-gt-MAX_SIZES c ws ls w =
    let a = c.args in
    let sizes = few-sizes-kept a.job.now ws w.words w.passed in
    let types = few-kept a.job.now ws w.words w.passed in
    let head = c.head_of-head.ensures in
    absurd (elim c.then-t-gt-MAX_SIZES.branch [
      | then-t-gt-MAX_SIZES-via-then-t-gt-MAX_SIZES b ↦ omega (arith, sizes, head.of-sizes, b.if-t-gt-MAX_SIZES.true)
      | then-t-gt-MAX_SIZES-via-else-t-gt-MAX_SIZES+then-n-gt-MAX_TYPES b ↦ omega (arith, types, head.of_types, b.if-n-gt-MAX_TYPES.true)
    ])

pub answer_listed-requires : goal.answer_listed-requires
answer_listed-requires c =
    let a = c.args in
    let x = c.list in
    let head = c.head_of-head in
    let us = take (job_size head.result.sizes.0 head.result.types.0) a.job.now in record { listed_lent = listed-so us a.plates.now a.cuts.now _ _ x.auto.plates x.auto.cuts c.requires.plates_size_in_bounds.0 c.requires.plates_size_in_bounds.1 x.result x.ensures.sizes_listed x.ensures.result_value x.ensures.plates_after x.ensures.cuts_after _ c.in-Ok.is; placements_size_in_bounds = c.requires.longest_job_in_bounds.1; counts_size_in_bounds = c.requires.counts_size_in_bounds }

pub returns-in-Err : goal.returns-in-Err
returns-in-Err c ws ls w =
    let a = c.args in
    let x = c.list in
    let head = c.head_of-head in
    let us = take (job_size head.result.sizes.0 head.result.types.0) a.job.now in
    let is = words_are a.job.now _ _ ws head.ensures.of-sizes head.ensures.of_types w.words w.passed in
    let pass = words-pass ws ls a.rows a.job.now a.layouts.now w us is in
    let row = rows-refused us a.plates.now a.cuts.now _ _ x.auto.plates x.auto.cuts c.requires.plates_size_in_bounds.0 c.requires.plates_size_in_bounds.1 x.result x.ensures.sizes_listed x.ensures.result_value x.ensures.plates_after x.ensures.cuts_after _ c.in-Err.is pass in
    answered-again x.auto.plates x.auto.cuts refl
    (c.refuse.ensures (last_rows ws ls) ws ls
    (rw c.number.ensures (job-refused ws ls a.rows a.job.now a.layouts.now w us is row))
    (near-place (near-job us pass) _ _ row))

pub returns-in-Ok : goal.returns-in-Ok
returns-in-Ok c ws ls w =
    let a = c.args in
    let x = c.list in
    let head = c.head_of-head in
    let us = take (job_size head.result.sizes.0 head.result.types.0) a.job.now in
    let is = words_are a.job.now _ _ ws head.ensures.of-sizes head.ensures.of_types w.words w.passed in
    let l = listed-so us a.plates.now a.cuts.now _ _ x.auto.plates x.auto.cuts c.requires.plates_size_in_bounds.0 c.requires.plates_size_in_bounds.1 x.result x.ensures.sizes_listed x.ensures.result_value x.ensures.plates_after x.ensures.cuts_after _ c.in-Ok.is in
    answered-again x.auto.plates x.auto.cuts refl
    (job-passed ws ls a.rows a.job.now a.layouts.now w us is _ _ _ _ _ _ _ _ _
    (then-both (admission (job_of us)) (model_row (job_of us)) l.admitted l.modelled)
    c.answer_listed.ensures)
