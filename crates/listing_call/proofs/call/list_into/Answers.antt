use mathlib.Core.Path.{ap, ◌∙◌}
use native.Mathlib.Omega.{arith}
use lib.ListN.{length}
use Rattle.job.specs.Job.{job_of}
use Rattle.job.proofs.CodeAdmission.{passed_length, passed-few-sizes, passed_words}
use Rattle.job.proofs.CodeJobWords.{words-sizes}
use Rattle.listing_call.proofs.Walking.{as-next, as-stop}
use Rattle.listing_call.proofs.CodeEnding.{passed-sided, none-held, sizes-held, zeros, walked, walk-stopped}
use Rattle.listing_call.proofs.call.list_into.Goals as goal

-- `list_into` clears the buffers, writes the sizes, walks, and clears them again where the walk stops.
pub put_sizes-requires : goal.put_sizes-requires
put_sizes-requires c =
    let l = passed_length _ c.requires.job_value in
    let d = c.new-read.ensures.head in
    record {
      sizes_value = (d.of-sizes, (omega (arith, l), omega (arith, d.of-sizes, passed-few-sizes _ c.requires.job_value, c.requires.plates_size_in_bounds.0, c.clear.auto.buffer)));
      holds = none-held (job_of c.args.job.now) (length c.args.plates.now) c.clear.ensures;
    }

pub walk-requires : goal.walk-requires
walk-requires c =
    let x = c.put_sizes in
    let z = c.clear-2 in
    let w = passed_words c.args.job.now c.requires.job_value c.new-read.ensures.head in
    rw c.new-read.ensures.words_same (record {
      room = record {
        sided = passed-sided c.args.job.now c.requires.job_value;
        plate-room = omega (arith, c.requires.plates_size_in_bounds.0, x.auto.plates, c.clear.auto.buffer);
        cut-room = omega (arith, c.requires.plates_size_in_bounds.1, z.auto.buffer);
      };
      rep = sizes-held (job_of c.args.job.now) (length c.args.cuts.now) _ (words-sizes w) w.few-sizes x.ensures z.ensures;
    })

pub returns-in-Ok : goal.returns-in-Ok
returns-in-Ok c =
    let a = c.args in
    let x = c.walk in
    let h = as-next c.in-Ok.is (rw c.new-read.ensures.words_same at x.ensures) in
    let e = walked a.job.now a.plates.now a.cuts.now _ _ h (x.auto.plates ∙ c.put_sizes.auto.plates ∙ c.clear.auto.buffer) (x.auto.cuts ∙ c.clear-2.auto.buffer) in
    record { sizes_listed = h.rep.some-plates; result_value = e.0; plates_after = e.1.0; cuts_after = e.1.1 }

pub returns-in-Err : goal.returns-in-Err
returns-in-Err c =
    let a = c.args in
    let x = c.walk in
    let s = as-stop (job_of a.job.now) _ _ c.in-Err.is (rw c.new-read.ensures.words_same at x.ensures) in
    let e = walk-stopped a.job.now a.plates.now a.cuts.now _ _ _ s.0 s.1
    (c.clear-in-Err.ensures ∙ ap zeros (x.auto.plates ∙ c.put_sizes.auto.plates ∙ c.clear.auto.buffer))
    (c.clear-in-Err-2.ensures ∙ ap zeros (x.auto.cuts ∙ c.clear-2.auto.buffer)) in
    record { sizes_listed = tt; result_value = rw c.at.ensures e.0; plates_after = e.1.0; cuts_after = e.1.1 }
