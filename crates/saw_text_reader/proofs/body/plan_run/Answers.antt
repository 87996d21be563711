use native.Mathlib.Omega.{arith}
use borrow.Author.Rules.{rules}
use Prim.Native.Nat.{◌+◌, ◌*◌, ◌≤◌}
use mathlib.Core.Path.{refl, sym}
use lib.ListN.{length, take, drop, replicate}
use lib.Seq.{length-take-le}
use Rattle.job.specs.Job.{job_of}
use Rattle.listing.specs.Listing.{listing_of}
use Rattle.saw_text_body.specs.declared.model.Model.TheVariants.{Listed}
use Rattle.columns.specs.Widths.{group_bytes, most_numbers}
use Rattle.std.specs.Prelude.{Some}
use Rattle.texts_reading.specs.Judged.{number_said}
use Rattle.texts_reading.proofs.CodeJobLines.{said-passed}
use Rattle.columns.specs.Line.{CompleteAs}
use Rattle.texts.specs.JobLines.{body_line, types_of}
use Rattle.texts.specs.SawText.{counted_in}
use Rattle.saw_text_body.specs.PlanRead.{PlanNumbers}
use Rattle.saw_text_body.proofs.BodyRows.{plan-judged, more-types}
use Rattle.saw_text_body.proofs.ModelLaws.{kept-modelled, kept-plates}
use Rattle.saw_text_reader.proofs.BodySteps.{ran-none, ran-more, line-inside, numbers-ten}
use Rattle.saw_text_reader.proofs.body.plan_run.Goals as goal

pub loop-at-init : goal.loop-at-init
loop-at-init c = ran-none _ _ _ _ _ _ _ _ _ c.requires.from_in_bounds.0 c.requires.from_in_bounds.1

pub slice_bounds-numbers-end : goal.slice_bounds-numbers-end
slice_bounds-numbers-end c =
    let complete : CompleteAs (drop c.loop-at.at c.args.part.now) (replicate most_numbers 0) c.complete_line.new.numbers (Some c.in-Some.g) = rw c.in-Some.is at (c.complete_line.ensures refl) in
    let few : c.in-Some.g ≤ length c.complete_line.new.numbers = numbers-ten _ _ _ _ refl complete in
    few

pub slice_bounds-plan_line-end : goal.slice_bounds-plan_line-end
slice_bounds-plan_line-end c =
    let complete : CompleteAs (drop c.loop-at.at c.args.part.now) (replicate most_numbers 0) c.complete_line.new.numbers (Some c.in-Some.g) = rw c.in-Some.is at (c.complete_line.ensures refl) in
    let few : c.in-Some.g ≤ length c.complete_line.new.numbers = numbers-ten _ _ _ _ refl complete in
    sym (length-take-le _ _ few)

-- ---- a line 3
pub slice_bounds-numbers-end-in-loop-at : goal.slice_bounds-numbers-end-in-loop-at
slice_bounds-numbers-end-in-loop-at c =
    let complete : CompleteAs (drop c.loop-at.at c.args.part.now) (replicate most_numbers 0) c.complete_line.new.numbers (Some c.in-Some.g) = rw c.in-Some.is at (c.complete_line.ensures refl) in
    let few : c.in-Some.g ≤ length c.complete_line.new.numbers = numbers-ten _ _ _ _ refl complete in
    few

pub slice_bounds-plan_numbers-end : goal.slice_bounds-plan_numbers-end
slice_bounds-plan_numbers-end c =
    let complete : CompleteAs (drop c.loop-at.at c.args.part.now) (replicate most_numbers 0) c.complete_line.new.numbers (Some c.in-Some.g) = rw c.in-Some.is at (c.complete_line.ensures refl) in
    let few : c.in-Some.g ≤ length c.complete_line.new.numbers = numbers-ten _ _ _ _ refl complete in
    sym (length-take-le _ _ few)

pub plan_numbers-here-requires : goal.plan_numbers-here-requires
plan_numbers-here-requires c =
    let judged : PlanNumbers (types_of c.args.job.now) (take c.in-Some.g c.complete_line.new.numbers) = plan-judged _ _ (said-passed (search rules)) c.args.job.now c.plan_line.ensures in
    more-types c.requires.words_of_head_in_bounds.1 judged

pub more-plan-requires : goal.more-plan-requires
more-plan-requires c =
    let judged : PlanNumbers (types_of c.args.job.now) (take c.in-Some.g c.complete_line.new.numbers) = plan-judged _ _ (said-passed (search rules)) c.args.job.now c.plan_line.ensures in
    let room = c.requires.k_le_max_cuts in record { line_nonzero = (omega arith, (omega (arith, room.0, room.1.1.0), omega (arith, room.0, room.1.1.1, c.loop-at.invariant.long))); record_in = omega (arith, room.1.0, judged.plate, c.plan_numbers-here.ensures.plate-is) }

pub overflow_mul-at : goal.overflow_mul-at
overflow_mul-at c =
    let complete : CompleteAs (drop c.loop-at.at c.args.part.now) (replicate most_numbers 0) c.complete_line.new.numbers (Some c.in-Some.g) = rw c.in-Some.is at (c.complete_line.ensures refl) in
    omega (arith, complete.0)

pub overflow_add-at : goal.overflow_add-at
overflow_add-at c =
    let complete : CompleteAs (drop c.loop-at.at c.args.part.now) (replicate most_numbers 0) c.complete_line.new.numbers (Some c.in-Some.g) = rw c.in-Some.is at (c.complete_line.ensures refl) in
    let inside : c.loop-at.at + group_bytes * c.in-Some.g + 1 ≤ length c.args.part.now = line-inside _ _ _ _ _ complete in
    omega (arith, inside, c.well_formed.1.1.1.0.0)

pub overflow_add-at-in-loop-at : goal.overflow_add-at-in-loop-at
overflow_add-at-in-loop-at c =
    let complete : CompleteAs (drop c.loop-at.at c.args.part.now) (replicate most_numbers 0) c.complete_line.new.numbers (Some c.in-Some.g) = rw c.in-Some.is at (c.complete_line.ensures refl) in
    let inside : c.loop-at.at + group_bytes * c.in-Some.g + 1 ≤ length c.args.part.now = line-inside _ _ _ _ _ complete in
    omega (arith, inside, c.well_formed.1.1.1.0.0)

pub loop-at-smaller : goal.loop-at-smaller
loop-at-smaller c =
    let complete : CompleteAs (drop c.loop-at.at c.args.part.now) (replicate most_numbers 0) c.complete_line.new.numbers (Some c.in-Some.g) = rw c.in-Some.is at (c.complete_line.ensures refl) in
    let inside : c.loop-at.at + group_bytes * c.in-Some.g + 1 ≤ length c.args.part.now = line-inside _ _ _ _ _ complete in
    omega (arith, inside, c.loop-at-test.true)

pub loop-at-preserved : goal.loop-at-preserved
loop-at-preserved c =
    let complete : CompleteAs (drop c.loop-at.at c.args.part.now) (replicate most_numbers 0) c.complete_line.new.numbers (Some c.in-Some.g) = rw c.in-Some.is at (c.complete_line.ensures refl) in
    let inside : c.loop-at.at + group_bytes * c.in-Some.g + 1 ≤ length c.args.part.now = line-inside _ _ _ _ _ complete in
    let a = c.args in
    let l = c.loop-at in
    let found = c.complete_line in
    let g = c.in-Some.g in
    ran-more a.part.now a.from a.job.now a.plates.now a.cuts.now a.k a.first a.before a.counts.now l.at l.lines l.plan l.counts g c.more-plan.result _ l.invariant
    (record {
      few = omega arith;
      long = c.more-plan.auto.counts;
      was = replicate most_numbers 0;
      numbers = found.new.numbers;
      ten = refl;
      complete = complete;
      refusal = number_said c.plan_line.result;
      admitted = said-passed (search rules);
      judged = c.plan_line.ensures;
      more = λ m vs rs model line planned.
          let known = kept-modelled vs a.plates.now a.cuts.now (Listed m a.k) m a.k refl c.requires.k_le_max_cuts.1.1.0 model in
          c.more-plan.ensures (job_of vs) (listing_of (job_of vs)) (body_line vs) rs (counted_in (take g found.new.numbers)) (kept-plates vs a.plates.now a.cuts.now (Listed m a.k) m a.k refl model) known.is-ready.listed known.rising line c.plan_numbers-here.ensures planned;
    })
    inside
