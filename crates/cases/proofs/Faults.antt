-- Words with several faults, by computation.
use mathlib.Core.Path.{refl}
use Rattle.cases.specs.Calls.{plates, cuts, counts, placements, offcuts, listing, plan, prices, unfolding', folding}
use Rattle.cases.specs.Jobs.{job_a, job_b, lines_a, alone}
use Rattle.cases.specs.Readings.{job_e}
use Rattle.cases.specs.Refusals.{short_plates, short_cuts, short_counts, short_placements}
use Rattle.cases.specs.Faults.{WordFaults, PlanFaults, LayoutFaults, four_stages, two_large, stack_then_turn, strip_too_high, high_then_wide, two_stacks, second_line}
use Rattle.cases.proofs.Opened.{computed}

pub word_faults : WordFaults
unfolding computed plates cuts counts listing prices job_a lines_a alone short_plates short_cuts short_counts short_placements four_stages two_large
word_faults =
    record {
      job-before-price-words = refl;
      job-before-layout-words = refl;
      lowest-price-word = refl;
      lowest-large = refl;
      job-before-buffers-plan = refl;
      job-before-buffers-unfolding = refl;
      job-before-buffers-folding = refl;
      plates-first-plan = refl;
      cuts-second-plan = refl;
      plates-first-prices = refl;
      plates-first-unfolding = refl;
      cuts-second-unfolding = refl;
      counts-third-unfolding = refl;
      placements-fourth-unfolding = refl;
      plates-first-folding = refl;
      cuts-second-folding = refl;
    }

pub plan_faults : PlanFaults
unfolding computed plates cuts placements offcuts plan unfolding' job_a
plan_faults =
    record {
      past-last-unfolding = refl;
      lowest-overdrawn = refl;
      size-before-cut-over = refl;
    }

pub layout_faults : LayoutFaults
unfolding computed plates cuts counts folding job_a job_b job_e stack_then_turn strip_too_high high_then_wide two_stacks second_line
layout_faults =
    record {
      turn-before-stage = refl;
      first-place = refl;
      first-strip = refl;
      first-board = refl;
      same_turn = refl;
      place-left-out = refl;
      stack-left-out = refl;
      strip-left-out = refl;
      board-left-out = refl;
      stack-from-two = refl;
      strip-stack-two = refl;
      strip-place-two = refl;
      board-strip-two = refl;
      board-stack-two = refl;
      board-place-two = refl;
      lowest-stage = refl;
      past-after-stacks = refl;
      lowest-past = refl;
      lowest-position = refl;
      widths-in-stack = refl;
    }
