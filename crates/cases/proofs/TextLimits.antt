-- The limits of lines, by computation.
use mathlib.Core.Path.{refl}
use Rattle.cases.specs.Bytes.{bytes}
use Rattle.cases.specs.TextsA.{job_lines_a}
use Rattle.cases.specs.TextLimits.{JobLines, SawLines, FoldLines, LastLines, Rooms, after_one, after_job, after_four, after_five}
use Rattle.cases.proofs.Opened.{computed}

pub job_lines : JobLines
unfolding computed after_one
job_lines =
    record {
      greatest = refl;
      greatest-fold = refl;
      greatest-type = refl;
      greatest-type-fold = refl;
      least = refl;
      least-fold = refl;
      stages-low = refl;
      stages-high = refl;
      exact-high = refl;
      width-zero = refl;
      width-high = refl;
      height-zero = refl;
      height-high = refl;
      sizes-zero = refl;
      sizes-high = refl;
      cost-zero = refl;
      cost-high = refl;
      types-zero = refl;
      types-high = refl;
      blade-high = refl;
      item-width-zero = refl;
      item-width-high = refl;
      item-height-zero = refl;
      item-height-high = refl;
      demand-zero = refl;
      demand-high = refl;
      leave-high = refl;
    }

pub saw_lines : SawLines
unfolding computed bytes job_lines_a after_job after_four after_five
saw_lines =
    record {
      plan-greatest = refl;
      plan-least = refl;
      plan-item-zero = refl;
      plan-turn-high = refl;
      prices-greatest = refl;
      prices-least = refl;
      denominator-high = refl;
      prices-types-zero = refl;
      item-price-greatest = refl;
      item-price-high = refl;
      plate-price-greatest = refl;
      plate-price-high = refl;
      item-price-not-next = refl;
      plate-price-not-next = refl;
      plate-price-zero = refl;
    }

pub fold_lines : FoldLines
unfolding computed bytes job_lines_a after_job
fold_lines =
    record {
      greatest = refl;
      strip-zero = refl;
      stack-zero = refl;
      place-zero = refl;
      type-zero = refl;
      board-high = refl;
      strip-high = refl;
      stack-high = refl;
      place-high = refl;
      size-high = refl;
      y-high = refl;
      turn-high = refl;
    }

pub last_lines : LastLines
unfolding computed
last_lines =
    record {
      saw-last = λ s b. refl;
      fold-last = λ f b. refl;
      saw-past = λ s b. refl;
      fold-past = λ f b. refl;
    }

pub rooms : Rooms
unfolding computed
rooms =
    record {
      job-line = refl;
      size-line = refl;
      type-line = refl;
      plan-line = refl;
      prices-line = refl;
      price-line = refl;
      placement-line = refl;
      result-line = refl;
      refusal-line = refl;
      longest-line = refl;
      saw-text = refl;
      fold-text = refl;
      job-words = refl;
      price-words = refl;
    }
