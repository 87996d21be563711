-- Layouts and rectangles that the tests refuse, by computation.
use mathlib.Core.Path.{refl}
use Rattle.cases.specs.Jobs.{job_a, job_a2e, job_b}
use Rattle.cases.specs.Readings.{job_e}
use Rattle.cases.specs.Tests.{BrokenRules, Rectangles}
use Rattle.cases.proofs.Opened.{computed}

pub broken_rules : BrokenRules
unfolding computed job_a job_a2e job_b job_e
broken_rules =
    record {
      empty-board = refl;
      empty-strip = refl;
      empty-stack = refl;
      type-zero = refl;
      type-past = refl;
      two-in-stack = refl;
      heights-exact = refl;
      heights-alike = refl;
      heights-free = refl;
      no-full-stack = refl;
      widths-exact = refl;
      widths-alike = refl;
      width-full = refl;
      width-past = refl;
      height-full = refl;
      height-past = refl;
      second-board = refl;
      demands-met = refl;
      demands-more = refl;
      demands-short = refl;
    }

pub rectangles : Rectangles
unfolding computed job_a
rectangles =
    record {
      at-the-edge = refl;
      past-right = refl;
      past_top = refl;
      beside = refl;
      beside_first = refl;
      over = refl;
      over_first = refl;
      overlap = refl;
      overlap-first = refl;
      overlap-later = refl;
      overlap-last = refl;
      two-boards = refl;
    }
