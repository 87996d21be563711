-- The tests of layouts decide the plain statements, and folding's order is what it says.
use Prim.Native.Nat.{ℕ}
use mathlib.Core.List.{List}
use Rattle.job.specs.Job.{Job}
use Rattle.layouts.specs.Exact.{TestsExact, InOrder}
use Rattle.layouts.proofs.lists.Sort.{falling-falls, falling-stable}
use Rattle.layouts.proofs.rules.RulesExact.{set-exact}
use Rattle.layouts.proofs.rules.RulesWords.{demands-exact, all-inside-exact, all-apart-exact}

pub tests-exact : (job : Job) → TestsExact job
tests-exact job =
    record {
      rules = set-exact job;
      demands = demands-exact job;
      inside-boards = all-inside-exact job;
      items_apart = all-apart-exact job;
    }

pub in_order : {A : Type 0} (key : A → ℕ) (l : List A) → InOrder key l
in_order key l = record { falls = falling-falls key l; stable = λ m. falling-stable key m l }
