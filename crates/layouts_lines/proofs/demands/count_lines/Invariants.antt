use mathlib.Core.Path.{◌≡◌}
use mathlib.Core.List.{List}
use Prim.Native.Nat.{ℕ}
use lib.ListN.{length, take}
use Rattle.layouts.specs.Lines.{rows_of}
use Rattle.layouts_lines.specs.LineSums.{SumsOf}
use Rattle.layouts_lines.proofs.demands.count_lines.Given as goal

-- `count_lines` counts one line after another: after c turns the sums are those of the first c lines.
pub record Turn (layouts sums₀ : List ℕ) (sums : List ℕ) (c : ℕ) : Type 0 where
  -- the words are as many as they were
  pub kept : length sums ≡ length sums₀
  -- they are the sums of the first c lines
  pub counted : SumsOf (take c (rows_of layouts)) sums

abbrev pub invariant-loop-c : goal.invariant-loop-c
invariant-loop-c l = Turn l.layouts l.initial.sums l.sums l.c
