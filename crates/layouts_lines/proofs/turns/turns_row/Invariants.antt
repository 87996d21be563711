use mathlib.Core.Path.{◌≡◌}
use Prim.Native.Nat.{◌+◌, ◌-◌}
use lib.ListN.{drop}
use Rattle.layouts.specs.Lines.{rows_of, in_turn, turns}
use Rattle.placement.specs.PlacementRead.{placement_at}
use Rattle.layouts_lines.proofs.turns.turns_row.Given as goal

-- `turns_row` compares each line with the one before it: the lines from c on decide as all of them do.
abbrev pub invariant-loop-c : goal.invariant-loop-c
invariant-loop-c l = turns l.k (rows_of l.layouts) ≡ in_turn (l.k + l.c) (placement_at l.layouts (l.c - 1)).turn (drop l.c (rows_of l.layouts))
