use mathlib.Core.Path.{◌≡◌}
use Prim.Native.Nat.{ℕ, ◌+◌, ◌≤◌, ◌<◌}
use lib.ListN.{get_or}
use Rattle.texts_reading.proofs.scan.line_end.Given as goal

-- the bytes from `at` to `end` are not 10, and no more than are to be passed over
abbrev pub invariant-loop-end : goal.invariant-loop-end
invariant-loop-end l = (l.end ≤ l.at + l.most) × ((k : ℕ) → k < l.end → l.at ≤ k → get_or l.part k 0 ≡ 10 → ⊥)
