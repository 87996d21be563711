-- The steps that an unfolding is given, by which the numbers of a turn are bounded.
use Rattle.std.specs.Prelude.{ℕ, ◌*◌, ◌≤◌}
use Rattle.job.specs.Sizes.{max_pieces}
use Rattle.layouts.specs.Placement.{Turn}

-- steps that are enough for the most counted cuts, four for each
abbrev pub max_steps : ℕ
max_steps = 4 * max_pieces

-- the numbers of board, strip, stack and place are at most n
pub record TurnTo (n : ℕ) (t : Turn) : Type 0 where
  pub board-to : t.board.number ≤ n
  pub strip-to : t.strip ≤ n
  pub stack-to : t.stack ≤ n
  pub place-to : t.place ≤ n
