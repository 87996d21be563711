-- Request Six: the boards of lines and what they cost, board by board.
use Rattle.std.specs.Prelude.{ℕ, ◌+◌, ◌≡◌, List}
use Rattle.std.proofs.Math.Option.{Option, none, some}
use Rattle.job.specs.Job.{Job}
use Rattle.plan.specs.Plan.{cost_at}
use Rattle.layouts.specs.Placement.{Placement}
use Rattle.layouts.specs.Lines.{Level, stack, strip, board, begun}
use Rattle.layouts_strips.specs.First.{size_named}
use Rattle.fold_call.specs.declared.boards.Boards.{Boards}

-- the first of two values where a line begins a board, else the second
abbrev pub at_board : Option Level → ℕ → ℕ → ℕ
at_board none x y = y
at_board (some stack) x y = y
at_board (some strip) x y = y
at_board (some board) x y = x

-- what is counted, and what is counted next: where the first of the lines `rs` begins another board, or there is none, one board more has ended, which costs
-- what its size costs
pub record WithBoard (job : Job) (rs : List Placement) (at next : Boards) : Type 0 where
  pub number-next : next.number ≡ at_board (begun rs) (at.number + 1) at.number
  pub cost-next : next.cost ≡ at_board (begun rs) (at.cost + cost_at job at.size.0) at.cost
  pub size-next : next.size.0 ≡ at_board (begun rs) (size_named rs) at.size.0
