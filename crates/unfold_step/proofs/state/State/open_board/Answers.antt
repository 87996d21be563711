use Rattle.layouts.specs.Unfold.{open_board}
use Rattle.unfold_step.proofs.state.State.open_board.Goals as goal

-- `open_board` lets a board wait, and raises the board's number.
pub returns : goal.returns
unfolding open_board
returns c z ns = rw (c.board.ensures, c.next_board.ensures _)
