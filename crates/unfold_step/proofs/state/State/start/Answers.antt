use Rattle.unfold_step.proofs.state.State.start.Goals as goal

pub returns : goal.returns
returns c z ns = rw (c.nothing.ensures, c.none.ensures z)
