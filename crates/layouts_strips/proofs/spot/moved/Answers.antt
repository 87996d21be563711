use Rattle.layouts_strips.proofs.spot.moved.Goals as goal

-- `moved` goes by what the next line begins.
pub returns-in-Place : goal.returns-in-Place
returns-in-Place c = rw c.in-Place.is

pub returns-in-Stack : goal.returns-in-Stack
returns-in-Stack c = rw c.in-Stack.is

pub returns-in-Strip : goal.returns-in-Strip
returns-in-Strip c = rw c.in-Strip.is

pub returns-in-Board : goal.returns-in-Board
returns-in-Board c = rw c.in-Board.is
