-- Document 01, "The words of demand 3", and request Four: rectangles inside their board, and rectangles that are at least b apart.
use Rattle.std.specs.Prelude.{ℕ, ◌+◌, Bool, true, not, ◌&&◌, ◌||◌, List, [], ◌∷◌, leb, eqb}
use Rattle.job.specs.Lists.{all}
use Rattle.job.specs.Job.{Job, size_at}
use Rattle.layouts.specs.Layout.{width_of, height_of}
use Rattle.layouts.specs.Placement.{Placement}

-- "an item at (x, y) covers the rectangle from there to (x+wi, y+hi)": where it ends across, and upwards
unfoldable pub end_x : Job → Placement → ℕ
end_x job p = p.x + width_of job p.item

unfoldable pub end_y : Job → Placement → ℕ
end_y job p = p.y + height_of job p.item

-- "that is inside its board if x+wi and y+hi are at most the board's width and height", which are those of its size (request Six)
unfoldable pub inside : Job → Placement → Bool
inside job p =
    let z = size_at job p.turn.board.size in
    leb (end_x job p) z.width && leb (end_y job p) z.height

-- "any two rectangles of a board are at least b apart across or at least b apart upwards" (request Four): one ends b or more before the other begins. For b of 0
-- it is document 01's "two on one board do not overlap if one ends where or before the other begins, across or upwards"
unfoldable pub apart : Job → Placement → Placement → Bool
apart job p q =
    leb (end_x job p + job.blade) q.x
    || leb (end_x job q + job.blade) p.x
    || leb (end_y job p + job.blade) q.y
    || leb (end_y job q + job.blade) p.y

-- of two on different boards nothing is asked
unfoldable pub clear : Job → Placement → Placement → Bool
clear job p q = not (eqb p.turn.board.number q.turn.board.number) || apart job p q

-- any two rectangles of a list are apart, where they are of one board
unfoldable pub all_apart : Job → List Placement → Bool
all_apart job [] = true
all_apart job (p ∷ ps) = all (clear job p) ps && all_apart job ps
