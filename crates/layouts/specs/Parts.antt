-- Requests Two and Four: where offcuts lie. Each is inside its board, and at least b apart from every other and from every item, b the blade's width.
use Rattle.std.specs.Prelude.{ℕ, ◌+◌, ◌≤◌, ◌≡◌, ◌⊎◌, List, [], ◌∷◌}
use Rattle.job.specs.Job.{Job, size_at}
use Rattle.layouts.specs.Layout.{width_of, height_of}
use Rattle.layouts.specs.Placement.{Placement}
use Rattle.layouts.specs.Rules.{Every}
use Rattle.layouts.specs.Offcuts.{Offcut}
use Rattle.layouts.specs.Balance.{size_on}

-- an item as a rectangle of its board
unfoldable pub item_part : Job → Placement → Offcut
item_part job p =
    record { board = p.turn.board; x = p.x; y = p.y; width = width_of job p.item; height = height_of job p.item }

-- inside its board, by the W and H of its size (request Six)
pub record InBoard (job : Job) (r : Offcut) : Type 0 where
  pub across : r.x + r.width ≤ (size_at job r.board.size).width
  pub up : r.y + r.height ≤ (size_at job r.board.size).height

-- one ends b or more before the other begins, across or upwards; for b of 0 they do not overlap
abbrev pub ApartBy : ℕ → Offcut → Offcut → Type 0
ApartBy b r s =
    (r.x + r.width + b ≤ s.x)
    ⊎ ((s.x + s.width + b ≤ r.x)
    ⊎ ((r.y + r.height + b ≤ s.y)
    ⊎ (s.y + s.height + b ≤ r.y)))

-- on different boards, or at least b apart across or upwards, b the blade's width (request Four)
abbrev pub Clear : Job → Offcut → Offcut → Type 0
Clear job r s = (r.board.number ≡ s.board.number → ⊥) ⊎ ApartBy job.blade r s

-- each entry and every later one
abbrev pub Pairs : {A : Type 0} → (A → A → Type 0) → List A → Type 0
Pairs R [] = Unit {0}
Pairs R (a ∷ as') = Every (R a) as' × Pairs R as'

-- where the offcuts of an unfolding lie, ps being its placements
pub record OffcutsLie (job : Job) (ps : List Placement) (os : List Offcut) : Type 0 where
  -- the size of an offcut's board is the one that the placements on it name (request Six)
  pub sized : Every (λ o. o.board.size ≡ size_on o.board.number ps) os
  pub inside : Every (InBoard job) os
  pub apart : Pairs (Clear job) os
  pub off-items : Every (λ o. Every (λ p. Clear job o (item_part job p)) ps) os
