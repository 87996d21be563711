-- Document 01, "Texts": a placement, which is a line of layout words, as the code holds it and as it reads it: "the seven numbers after the kind",
-- the turn, with which line 7 ends (request One), and the size after the board (request Six).
use Rattle.std.specs.Prelude.{ℕ, ◌+◌, ◌*◌, List, map, get_or}
use Rattle.job.specs.Sizes.{words_of_placement}
use Rattle.job.specs.Job.{type_of}
use Rattle.layouts.specs.Placement.{Placement}
use Rattle.layouts.specs.Lines.{Line}
pub use Rattle.layouts.specs.Placement.{opened, placement_of, no_placement}
use Rattle.placement.specs.declared.Placement.{Placement as CodePlacement}

-- the placement that the code holds; its item is "twice the type plus the turn"
abbrev pub placement_in : CodePlacement → Placement
placement_in r = placement_of (opened r.board r.size.0) r.strip r.stack r.place (2 * r.item.0 + r.turned) r.x r.y

-- the line of layout words that the code holds: its type and its turn as they stand there
abbrev pub line_in : CodePlacement → Line
line_in r = record { type = r.item.0; turned = r.turned; placement = placement_in r }

-- the items of some placements, and their types
abbrev pub items_placed : List Placement → List ℕ
items_placed ps = map (λ p. p.item) ps

abbrev pub types_placed : List Placement → List ℕ
types_placed ps = map (λ p. type_of p.item) ps

-- the placement behind c others, by its words
abbrev pub placement_at : List ℕ → ℕ → Placement
placement_at ws c =
    placement_of
    (opened (get_or ws (words_of_placement * c) 0) (get_or ws (words_of_placement * c + 1) 0))
    (get_or ws (words_of_placement * c + 2) 0)
    (get_or ws (words_of_placement * c + 3) 0)
    (get_or ws (words_of_placement * c + 4) 0)
    (2 * get_or ws (words_of_placement * c + 5) 0 + get_or ws (words_of_placement * c + 8) 0)
    (get_or ws (words_of_placement * c + 6) 0)
    (get_or ws (words_of_placement * c + 7) 0)

-- the line behind c others
abbrev pub line_at : List ℕ → ℕ → Line
line_at ws c =
    record {
      type = get_or ws (words_of_placement * c + 5) 0;
      turned = get_or ws (words_of_placement * c + 8) 0;
      placement = placement_at ws c;
    }

-- what stands for a line that some words have not
abbrev pub no_line : Line
no_line = record { type = 0; turned = 0; placement = no_placement }
