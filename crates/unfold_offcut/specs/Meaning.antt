-- Request Two: the offcut that the code holds, on a board of a size (request Six).
use Rattle.layouts.specs.Placement.{opened}
use Rattle.layouts.specs.Offcuts.{Offcut}
use Rattle.unfold_offcut.specs.declared.Offcut.{Offcut as CodeOffcut}

abbrev pub offcut_in : CodeOffcut → Offcut
offcut_in o = record { board = opened o.board o.size.0; x = o.x; y = o.y; width = o.width; height = o.height }
