-- Document 01, "Texts": where a fold text may end.
use Rattle.std.specs.Prelude.{Bool, true, false}
use Rattle.texts.specs.JobLines.{Place, first, sizes, types, body, item_prices, plate_prices, done}

-- in its body
abbrev pub may_end : Place → Bool
may_end first = false
may_end (sizes j) = false
may_end (types i) = false
may_end body = true
may_end (item_prices i) = false
may_end (plate_prices j) = false
may_end done = false
