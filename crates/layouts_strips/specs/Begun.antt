-- What a line begins, as the code says it.
use Rattle.std.specs.Prelude.{Bool, true, false}
use Rattle.std.proofs.Math.Option.{Option, none, some}
use Rattle.layouts.specs.Lines.{Level, stack, strip, board}
use Rattle.layouts_strips.specs.declared.begins.Begins.{Begins}
use Rattle.layouts_strips.specs.declared.begins.Begins.TheVariants.{Place, Stack, Strip, Board}

abbrev pub level_in : Begins → Option Level
level_in Place = none
level_in Stack = some stack
level_in Strip = some strip
level_in Board = some board

-- a line goes on with a stack
abbrev pub goes_on : Option Level → Bool
goes_on none = true
goes_on (some v) = false

-- it begins a further stack of a strip
abbrev pub begins_stack : Option Level → Bool
begins_stack none = false
begins_stack (some stack) = true
begins_stack (some strip) = false
begins_stack (some board) = false

-- it begins a further strip of a board
abbrev pub begins_strip : Option Level → Bool
begins_strip none = false
begins_strip (some stack) = false
begins_strip (some strip) = true
begins_strip (some board) = false
