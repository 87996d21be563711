use mathlib.Core.Path.{◌≡◌}
use lib.ListN.{length}
use Rattle.columns.specs.Widths.{most_numbers}
use Rattle.saw_text_reader.specs.PriceRun.{PricesRan}
use Rattle.saw_text_reader.proofs.prices.price_run.Given as goal

-- `price_run` goes line by line: each line that it takes is one that the definition's reader takes, and another line 6 comes after it.
abbrev pub invariant-loop-lines : goal.invariant-loop-lines
invariant-loop-lines l = PricesRan l.part l.from l.t l.priced l.initial.plate l.before l.initial.prices (record { plate = l.plate; lines = l.lines; at = l.at }) l.prices × (length l.numbers ≡ most_numbers)
