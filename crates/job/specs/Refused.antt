-- What some checks of the code say, as a verdict in document 01's numbers and places.
use Rattle.std.specs.Prelude.{ℕ, Result, Ok, Err}
use Rattle.job.specs.declared.refused.Refusal.{Refusal}
use Rattle.job.specs.declared.refused.Refusal.TheVariants.{Form, Limits, ItemLarger, Demands, BufferShort, PlatesMany, CutsMany, NoSuchCut, CutOrder, Total, ItemShort, Overdrawn, PricesNumber, CutOverLimit, Turn, Stages, PastBoard, Position, TurnedWithoutLeave, OtherPlate}
use Rattle.job.specs.declared.refused.Refused.{Refused}
use Rattle.job.specs.Verdict.{Verdict, pass, refuse}

-- the number of a refusal in document 01's table
abbrev pub number_of : Refusal → ℕ
number_of Form = 1
number_of Limits = 2
number_of ItemLarger = 3
number_of Demands = 4
number_of BufferShort = 5
number_of PlatesMany = 6
number_of CutsMany = 7
number_of NoSuchCut = 8
number_of CutOrder = 9
number_of Total = 10
number_of ItemShort = 11
number_of Overdrawn = 12
number_of PricesNumber = 13
number_of CutOverLimit = 14
number_of Turn = 15
number_of Stages = 16
number_of PastBoard = 17
number_of Position = 18
number_of TurnedWithoutLeave = 19
number_of OtherPlate = 20

-- what a refusal says
abbrev pub refusal_of : Refused → Verdict
refusal_of r = refuse (number_of r.refusal) r.place

-- what a check says: it passes, or refuses
abbrev pub row_verdict : Result (Unit {0}) Refused → Verdict
row_verdict (Ok _) = pass
row_verdict (Err r) = refusal_of r
