use Rattle.std.proofs.Common.{arith}
use Rattle.saw_text_call.proofs.TextParts.{after_none}
use Rattle.saw.proofs.SawTextText.start.Goals as goal

pub returns : goal.returns
returns c =
    after_none
    (record { for-job = omega arith; for-plates = omega arith; for-cuts = omega arith; for-counts = omega arith; for-prices = omega arith })
    c.start-self.ensures
