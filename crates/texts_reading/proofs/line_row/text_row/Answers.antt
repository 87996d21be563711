use native.Mathlib.Omega.{arith}
use Rattle.texts_reading.proofs.CodeEnd.{end_refused, end-begun, end-passes, end-missing}
use Rattle.texts_reading.proofs.line_row.text_row.Goals.{then-text-ne0-2-via-then-text-ne0-2, then-text-ne0-2-via-else-text-ne0-2+then-not-whole}
use Rattle.texts_reading.proofs.line_row.text_row.Goals as goal

pub returns-then-text-ne0 : goal.returns-then-text-ne0
returns-then-text-ne0 c =
    let a = c.args in record { result_value = end_refused a.text a.whole c.if-text-ne0.true; line_named = omega arith }

pub returns-then-text-ne0-2 : goal.returns-then-text-ne0-2
returns-then-text-ne0-2 c =
    let a = c.args in
    record {
      result_value = rw c.number-number.ensures (elim c.then-text-ne0-2.branch [
        | then-text-ne0-2-via-then-text-ne0-2 w ↦ end-begun a.text a.whole c.if-text-ne0.false w.if-text-ne0-2.true
        | then-text-ne0-2-via-else-text-ne0-2+then-not-whole w ↦ end-missing a.text a.whole c.if-text-ne0.false w.if-text-ne0-2.false w.if-not-whole.true
      ]);
      line_named = omega arith;
    }

pub returns : goal.returns
returns c =
    let a = c.args in record { result_value = end-passes a.text a.whole c.if-text-ne0.false c.if-text-ne0-2.false c.if-not-whole.false; line_named = tt }
