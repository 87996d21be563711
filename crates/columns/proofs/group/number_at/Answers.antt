use mathlib.Core.Path.{sym}
use native.Mathlib.Nat.{zero-add}
use native.Mathlib.Omega.{arith}
use Rattle.columns.specs.Widths.{lead_bytes}
use Rattle.columns.proofs.GroupLaws.{number_short, number-last, number_is, number-not}
use Rattle.columns.proofs.WordLaws.{columns-blank, part_length}
use Rattle.columns.proofs.group.number_at.Goals as goal

-- `columns::group::number_at` meets its contract: the last column by its tests, the eight before it blank, or read by `lead_at`.
pub returns-then-s-at : goal.returns-then-s-at
returns-then-s-at c = sym (number_short c.args.s.now c.args.at (omega arith))

pub returns-then-b-lt48 : goal.returns-then-b-lt48
returns-then-b-lt48 c = sym (number-last c.args.s.now c.args.at (λ n e. omega arith))

pub returns-then-blank_at : goal.returns-then-blank_at
returns-then-blank_at c =
    let a = c.args in
    let blank = columns-blank _ lead_bytes (part_length a.s.now a.at lead_bytes (omega arith)) (c.blank_at.ensures.0 c.if-blank_at.true) in
    rw zero-add at (sym (number_is a.s.now a.at 0 (omega arith) blank (omega arith) (omega arith) (omega arith)))

pub returns-then-v-ge-LEAD_LIMIT : goal.returns-then-v-ge-LEAD_LIMIT
returns-then-v-ge-LEAD_LIMIT c =
    let a = c.args in
    sym (number-not a.s.now a.at _ (omega arith) c.lead_at-v.ensures (λ n l p q. omega arith))

pub returns : goal.returns
returns c =
    let a = c.args in
    sym (number_is a.s.now a.at _ (omega arith) c.lead_at-v.ensures (omega arith) (omega arith) (omega arith))
