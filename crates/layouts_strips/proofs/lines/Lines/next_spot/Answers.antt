use native.Mathlib.Omega.{arith}
use Rattle.layouts_strips.specs.Begun.{level_in}
use Rattle.layouts_strips.proofs.CodeSpots.{spot-said, put-across, spot-small}
use Rattle.layouts_strips.proofs.lines.Lines.next_spot.Goals as goal

-- `next_spot` lays the line's item and moves on to the next line.
pub item_of-item-requires : goal.item_of-item-requires
item_of-item-requires c = c.requires.0

pub put-placed-requires : goal.put-placed-requires
put-placed-requires c =
    let few = c.args.self.now.lent.few in
    let up = c.requires.1.up in
    let h = c.requires.0 in
    omega arith

pub begins_at-next-requires : goal.begins_at-next-requires
begins_at-next-requires c =
    omega (arith, c.requires.0)

pub moved-requires : goal.moved-requires
moved-requires c =
    let few = c.args.self.now.lent.few in
    let h = c.requires.0 in
    let it = c.item_of-item in
    let head = c.head_of-head in
    let across = put-across c.args.spot it.result c.requires.1 (omega (arith, it.type_inv)) (omega (arith, it.type_inv)) (omega (arith, head.type_inv)) c.put-placed.ensures in
    omega arith

pub returns : goal.returns
returns c =
    let it = c.item_of-item in
    let head = c.head_of-head in
    let next = c.begins_at-next in
    let put = c.put-placed in (
      spot-said (level_in next.result) c.args.spot c.moved.ensures next.ensures put.ensures it.ensures head.ensures.of-blade,
      spot-small c.args.spot it.result c.requires.1 (omega (arith, it.type_inv)) (omega (arith, it.type_inv)) (omega (arith, head.type_inv)) (level_in next.result) put.ensures c.moved.ensures,
    )
