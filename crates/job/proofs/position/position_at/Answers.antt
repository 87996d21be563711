use mathlib.Core.Path.{◌≡◌, sym, ◌∙◌, ap}
use mathlib.Core.List.{List}
use Prim.Native.Nat.{ℕ, ◌+◌, ◌*◌, ◌≤◌, ◌%◌}
use native.Mathlib.Omega.{arith}
use lib.ListN.{length, get_or}
use Rattle.job.specs.declared.item.Item.{Item}
use Rattle.job.specs.declared.item.Position.{Position}
use Rattle.job.specs.Sizes.{job_size}
use Rattle.job.specs.Job.{job_of, item_at, unturned, turned, type_of, turn_of, position_at}
use Rattle.job.proofs.ItemWords.{items-room}
use Rattle.job.proofs.Positions.{type-turn, position-unturned, position-turned}
use Rattle.job.proofs.position.position_at.Goals as goal

-- `position_at` reads the item type, and turns it where the number is odd.
module _ (ws : List ℕ) (q : ℕ) (low : 1 ≤ type_of q) (room : job_size (get_or ws 2 0) (type_of q) ≤ length ws) {it : Item} (e : it ≡ item_at (job_of ws) (type_of q)) where
  -- an even number is that of the type unturned
  even : {p : Position} → q % 2 ≡ 0 → p ≡ unturned it → p ≡ position_at (job_of ws) q
  unfolding turn_of
  even z h =
      let f : 2 * type_of q ≡ q = omega (arith, type-turn q) in
      h ∙ ap unturned e ∙ sym (position-unturned (job_of ws) (type_of q) low (items-room ws (type_of q) room)) ∙ ap (position_at (job_of ws)) f

  -- an odd one that of the type turned
  odd : {p : Position} → (q % 2 ≡ 0 → ⊥) → p ≡ turned it → p ≡ position_at (job_of ws) q
  unfolding turn_of
  odd z h =
      let f : 2 * type_of q + 1 ≡ q = omega (arith, type-turn q) in
      h ∙ ap turned e ∙ sym (position-turned (job_of ws) (type_of q) low (items-room ws (type_of q) room)) ∙ ap (position_at (job_of ws)) f

pub item_at-item-requires : goal.item_at-item-requires
unfolding type_of
item_at-item-requires c = c.requires

pub returns-then-number-eq0 : goal.returns-then-number-eq0
unfolding type_of
returns-then-number-eq0 c = even c.args.job.now c.args.q.0 c.requires.0 c.requires.1 c.item_at-item.ensures c.if-number-eq0.true c.unturned.ensures

pub returns : goal.returns
unfolding type_of
returns c = odd c.args.job.now c.args.q.0 c.requires.0 c.requires.1 c.item_at-item.ensures c.if-number-eq0.false c.turned.ensures
