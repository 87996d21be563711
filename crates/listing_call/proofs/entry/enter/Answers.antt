use mathlib.Core.Path.{refl}
use native.Mathlib.Omega.{arith}
use lib.ListN.{length}
use Rattle.listing_call.proofs.Entering.{residual-cost, number-new, answer-waste, answer-met, answer-full, answer-new}
use Rattle.listing_call.proofs.entry.enter.Goals as goal

-- `enter` answers by the least side, by what `find` says, and by the room that is left.
pub returns-then-side-least : goal.returns-then-side-least
returns-then-side-least c job ps h f =
    let a = c.args in
    answer-waste job a.p ps a.m.0 h a.side a.least f c.if-side-least.true

pub returns-then-j-m : goal.returns-then-j-m
returns-then-j-m c job ps h f =
    let a = c.args in
    answer-met job a.p ps a.m.0 h a.side a.least f c.if-side-least.false _ (c.find-j.ensures.by_index (length job.sizes) job ps h.count h.held h.known.of-index) c.if-j-m.true

pub returns-then-m-ge-MAX_PLATES : goal.returns-then-m-ge-MAX_PLATES
returns-then-m-ge-MAX_PLATES c job ps h f =
    let a = c.args in
    (refl, answer-full job a.p ps a.m.0 h a.side a.least f c.if-side-least.false _ (c.find-j.ensures.by_index (length job.sizes) job ps h.count h.held h.known.of-index) c.if-j-m.false c.if-m-ge-MAX_PLATES.true)

pub returns : goal.returns
returns c job ps h f =
    let a = c.args in
    let few = c.if-m-ge-MAX_PLATES.false in
    let new = c.if-j-m.false in
    let e = c.find-j.ensures.by_index (length job.sizes) job ps h.count h.held h.known.of-index in
    answer-new job a.p ps a.m.0 h a.side a.least f c.if-side-least.false _ e new few c.requires.1.1
    (c.put_plate.ensures job ps h.count (residual-cost job a.m.0 h.sizes) h.held)
    (c.put.ensures (length job.sizes) ps h.count h.sizes (number-new job a.p ps (omega (arith, h.count, e, new))) h.known.of-index)
