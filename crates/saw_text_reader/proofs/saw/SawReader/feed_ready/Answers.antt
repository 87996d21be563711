use mathlib.Core.Path.{refl, sym}
use native.Mathlib.Omega.{arith}
use lib.Seq.{length-take-le}
use Rattle.texts_reading.proofs.CodeText.{whole}
use Rattle.saw_text_lines.specs.SawKept.{lent}
use Rattle.saw_text_reader.proofs.PartSteps.{going_start, going_end, going_on, going-rest, going-numbers, going-malformed, numbers-next, malformed-next, rest-next, fed-ready}
use Rattle.saw_text_reader.proofs.saw.SawReader.feed_ready.Goals as goal

pub loop-at-init : goal.loop-at-init
loop-at-init c = going_start _ _ _ c.requires

pub next_line-requires : goal.next_line-requires
next_line-requires c =
    let l = c.loop-at in
    record { text_ready = l.invariant.ready.text; at_in_bounds = l.invariant.within; numbers_len = refl }

-- ---- a line of the form
pub slice_bounds-numbers-end : goal.slice_bounds-numbers-end
slice_bounds-numbers-end c =
    let w = numbers-next _ c.next_line.ensures c.in-Numbers.is in
    omega (arith, w.few, w.size)

pub slice_bounds-numbers-end-in-Numbers : goal.slice_bounds-numbers-end-in-Numbers
slice_bounds-numbers-end-in-Numbers c =
    let w = numbers-next _ c.next_line.ensures c.in-Numbers.is in
    sym (length-take-le _ _ (omega (arith, w.few, w.size)))

pub numbers-after-requires : goal.numbers-after-requires
numbers-after-requires c =
    let w = numbers-next _ c.next_line.ensures c.in-Numbers.is in
    let l = c.loop-at in
    record { saw_ready = l.invariant.ready; lines_lt_max_lines = (whole l.reader.text l.at _ _ w.ends).few }

pub overflow_add-end : goal.overflow_add-end
overflow_add-end c =
    let w = numbers-next _ c.next_line.ensures c.in-Numbers.is in
    omega (arith, c.well_formed.1.0.0, (whole c.loop-at.reader.text c.loop-at.at _ _ w.ends).inside)

pub whole_lines-read-requires : goal.whole_lines-read-requires
whole_lines-read-requires c =
    let w = numbers-next _ c.next_line.ensures c.in-Numbers.is in
    let long = c.numbers-after.auto in
    let l = c.loop-at in
    let g = going-numbers _ _ _ l.reader (lent l.job l.plates l.cuts l.counts l.prices) l.at l.invariant w
    (record { job = long.job; plates = long.plates; cuts = long.cuts; counts = long.counts; prices = long.prices })
    c.numbers-after.ensures in
    record { from_in_bounds = g.within; saw_ready = g.ready }

pub loop-at-smaller-in-Numbers : goal.loop-at-smaller-in-Numbers
loop-at-smaller-in-Numbers c =
    let w = numbers-next _ c.next_line.ensures c.in-Numbers.is in
    let inside = (whole c.loop-at.reader.text c.loop-at.at _ _ w.ends).inside in
    let on = c.whole_lines-read.ensures in
    omega (arith, inside, w.end_is.from, on.on, on.within)

pub loop-at-preserved-in-Numbers : goal.loop-at-preserved-in-Numbers
loop-at-preserved-in-Numbers c =
    let w = numbers-next _ c.next_line.ensures c.in-Numbers.is in
    let long = c.numbers-after.auto in
    let l = c.loop-at in
    let g = going-numbers _ _ _ l.reader (lent l.job l.plates l.cuts l.counts l.prices) l.at l.invariant w
    (record { job = long.job; plates = long.plates; cuts = long.cuts; counts = long.counts; prices = long.prices })
    c.numbers-after.ensures in
    let read = c.whole_lines-read in
    going_on _ _ _ _ _ _ g
    (record { job = refl; plates = refl; cuts = refl; counts = read.auto.counts; prices = read.auto.prices })
    read.ensures

-- ---- a line that is not of the form
pub overflow_add-at : goal.overflow_add-at
overflow_add-at c =
    let w = malformed-next _ c.next_line.ensures c.in-Malformed.is in
    omega (arith, c.well_formed.1.0.0, (whole c.loop-at.reader.text c.loop-at.at _ _ w.ends).inside)

pub loop-at-smaller : goal.loop-at-smaller
loop-at-smaller c =
    let w = malformed-next _ c.next_line.ensures c.in-Malformed.is in
    omega (arith, (whole c.loop-at.reader.text c.loop-at.at _ _ w.ends).inside, w.end_is.from)

pub loop-at-preserved : goal.loop-at-preserved
loop-at-preserved c =
    let w = malformed-next _ c.next_line.ensures c.in-Malformed.is in
    let l = c.loop-at in
    going-malformed _ _ _ l.reader (lent l.job l.plates l.cuts l.counts l.prices) l.at l.invariant w (rw c.number.ensures at c.refused.ensures)

-- ---- no line ends in the part
pub rest-requires : goal.rest-requires
rest-requires c =
    let e = (rest-next _ c.next_line.ensures c.in-Rest.is).end_is in
    record { text_ready = c.loop-at.invariant.ready.text; at_le_end = (e.from, (omega (arith, e.near), e.inside)) }

pub shape_of-job-in-Rest : goal.shape_of-job-in-Rest
shape_of-job-in-Rest c = c.loop-at.invariant.long.job

pub shape_of-plates-in-Rest : goal.shape_of-plates-in-Rest
shape_of-plates-in-Rest c = c.loop-at.invariant.long.plates

pub shape_of-cuts-in-Rest : goal.shape_of-cuts-in-Rest
shape_of-cuts-in-Rest c = c.loop-at.invariant.long.cuts

pub shape_of-counts-in-Rest : goal.shape_of-counts-in-Rest
shape_of-counts-in-Rest c = c.loop-at.invariant.long.counts

pub shape_of-prices-in-Rest : goal.shape_of-prices-in-Rest
shape_of-prices-in-Rest c = c.loop-at.invariant.long.prices

pub returns-in-Rest : goal.returns-in-Rest
returns-in-Rest c =
    let w = rest-next _ c.next_line.ensures c.in-Rest.is in
    let l = c.loop-at in
    fed-ready c.requires
    (going-rest _ _ _ l.reader (lent l.job l.plates l.cuts l.counts l.prices) l.at l.invariant _ w.end_is c.loop-at-test.true w.ends c.rest.ensures)

-- ---- the part is over
pub shape_of-job : goal.shape_of-job
shape_of-job c = c.loop-at.invariant.long.job

pub shape_of-plates : goal.shape_of-plates
shape_of-plates c = c.loop-at.invariant.long.plates

pub shape_of-cuts : goal.shape_of-cuts
shape_of-cuts c = c.loop-at.invariant.long.cuts

pub shape_of-counts : goal.shape_of-counts
shape_of-counts c = c.loop-at.invariant.long.counts

pub shape_of-prices : goal.shape_of-prices
shape_of-prices c = c.loop-at.invariant.long.prices

pub returns : goal.returns
returns c =
    let l = c.loop-at in
    fed-ready c.requires (going_end _ _ _ l.reader (lent l.job l.plates l.cuts l.counts l.prices) l.at l.invariant c.loop-at-test.false)
