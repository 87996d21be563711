use Prim.Native.Nat.{◌+◌, ◌-◌}
use native.Mathlib.Omega.{arith}
use mathlib.Core.Path.{◌≡◌, refl, ◌∙◌}
use Rattle.listing.specs.Holds.{plate_read}
use Rattle.texts.specs.FoldText.{count_lines}
use Rattle.texts_writing.proofs.WroteLaws.{wrote_none}
use Rattle.texts_writing.proofs.CountLaws.{lines-room, counted-more, lines-all}
use Rattle.texts_writing.proofs.lines3.write_counts.Goals as goal

pub loop-c-init : goal.loop-c-init
unfolding count_lines
loop-c-init c = (refl, wrote_none _ _)

pub put_count-at-requires : goal.put_count-at-requires
put_count-at-requires c =
    let l = c.loop-c in
    let e : l.c + 1 - 1 ≡ l.c = omega arith in
    let room = lines-room (plate_read c.args.plates.now) c.args.k.0 l.c c.args.cuts.now c.args.counts.now (omega arith) (omega (arith, c.requires.k_in_bounds, c.requires.by_index, c.requires.counts_in_bounds)) in record { le_c = (omega arith, omega (arith, c.requires.k_in_bounds, c.requires.by_index, c.requires.counts_in_bounds)); record_in = rw e (c.requires.by_index l.c (omega arith)); n_in_bounds = rw e (omega (arith, c.requires.k_in_bounds, c.requires.by_index, c.requires.counts_in_bounds, room, l.invariant.1.end-at)) }

pub loop-c-preserved : goal.loop-c-preserved
loop-c-preserved c =
    let l = c.loop-c in
    let put = c.put_count-at in
    let e : l.c + 1 - 1 ≡ l.c = omega arith in (
      put.auto.out ∙ l.invariant.0,
      counted-more (plate_read c.args.plates.now) c.args.k.0 l.c c.args.cuts.now c.args.counts.now (omega arith) (omega (arith, c.requires.k_in_bounds, c.requires.by_index, c.requires.counts_in_bounds)) c.requires.counts_in_bounds l.invariant.1 (rw e at put.ensures),
    )

pub returns : goal.returns
returns c =
    let l = c.loop-c in
    let a = c.args in
    rw (lines-all (plate_read a.plates.now) a.k.0 l.c a.cuts.now a.counts.now (omega arith)) at l.invariant.1
