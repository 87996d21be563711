use mathlib.Core.Path.{◌≡◌, refl, sym, ap, ◌∙◌}
use Prim.Native.Nat.{ℕ, ◌-◌}
use native.Mathlib.Omega.{arith}
use lib.ListN.{get_or}
use Rattle.listing.specs.Holds.{plate_read}
use Rattle.listing.proofs.CodeHolds.{held-plate}
use Rattle.listing.proofs.Plates.{same-equal, same-differ}
use Rattle.listing_index.proofs.Searching.{at-start, at_next, at-found, at_new}
use Rattle.listing_index.proofs.index.find.Goals as goal

pub loop-k-init : goal.loop-k-init
loop-k-init c =
    let b = c.bucket-b.ensures in (
      c.requires.0.heads _ b.1,
      λ t job ps n h ix. at-start t ps c.args.index.now c.args.p ix _ (omega (arith, b.0, b.1)) (ap (λ (x : ℕ). get_or c.args.index.now x 0) b.0),
    )

pub returns-then-same : goal.returns-then-same
returns-then-same c =
    let l = c.loop-k in
    let x = c.loop-k-test.true in
    let e : plate_read c.args.plates.now (l.k - 1) ≡ c.args.p = sym c.plate_at-q.ensures ∙ sym (same-equal c.args.p _ (sym c.same.ensures ∙ c.if-same.true)) in record { by_index = λ t job ps n h ix. at-found t ps c.args.index.now c.args.p ix l.k (l.k - 1) (omega (arith, x)) (l.invariant.1 t job ps n h ix) (sym (held-plate job ps h (l.k - 1)) ∙ e); result_le_m = omega (arith, l.invariant.0) }

pub loop-k-preserved : goal.loop-k-preserved
loop-k-preserved c =
    let l = c.loop-k in
    let x = c.loop-k-test.true in (
      omega (arith, c.requires.0.nexts (l.k - 1) (omega (arith, l.invariant.0)), l.invariant.0),
      λ t job ps n h ix. at_next t ps c.args.index.now c.args.p ix l.k (l.k - 1) (omega (arith, x)) (l.invariant.1 t job ps n h ix) _
          (λ e. same-differ c.args.p _ (sym c.same.ensures ∙ c.if-same.false) (sym e ∙ sym (held-plate job ps h (l.k - 1)) ∙ sym c.plate_at-q.ensures)) refl,
    )

pub returns : goal.returns
returns c =
    let l = c.loop-k in record { by_index = λ t job ps n h ix. sym n ∙ at_new t ps c.args.index.now c.args.p ix l.k c.loop-k-test.false (l.invariant.1 t job ps n h ix); result_le_m = omega arith }
