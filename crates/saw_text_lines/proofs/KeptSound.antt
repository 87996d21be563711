-- What is known wherever a saw text is kept: lent buffers as long as they were have their full size, and the running number is sound.
use Prim.Native.Nat.{ℕ, ◌-◌, ◌≤◌, ◌<◌}
use native.Mathlib.Omega.{arith}
use mathlib.Core.Path.{◌≡◌, refl}
use mathlib.Core.Bool.{true, ◌&&◌}
use mathlib.Core.List.{List}
use lib.Dec.{leb, ltb}
use lib.ListN.{length}
use borrow.Author.Tests.{leb-true, ltb-true, le-leb, lt-ltb}
use Rattle.texts.specs.SawText.{Saw}
use Rattle.job.specs.Sizes.{max_sizes, max_types, max_residuals}
use Rattle.job.proofs.Tests.{and_both, within-limits}
use Rattle.job.specs.Verdict.{within}
use Rattle.listing.proofs.CodeHolds.{held_word}
use Rattle.texts.specs.JobLines.{board_sizes}
use Rattle.texts_reading.specs.declared.text.Place.{Place}
use Rattle.texts_reading.specs.declared.text.Place.TheVariants.{First, Sizes, Types, Body, ItemPrices, PlatePrices, Done}
use Rattle.texts.proofs.Basics.{and_parts}
use Rattle.texts_reading.specs.Standing.{place_of}
use Rattle.saw_text_lines.specs.declared.held.SawHeld.{SawHeld}
use Rattle.saw_text_lines.specs.SawKept.{Lent, lent, Room, HeldAs, plate_sound, place_sound}

-- buffers as long as they were have their full size
pub room-again :
    {job plates cuts counts prices job' plates' cuts' counts' prices' : List ℕ}
    → Room (lent job plates cuts counts prices)
    → length job' ≡ length job
    → length plates' ≡ length plates
    → length cuts' ≡ length cuts
    → length counts' ≡ length counts
    → length prices' ≡ length prices
    → Room (lent job' plates' cuts' counts' prices')
room-again r a b c d e =
    record {
      for-job = omega (arith, r.for-job, a);
      for-plates = omega (arith, r.for-plates, b);
      for-cuts = omega (arith, r.for-cuts, c);
      for-counts = omega (arith, r.for-counts, d);
      for-prices = omega (arith, r.for-prices, e);
    }

-- the number of a residual type is within its limits
pub plate-within : (t n j : ℕ) → plate_sound t n j ≡ true → (t ≤ max_sizes) × ((t ≤ j) × ((j - t < max_residuals) × (n ≤ max_types)))
unfolding plate_sound
plate-within t n j e =
    let p = and_parts (leb t max_sizes && leb t j && ltb (j - t) max_residuals) (leb n max_types) e in
    let q = and_parts (leb t max_sizes && leb t j) (ltb (j - t) max_residuals) p.0 in
    let r = and_parts (leb t max_sizes) (leb t j) q.0 in
    (leb-true t max_sizes r.0, (leb-true t j r.1, (ltb-true (j - t) max_residuals q.1, leb-true n max_types p.1)))

-- a state that keeps a text has a sound running number
pub kept-sound : (p : Place) (s : Saw) (lines : ℕ) (h : SawHeld) (b : Lent) → place_of p ≡ s.place → HeldAs s lines h b → place_sound p (board_sizes b.job) h.prices.types.0 ≡ true
unfolding plate_sound
kept-sound First s lines h b e k = refl
kept-sound (Sizes j) s lines h b e k =
    let to = (rw (← e) at k.of-job).0 in
    lt-ltb j.0 max_sizes (omega (arith, to.to, to.head.few-sizes))
kept-sound (Types i) s lines h b e k =
    let to = (rw (← e) at k.of-job).0 in
    and_both (within 1 max_types i.0) (leb (board_sizes b.job) max_sizes) (within-limits 1 max_types i.0 to.from (omega (arith, to.to, to.head.few-types)))
    (le-leb (board_sizes b.job) max_sizes (omega (arith, held_word s.job k.words 2, to.head.few-sizes)))
kept-sound Body s lines h b e k = refl
kept-sound (ItemPrices i) s lines h b e k =
    let held = rw (← e) at k.of-prices in
    le-leb i.0 max_types (omega (arith, held.1.0, held.1.1.types, held.1.1.few-types))
kept-sound (PlatePrices j) s lines h b e k =
    let held = rw (← e) at k.of-prices in
    let whole = (rw (← e) at k.of-job).whole in
    let t = board_sizes b.job in
    let same = held_word s.job k.words 2 in
    let n = h.prices.types.0 in
    and_both (leb t max_sizes && leb t j.0 && ltb (j.0 - t) max_residuals) (leb n max_types)
    (and_both (leb t max_sizes && leb t j.0) (ltb (j.0 - t) max_residuals)
    (and_both (leb t max_sizes) (leb t j.0) (le-leb t max_sizes (omega (arith, same, whole.head.few-sizes))) (le-leb t j.0 (omega (arith, same, held.0))))
    (lt-ltb (j.0 - t) max_residuals (omega (arith, same, held.0, held.1.0, held.1.1.residuals, held.1.1.few-residuals))))
    (le-leb n max_types (omega (arith, held.1.1.types, held.1.1.few-types)))
kept-sound Done s lines h b e k = refl
