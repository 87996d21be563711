-- The words of the first 4,000 lines of kind 7, one line after another.
use Prim.Native.Nat.{ℕ, suc, ◌-◌, ◌*◌, ◌≤◌, ◌<◌}
use mathlib.Core.Path.{◌≡◌, refl}
use mathlib.Core.List.{List, ◌++◌}
use native.Mathlib.Omega.{arith}
use lib.ListN.{length, take, drop, length-append, length-drop}
use lib.Seq.{take_all, take-append-le}
use Rattle.job.specs.Sizes.{max_pieces, words_of_placement, placements_size}
use Rattle.listing.specs.Holds.{Holds}
use Rattle.columns.specs.Group.{put}
use Rattle.texts_reading.proofs.CodeWords.{put-held, part-rest}
use Rattle.fold_text_reader.specs.FoldKept.{layouts_size}

-- 36,000 words
pub size_is : layouts_size ≡ placements_size
unfolding layouts_size
size_is = refl

-- a line past the first 4,000 is not kept
pub row-passed : (layouts ws xs : List ℕ) (rows : ℕ) → length ws ≡ words_of_placement * rows → max_pieces ≤ rows → Holds layouts (take layouts_size ws) → Holds layouts (take layouts_size (ws ++ xs))
row-passed layouts ws xs rows e h r = let l : layouts_size ≤ length ws = omega (arith, size_is) in rw (take-append-le layouts_size ws xs l) r

-- a line of the first 4,000 is kept
pub row_kept :
    (layouts layouts' ws ns : List ℕ) (rows : ℕ)
    → length ns ≡ suc words_of_placement
    → layouts_size ≤ length layouts
    → rows < max_pieces
    → layouts' ≡ put layouts (words_of_placement * rows) (take (length ns - 1) (drop 1 ns))
    → length ws ≡ words_of_placement * rows
    → Holds layouts (take layouts_size ws)
    → Holds layouts' (take layouts_size (ws ++ drop 1 ns))
row_kept layouts layouts' ws ns rows n s h e w r =
    let d : length (drop 1 ns) ≡ words_of_placement = rw length-drop (omega arith) in
    let b : length ws ≤ layouts_size = omega (arith, size_is) in
    let a : length (ws ++ drop 1 ns) ≤ layouts_size = rw length-append (omega (arith, size_is)) in
    let held : Holds layouts ws = rw (take_all layouts_size ws b) at r in
    rw (e, part-rest ns 1, take_all layouts_size (ws ++ drop 1 ns) a) (put-held ws (drop 1 ns) (words_of_placement * rows) w (omega (arith, size_is)) held)
