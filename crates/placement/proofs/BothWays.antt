-- The record of a placement is read as it is written, both ways.
use Prim.Native.Nat.{ℕ, ◌+◌, ◌*◌, ◌%◌}
use native.Mathlib.Omega.{arith}
use native.Mathlib.Nat.{mul-mod_right}
use mathlib.Core.Path.{◌≡◌, sym, ap, ◌∙◌}
use mathlib.Core.List.{List}
use lib.ListN.{length, get_or}
use Rattle.job.specs.Sizes.{words_of_placement}
use Rattle.listing.specs.Holds.{Holds}
use Rattle.listing.proofs.CodeHolds.{held_word}
use Rattle.layouts.specs.Placement.{Placement, placement_words, no_placement}
use Rattle.layouts.proofs.row.RowLines.{words-rows, rows_words, words-length}
use Rattle.placement.specs.PlacementRead.{placement_at}
use Rattle.placement.specs.BothWays.{PlacementBothWays}
use Rattle.placement.proofs.Rows.{row_read}

-- a buffer reads as the words that it holds
held-placement : {buffer : List ℕ} (ws : List ℕ) → Holds buffer ws → (c : ℕ) → placement_at buffer c ≡ placement_at ws c
held-placement {buffer} ws h c =
    rw (held_word ws h (words_of_placement * c), at 1, at 2, at 3, at 4, at 5, at 6, at 7, at 8)
  where
    at : (k : ℕ) → get_or buffer (words_of_placement * c + k) 0 ≡ get_or ws (words_of_placement * c + k) 0
    at k = held_word ws h (words_of_placement * c + k)

pub both_ways : PlacementBothWays
both_ways =
    record {
      written_read = λ buffer ps h c l.
          let e : length (placement_words ps) ≡ words_of_placement * length ps = words-length ps in
          held-placement (placement_words ps) h c
          ∙ sym (row_read (placement_words ps) c (omega arith))
          ∙ ap (λ (qs : List Placement). get_or qs c no_placement) (words-rows ps);
      read-written = λ ws n e h. rows_words ws (ap (λ (k : ℕ). k % words_of_placement) e ∙ mul-mod_right words_of_placement n) h;
    }
