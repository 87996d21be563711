-- Buffers of full size at the end of a fold text.
use Prim.Native.Nat.{ℕ, ◌≤◌}
use mathlib.Core.Path.{◌≡◌}
use mathlib.Core.Bool.{Bool, true, ◌&&◌}
use lib.Dec.{leb}
use borrow.Author.Tests.{leb-true, le-leb}
use Rattle.job.specs.Sizes.{longest_job, plates_size, cuts_size, counts_size, placements_size}
use Rattle.job.proofs.Tests.{and_left, and_right}
use Rattle.texts_writing.specs.Wrote.{longest_fold}
use Rattle.fold_text_ending.specs.FoldEnd.{room_to_end}

-- the sizes, one by one
pub record Sizes (job layouts plates cuts counts out : ℕ) : Type 0 where
  pub for-job : longest_job ≤ job
  pub for-layouts : placements_size ≤ layouts
  pub for-plates : plates_size ≤ plates
  pub for-cuts : cuts_size ≤ cuts
  pub for-counts : counts_size ≤ counts
  pub for-out : longest_fold ≤ out

module _ (job layouts plates cuts counts out : ℕ) where
  abbrev Room : Bool
  Room = room_to_end job layouts plates cuts counts out

  pub room-sizes : Room ≡ true → Sizes job layouts plates cuts counts out
  unfolding room_to_end
  room-sizes h =
      let a : Bool = leb longest_job job in
      let b : Bool = a && leb placements_size layouts in
      let c : Bool = b && leb plates_size plates in
      let d : Bool = c && leb cuts_size cuts in
      let e : Bool = d && leb counts_size counts in
      let he : e ≡ true = and_left e (leb longest_fold out) h in
      let hd : d ≡ true = and_left d (leb counts_size counts) he in
      let hc : c ≡ true = and_left c (leb cuts_size cuts) hd in
      let hb : b ≡ true = and_left b (leb plates_size plates) hc in
      record {
        for-job = leb-true longest_job job (and_left a (leb placements_size layouts) hb);
        for-layouts = leb-true placements_size layouts (and_right a (leb placements_size layouts) hb);
        for-plates = leb-true plates_size plates (and_right b (leb plates_size plates) hc);
        for-cuts = leb-true cuts_size cuts (and_right c (leb cuts_size cuts) hd);
        for-counts = leb-true counts_size counts (and_right d (leb counts_size counts) he);
        for-out = leb-true longest_fold out (and_right e (leb longest_fold out) h);
      }

  -- where all the others have their full sizes, the output decides
  pub by_out :
      longest_job ≤ job
      → placements_size ≤ layouts
      → plates_size ≤ plates
      → cuts_size ≤ cuts
      → counts_size ≤ counts
      → leb longest_fold out ≡ Room
  unfolding room_to_end
  by_out js ls ps cs ns =
      rw (
        le-leb longest_job job js,
        le-leb placements_size layouts ls,
        le-leb plates_size plates ps,
        le-leb cuts_size cuts cs,
        le-leb counts_size counts ns,
      )
