-- The part of a plate type's cuts, on plain values: the words that bound it are there.
use Prim.Native.Nat.{ℕ, suc, ◌+◌, ◌≤◌, ◌<◌}
use native.Mathlib.Numerals.{add-one}
use native.Mathlib.Omega.{arith}
use mathlib.Core.Path.{◌≡◌, ◌∙◌}
use mathlib.Core.List.{List}
use lib.ListN.{length, get_or}
use Rattle.job.specs.Job.{job_of}
use Rattle.listing.specs.Listing.{Listing, listing_of}
use Rattle.layouts.specs.OwnCuts.{begin_of}
use Rattle.layouts.proofs.machine.OwnCuts.{begin-few, begin-rises}
use Rattle.unfold_waiting.specs.Begins.{PartIn}
use Rattle.unfold_step.specs.Ready.{PartsLent}

module _ (ws plates cuts begins : List ℕ) (lent : PartsLent ws plates cuts begins) where
  abbrev l : Listing
  l = listing_of (job_of ws)

  -- where there is a count for each cut
  pub part-there : (ns : List ℕ) → length l.cuts ≤ length ns → (j : ℕ) → j < length l.plates → PartIn begins ns j
  part-there ns n j h =
      let here : get_or begins j 0 ≡ begin_of l.cuts j = lent.begins-are.each j (omega (arith, lent.for-each)) in
      let next : get_or begins (j + 1) 0 ≡ begin_of l.cuts (suc j) = lent.begins-are.each (j + 1) (omega (arith, lent.for-each)) ∙ rw add-one in
      record {
        there = omega (arith, lent.for-each);
        ordered = omega (arith, begin-rises l.cuts j);
        counted = omega (arith, begin-few l.cuts (suc j));
      }
