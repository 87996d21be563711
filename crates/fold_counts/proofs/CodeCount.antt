-- The cut of a number, as it is read from its words, and what it leaves.
use Prim.Native.Nat.{ℕ, zero, suc, ◌+◌, ◌-◌, ◌^◌, ◌≤◌, ◌<◌}
use native.Mathlib.Omega.{arith}
use mathlib.Core.Path.{◌≡◌, sym, ap, ◌∙◌}
use mathlib.Core.Bool.{Bool, true, false}
use mathlib.Core.List.{List, [], ◌∷◌, ◌++◌}
use lib.ListN.{get_or, set}
use Rattle.std.specs.Prelude.{Option, Some, None}
use Rattle.job.specs.declared.counters.CutNumber.{CutNumber}
use Rattle.job.specs.Lists.{tally}
use Rattle.listing.specs.Listing.{Listing, cut_at}
use Rattle.listing.specs.Holds.{Holds}
use Rattle.listing.specs.declared.cut.CutRecord.{CutRecord}
use Rattle.listing.specs.CutRead.{cut_in, cut_read, cuts_read}
use Rattle.listing.proofs.CodeCuts.{cut-read}
use Rattle.layouts.specs.Fold.{cut_of}
use Rattle.listing_find.specs.Rising.{Rising}
use Rattle.listing_find.specs.Found.{cut_found, Among}
use Rattle.fold_counts.specs.declared.count.Left.{Left}
use Rattle.fold_counts.specs.Lent.{CutsLent, Counting}
use Rattle.fold_counts.specs.Chain.{LeftBy}
use Rattle.fold_counts.proofs.Tallying.{tally-zero, counted-more, counted-small}

-- the cut of a number
cut-number : (l : Listing) (cuts : List ℕ) (k c : ℕ) → CutsLent l cuts k → 1 ≤ c → c ≤ k → cut_at l c ≡ cut_read cuts (c - 1)
unfolding cut_at
cut-number l cuts k zero lent h m = absurd (omega arith)
cut-number l cuts k (suc c) lent h m = let e : suc c - 1 ≡ c = omega arith in rw (e, lent.listed) (cut-read k c cuts (omega arith))

-- where there is no cut, nothing is left and nothing counted
module _ (l : Listing) (j i : ℕ) (e : 0 ≡ cut_of l j i) where
  pub none_left : (three : Bool) (r : Left) → r.own.0 ≡ 0 → r.other.0 ≡ 0 → LeftBy three (cut_at l (cut_of l j i)) r
  unfolding cut_at
  none_left true r f g = rw (← e) (record { own-left = f; other-left = g })
  none_left false r f g = rw (← e) (record { own-left = f; other-left = g })

  pub none-counted : {counts : List ℕ} (k : ℕ) (ks : List ℕ) → Holds counts (tally k 1 ks) → Holds counts (tally k 1 (ks ++ cut_of l j i ∷ []))
  none-counted k ks h = rw (← e, tally-zero k 0 ks) h

-- the search has found the cut of plate type j and position i, one of the k cuts of the buffer
pub record FoundAt (cuts : List ℕ) (k j i c : ℕ) : Type 0 where
  pub from_one : 1 ≤ c
  pub within : c ≤ k
  pub of-pair : (l : Listing) → CutsLent l cuts k → c ≡ cut_of l j i

-- what the search says, of a cut and of none
module _ (cuts : List ℕ) (k j i : ℕ) {o : Option CutNumber} (among : Among k o) (value : (l : Listing) → l.cuts ≡ cuts_read k cuts → Rising l.cuts → cut_found o ≡ cut_of l j i) where
  pub found_at : {c : CutNumber} → o ≡ Some c → FoundAt cuts k j i c.0
  found_at e =
      let a = rw e at among in
      record { from_one = a.0; within = a.1; of-pair = λ l lent. sym (ap cut_found e) ∙ value l lent.listed lent.rising }

  pub found-none : o ≡ None → (l : Listing) → CutsLent l cuts k → 0 ≡ cut_of l j i
  found-none e l lent = sym (ap cut_found e) ∙ value l lent.listed lent.rising

module _ {cuts : List ℕ} {k j i c : ℕ} (f : FoundAt cuts k j i c) where
  -- what it leaves, by its record x
  module _ (x : CutRecord) (read : cut_in x ≡ cut_read cuts (c - 1)) (l : Listing) (lent : CutsLent l cuts k) where
    record_is : cut_at l (cut_of l j i) ≡ cut_in x
    record_is = rw (← f.of-pair l lent) (cut-number l cuts k c lent f.from_one f.within ∙ sym read)

    pub top_left : {three : Bool} → three ≡ true → (r : Left) → r.own.0 ≡ x.top.0 → r.other.0 ≡ x.right.0 → LeftBy three (cut_at l (cut_of l j i)) r
    top_left t r a b = rw (t, record_is) (record { own-left = a; other-left = b })

    pub right-left : {three : Bool} → three ≡ false → (r : Left) → r.own.0 ≡ x.right.0 → r.other.0 ≡ x.top.0 → LeftBy three (cut_at l (cut_of l j i)) r
    right-left t r a b = rw (t, record_is) (record { own-left = a; other-left = b })

  -- it is counted once more
  module _ {counts : List ℕ} (g : Counting counts k 1) where
    pub count_fits : get_or counts (c - 1) 0 + 1 < 2 ^ 16
    count_fits = omega (arith, counted-small k (c - 1) g.so_far (omega (arith, f.from_one, f.within)) g.held, g.few)

    pub count-more : (l : Listing) → CutsLent l cuts k → (ks : List ℕ) → Holds counts (tally k 1 ks) → Holds (set counts (c - 1) (get_or counts (c - 1) 0 + 1)) (tally k 1 (ks ++ cut_of l j i ∷ []))
    count-more l lent ks held = rw (← f.of-pair l lent) (counted-more k c ks f.from_one f.within g.room held)
