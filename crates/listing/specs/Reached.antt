-- Document 01, "Plates and cuts": the places that the walk comes to, whatever its limits, each with the listing so far. A walk that is refused with 6 or 7 has come to
-- the place where a limit is passed.
use Rattle.std.specs.Prelude.{ℕ, suc, ◌≤◌, ◌<◌, ◌≡◌, true, false, length}
use Rattle.job.specs.Job.{Job, positions, position_at}
use Rattle.listing.specs.Plate.{may_cut, leaves}
use Rattle.listing.specs.Listing.{Listing, plate_at, cut_done, walk_start}

-- the listing after the pair of plate type j and position i, which is permitted
abbrev pub after : Job → ℕ → ℕ → Listing → Listing
after job j i l = cut_done job j i (leaves job.mode job.blade (position_at job i) (plate_at l j)) l

module _ (job : Job) where
  -- the walk comes to position i of plate type j with listing l; past the last position it comes to the next plate type
  pub data Reached : ℕ → ℕ → Listing → Type 0 where
    start : Reached 0 1 (walk_start job)
    skipped :
        {j i : ℕ} {l : Listing}
        → Reached j i l
        → j < length l.plates
        → i ≤ length (positions job)
        → may_cut job.mode (position_at job i) (plate_at l j) ≡ false
        → Reached j (suc i) l
    done :
        {j i : ℕ} {l : Listing}
        → Reached j i l
        → j < length l.plates
        → i ≤ length (positions job)
        → may_cut job.mode (position_at job i) (plate_at l j) ≡ true
        → Reached j (suc i) (after job j i l)
    row :
        {j i : ℕ} {l : Listing}
        → Reached j i l
        → j < length l.plates
        → length (positions job) < i
        → Reached (suc j) 1 l
