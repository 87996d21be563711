-- Document 01, "Numbering", without the walk: what the listing of a job is, in plain statements, and that there is exactly one, the walk's.
use Rattle.std.specs.Prelude.{ℕ, suc, ◌≤◌, ◌<◌, ◌≡◌, ◌⊎◌, ◌↔◌, List, length}
use Rattle.job.specs.Verdict.{pass, ◌then◌}
use Rattle.job.specs.Job.{Job, job_of, job_words, admission}
use Rattle.job.specs.Admitted.{Sided, Stocked}
use Rattle.listing.specs.Listing.{Cut, Listing, going, stopped, cut_at, walk, model_row, listing_of}
use Rattle.listing.specs.Model.{Model}

-- the cut leaves plate type k, as its top or as its right
abbrev pub LeavesType : Cut → ℕ → Type 0
LeavesType c k = (c.top ≡ k) ⊎ (c.right ≡ k)

-- plate type k is left by a cut on a plate type with a lower number
pub record Left (l : Listing) (k : ℕ) : Type 0 where
  pub cut : ℕ
  pub listed : cut < length l.cuts
  pub lower : (cut_at l (suc cut)).plate < k
  pub either : LeavesType (cut_at l (suc cut)) k

-- plate type k is left by one of the first c cuts
abbrev pub Met : Listing → ℕ → ℕ → Type 0
Met l c k = (b : ℕ) × (b < c) × LeavesType (cut_at l (suc b)) k

-- residual types are numbered in the order in which the cuts first leave them, each cut "its top and after it its right": a cut leaves type k + 1
-- only where the residual type k has been left before. So the first that is left has the number that follows the sizes (request Six). Of cut suc c, which
-- has c cuts before it:
pub record AsMet (l : Listing) : Type 0 where
  pub top-after :
      (c k : ℕ)
      → c < length l.cuts
      → l.sizes ≤ k
      → (cut_at l (suc c)).top ≡ suc k
      → Met l c k
  pub right-after :
      (c k : ℕ)
      → c < length l.cuts
      → l.sizes ≤ k
      → (cut_at l (suc c)).right ≡ suc k
      → Met l c k ⊎ ((cut_at l (suc c)).top ≡ k)

-- l is the listing of the job
pub record IsListing (job : Job) (l : Listing) : Type 0 where
  -- within the limits: the sizes and residual types, no two of these alike; each permitted pair one cut, in rising order, with the numbers of what it leaves
  pub model : Model job l
  -- a plate type that is not a size is there only because a cut on a lower one leaves it
  pub each_left : (k : ℕ) → l.sizes ≤ k → k < length l.plates → Left l k
  -- and has its number by the order in which they are met
  pub as-met : AsMet l

-- a job has one listing at the most, and it is what the walk makes
pub record OneListing (job : Job) : Type 0 where
  pub only : (l l' : Listing) → IsListing job l → IsListing job l' → l ≡ l'
  pub walked : (l : Listing) → (walk job ≡ going l) ↔ IsListing job l
  pub listed : (l : Listing) → IsListing job l → listing_of job ≡ l
  -- the model row passes exactly where there is one; the walk is refused, with 6 or 7, exactly where there is none within the limits
  pub passed : (model_row job ≡ pass) ↔ ((l : Listing) × IsListing job l)
  pub refused : ((n : ℕ) × (walk job ≡ stopped n)) ↔ ((l : Listing) → IsListing job l → ⊥)

-- so it is for every job with 1 to 6 sizes whose item types have sides of at least 1, and thus for every job whose words are admitted
pub record ListingExact : Type 0 where
  pub sided : (job : Job) → Sided job → Stocked job → OneListing job
  pub admitted : (ws : List ℕ) → (job_words ws then admission (job_of ws)) ≡ pass → OneListing (job_of ws)
