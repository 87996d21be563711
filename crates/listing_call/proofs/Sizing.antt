-- The sizes written as the first plate types, on plain values: after j of them the buffer holds the first j.
use mathlib.Core.Path.{◌≡◌, refl, ap, subst, sym, ◌∙◌}
use Prim.Native.Nat.{ℕ, zero, suc, ◌+◌, ◌≤◌, ◌<◌}
use mathlib.Core.List.{List, [], ◌∷◌, ◌++◌, map}
use native.Mathlib.Omega.{arith}
use native.Mathlib.Numerals.{add-one}
use lib.ListN.{length, get_or, take, replicate, length-map}
use lib.Seq.{take-suc, take_all, length-take-le}
use Rattle.job.specs.Sizes.{max_plates}
use Rattle.job.specs.declared.size.Size.{Size}
use Rattle.job.specs.Job.{Job, no_size, size_at}
use Rattle.listing.specs.declared.plate.Plate.{Plate}
use Rattle.listing.specs.Plate.{waste, board}
use Rattle.listing.specs.Records.{plate_words}
use Rattle.listing.specs.Holds.{Holds}
use Rattle.listing_index.specs.Index.{index_size}
use Rattle.listing_index.proofs.Chains.{index-empty}
use Rattle.listing_positions.specs.Least.{least_of}
use Rattle.listing_call.specs.Steps.{Known}

-- the first j sizes, as plate types
abbrev pub first_sizes : Job → ℕ → List Plate
first_sizes job j = map board (take j job.sizes)

map_last : (zs : List Size) (z : Size) → map board (zs ++ z ∷ []) ≡ map board zs ++ board z ∷ []
map_last [] z = refl
map_last (y ∷ zs) z = ap (λ (ps : List Plate). board y ∷ ps) (map_last zs z)

module _ (job : Job) (j : ℕ) where
  pub first-length : j ≤ length job.sizes → length (first_sizes job j) ≡ j
  first-length h = length-map (take j job.sizes) board ∙ length-take-le j job.sizes h

  -- one size more
  pub first_next : {plates : List ℕ} {z : Size} → j < length job.sizes → z ≡ size_at job j → Holds plates (plate_words job (first_sizes job j ++ board z ∷ [])) → Holds plates (plate_words job (first_sizes job (j + 1)))
  unfolding size_at
  first_next {plates} l e h =
      let next : first_sizes job j ++ board (size_at job j) ∷ [] ≡ first_sizes job (j + 1) = sym (rw (add-one j, take-suc job.sizes j no_size l) (map_last (take j job.sizes) (size_at job j))) in
      subst (λ (ps : List Plate). Holds plates (plate_words job ps)) (ap (λ (z : Size). first_sizes job j ++ board z ∷ []) e ∙ next) h

  -- all of them
  pub first-all : length job.sizes ≤ j → first_sizes job j ≡ map board job.sizes
  first-all h = ap (map board) (take_all j job.sizes h)

-- the sizes as plate types, read
size-at : (zs : List Size) (j : ℕ) → j < length zs → get_or (map board zs) j waste ≡ board (get_or zs j no_size)
size-at [] j h = absurd (omega arith)
size-at (z ∷ zs) zero h = refl
size-at (z ∷ zs) (suc j) h = size-at zs j (omega arith)

-- where the walk begins, the index is empty and the least sides are those of the sizes
pub sizes-known : (job : Job) {leasts : List ℕ} (t : ℕ) → length job.sizes ≡ t → t ≤ max_plates → ((j : ℕ) → j < t → get_or leasts j 0 ≡ least_of job (board (size_at job j))) → Known job (map board job.sizes) (replicate index_size 0) leasts
unfolding size_at
sizes-known job t e few f =
    let n : length (map board job.sizes) ≡ length job.sizes = length-map job.sizes board in
    record {
      of-index = index-empty (length job.sizes) (map board job.sizes) n (omega arith);
      of-leasts = λ j l. f j (omega arith) ∙ ap (least_of job) (sym (size-at job.sizes j (omega arith)));
    }
