-- Document 01, "Plates and cuts": records as 16-bit words, "a plate's width, height, stage; a cut's plate, item, top and right"; the item word
-- is "twice the type plus the turn" (request One); "the plate record carries the cost as a fourth word, 0 for residuals" (request Six).
use Rattle.std.specs.Prelude.{ℕ, suc}
use mathlib.Core.List.{List, [], ◌∷◌, flat_map}
use Rattle.job.specs.Job.{Job, size_at}
use Rattle.listing.specs.declared.plate.Plate.{Plate}
use Rattle.listing.specs.Listing.{Cut}

-- the plate types from number j on: past the sizes of the job the cost is 0
unfoldable pub plate_words_from : Job → ℕ → List Plate → List ℕ
plate_words_from job j [] = []
plate_words_from job j (p ∷ ps) = p.width ∷ p.height ∷ p.stage ∷ (size_at job j).cost ∷ plate_words_from job (suc j) ps

-- the plate types of a listing of the job
unfoldable pub plate_words : Job → List Plate → List ℕ
plate_words job ps = plate_words_from job 0 ps

unfoldable pub cut_words : List Cut → List ℕ
cut_words cs = flat_map (λ c. c.plate ∷ c.item ∷ c.top ∷ c.right ∷ []) cs
