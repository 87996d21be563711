-- The records of a listing as words: four for a plate type, four for a cut, each at its place.
use Prim.Native.Nat.{ℕ, zero, suc, ◌+◌, ◌*◌}
use native.Mathlib.Omega.{arith}
use mathlib.Core.Path.{◌≡◌, refl, ◌∙◌, ap}
use mathlib.Core.List.{List, [], ◌∷◌, ◌++◌}
use lib.ListN.{length, get_or}
use Rattle.job.specs.Sizes.{words_of_plate, words_of_cut}
use Rattle.job.specs.Job.{Job, size_at}
use Rattle.job.proofs.Records.{words_last, words-length, words-read}
use Rattle.listing.specs.declared.plate.Plate.{Plate}
use Rattle.listing.specs.Plate.{plate, waste}
use Rattle.listing.specs.Listing.{Cut, no_cut}
use Rattle.listing.specs.Records.{plate_words_from, plate_words, cut_words}

-- the words of plate type j: of a size its cost last, of a residual type 0
abbrev pub record_of_plate : Job → ℕ → Plate → List ℕ
record_of_plate job j p = p.width ∷ p.height ∷ p.stage ∷ (size_at job j).cost ∷ []

abbrev pub record_of_cut : Cut → List ℕ
record_of_cut c = c.plate ∷ c.item ∷ c.top ∷ c.right ∷ []

-- how many words
from-length : (job : Job) (j : ℕ) (ps : List Plate) → length (plate_words_from job j ps) ≡ words_of_plate * length ps
unfolding plate_words_from
from-length job j [] = refl
from-length job j (p ∷ ps) = omega (arith, from-length job (suc j) ps)

pub plate-words-length : (job : Job) (ps : List Plate) → length (plate_words job ps) ≡ words_of_plate * length ps
unfolding plate_words
plate-words-length job ps = from-length job 0 ps

pub cut-words-length : (cs : List Cut) → length (cut_words cs) ≡ words_of_cut * length cs
unfolding cut_words
cut-words-length cs = words-length record_of_cut words_of_cut (λ c. refl) cs

-- one record more
from_last : (job : Job) (j : ℕ) (ps : List Plate) (p : Plate) → plate_words_from job j (ps ++ (p ∷ [])) ≡ plate_words_from job j ps ++ record_of_plate job (j + length ps) p
unfolding plate_words_from
from_last job j [] p = ap (λ (k : ℕ). record_of_plate job k p) (omega arith)
from_last job j (q ∷ ps) p =
    ap (λ (ws : List ℕ). q.width ∷ q.height ∷ q.stage ∷ (size_at job j).cost ∷ ws)
    (from_last job (suc j) ps p ∙ ap (λ (k : ℕ). plate_words_from job (suc j) ps ++ record_of_plate job k p) (omega arith))

pub plate-words-last : (job : Job) (ps : List Plate) (p : Plate) → plate_words job (ps ++ (p ∷ [])) ≡ plate_words job ps ++ record_of_plate job (length ps) p
unfolding plate_words
plate-words-last job ps p = from_last job 0 ps p ∙ ap (λ (k : ℕ). plate_words_from job 0 ps ++ record_of_plate job k p) (omega arith)

pub cut-words-last : (cs : List Cut) (c : Cut) → cut_words (cs ++ (c ∷ [])) ≡ cut_words cs ++ record_of_cut c
unfolding cut_words
cut-words-last cs c = words_last record_of_cut cs c

-- plate type j is read from words 4 j and the two after it, ..
from-read : (job : Job) (k : ℕ) (ps : List Plate) (j : ℕ) → plate (get_or (plate_words_from job k ps) (words_of_plate * j) 0) (get_or (plate_words_from job k ps) (words_of_plate * j + 1) 0) (get_or (plate_words_from job k ps) (words_of_plate * j + 2) 0) ≡ get_or ps j waste
unfolding plate_words_from
from-read job k [] j = refl
from-read job k (p ∷ ps) zero = refl
from-read job k (p ∷ ps) (suc j) =
    let a : words_of_plate * suc j ≡ suc (suc (suc (suc (words_of_plate * j)))) = omega arith in
    let b : words_of_plate * suc j + 1 ≡ suc (suc (suc (suc (words_of_plate * j + 1)))) = omega arith in
    let c : words_of_plate * suc j + 2 ≡ suc (suc (suc (suc (words_of_plate * j + 2)))) = omega arith in
    rw (c, b, a) (from-read job (suc k) ps j)

pub plate-words-read : (job : Job) (ps : List Plate) (j : ℕ) → plate (get_or (plate_words job ps) (words_of_plate * j) 0) (get_or (plate_words job ps) (words_of_plate * j + 1) 0) (get_or (plate_words job ps) (words_of_plate * j + 2) 0) ≡ get_or ps j waste
unfolding plate_words
plate-words-read job ps j = from-read job 0 ps j

-- the cut at place c is read from words 4 c and the three after it
pub cut-words-read :
    (cs : List Cut) (c : ℕ)
    → record {
      plate = get_or (cut_words cs) (words_of_cut * c) 0;
      item = get_or (cut_words cs) (words_of_cut * c + 1) 0;
      top = get_or (cut_words cs) (words_of_cut * c + 2) 0;
      right = get_or (cut_words cs) (words_of_cut * c + 3) 0;
    }
    ≡ get_or cs c no_cut
unfolding cut_words
cut-words-read cs c =
    let e : words_of_cut * c ≡ words_of_cut * c + 0 = omega arith in
    let at = words-read record_of_cut words_of_cut (λ x. refl) no_cut none cs c in
    let p : get_or (cut_words cs) (words_of_cut * c) 0 ≡ (get_or cs c no_cut).plate = ap (λ (k : ℕ). get_or (cut_words cs) k 0) e ∙ at 0 (omega arith) in
    let n : get_or (cut_words cs) (words_of_cut * c + 1) 0 ≡ (get_or cs c no_cut).item = at 1 (omega arith) in
    let t : get_or (cut_words cs) (words_of_cut * c + 2) 0 ≡ (get_or cs c no_cut).top = at 2 (omega arith) in
    let r : get_or (cut_words cs) (words_of_cut * c + 3) 0 ≡ (get_or cs c no_cut).right = at 3 (omega arith) in
    λ i. record { plate = p i; item = n i; top = t i; right = r i }
  where
    none : (k : ℕ) → get_or (record_of_cut no_cut) k 0 ≡ 0
    none zero = refl
    none (suc zero) = refl
    none (suc (suc zero)) = refl
    none (suc (suc (suc zero))) = refl
    none (suc (suc (suc (suc k)))) = refl
