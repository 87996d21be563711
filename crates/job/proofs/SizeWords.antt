-- Request Six, the job as words: how many sizes they hold, and where each stands.
use Prim.Native.Nat.{ℕ, zero, suc, ◌+◌, ◌*◌, ◌≤◌, ◌<◌}
use native.Mathlib.Omega.{arith}
use mathlib.Core.Path.{◌≡◌, refl, sym, ◌∙◌, ap}
use mathlib.Core.List.{List, [], ◌∷◌}
use lib.ListN.{length, get_or, take, drop, length-drop}
use lib.Seq.{get_or-drop, get_or-take, length-take-le}
use Rattle.job.specs.Sizes.{words_of_head, words_of_size, words_before, RecordIn}
use Rattle.job.specs.Job.{size, no_size, size_at, sizes_of, job_of}

-- the number of sizes of their words
list_length : (t : ℕ) (ws : List ℕ) → length ws ≡ words_of_size * t → length (sizes_of ws) ≡ t
unfolding sizes_of
list_length zero [] h = refl
list_length (suc t) [] h = absurd (omega arith)
list_length t (w ∷ []) h = absurd (omega arith)
list_length t (w ∷ v ∷ []) h = absurd (omega arith)
list_length zero (w ∷ v ∷ c ∷ ws) h = absurd (omega arith)
list_length (suc t) (w ∷ v ∷ c ∷ ws) h = ap suc (list_length t ws (omega arith))

-- size j, from 0, of the words
size-words :
    (ws : List ℕ) (j : ℕ)
    → RecordIn words_of_size j ws
    → get_or (sizes_of ws) j no_size ≡ size (get_or ws (words_of_size * j) 0) (get_or ws (words_of_size * j + 1) 0) (get_or ws (words_of_size * j + 2) 0)
unfolding sizes_of
size-words [] j h = absurd (omega arith)
size-words (w ∷ []) j h = absurd (omega arith)
size-words (w ∷ v ∷ []) j h = absurd (omega arith)
size-words (w ∷ v ∷ c ∷ ws) zero h = refl
size-words (w ∷ v ∷ c ∷ ws) (suc j) h =
    let a : words_of_size * suc j ≡ suc (suc (suc (words_of_size * j))) = omega arith in
    let b : words_of_size * suc j + 1 ≡ suc (suc (suc (words_of_size * j + 1))) = omega arith in
    let d : words_of_size * suc j + 2 ≡ suc (suc (suc (words_of_size * j + 2))) = omega arith in
    rw (d, b, a) (size-words ws j (omega arith))

-- words that reach as far as the last of t sizes
module _ (ws : List ℕ) (room : words_before (get_or ws 2 0) ≤ length ws) where
  -- the words of the sizes, by themselves
  abbrev part : List ℕ
  part = take (words_of_size * get_or ws 2 0) (drop words_of_head ws)

  part_length : length part ≡ words_of_size * get_or ws 2 0
  part_length = length-take-le (words_of_size * get_or ws 2 0) (drop words_of_head ws) (omega (arith, length-drop words_of_head ws))

  -- they hold t sizes
  pub sizes-length : length (job_of ws).sizes ≡ get_or ws 2 0
  unfolding job_of
  sizes-length = list_length (get_or ws 2 0) part part_length

  -- size j by its words
  pub size_at-words :
      (j : ℕ)
      → j < get_or ws 2 0
      → size (get_or ws (words_of_head + words_of_size * j) 0) (get_or ws (words_of_head + words_of_size * j + 1) 0) (get_or ws (words_of_head + words_of_size * j + 2) 0)
      ≡ size_at (job_of ws) j
  unfolding job_of size_at
  size_at-words j h =
      let at : (k : ℕ) → k < words_of_size * get_or ws 2 0 → get_or part k 0 ≡ get_or ws (words_of_head + k) 0 = λ k p. get_or-take (words_of_size * get_or ws 2 0) (drop words_of_head ws) k 0 p ∙ get_or-drop words_of_head ws k 0 in
      let a = at (words_of_size * j) (omega arith) in
      let b = at (words_of_size * j + 1) (omega arith) in
      let c = at (words_of_size * j + 2) (omega arith) in
      let e : words_of_head + (words_of_size * j + 1) ≡ words_of_head + words_of_size * j + 1 = omega arith in
      let f : words_of_head + (words_of_size * j + 2) ≡ words_of_head + words_of_size * j + 2 = omega arith in
      sym (size-words part j (omega (arith, part_length)) ∙ simp (a, b, c, e, f))
