-- The job as words: how many item types they hold, and where each stands.
use Prim.Native.Nat.{ℕ, zero, suc, ◌+◌, ◌*◌, ◌≤◌}
use native.Mathlib.Omega.{arith}
use mathlib.Core.Path.{◌≡◌, refl, sym, ◌∙◌, ap}
use mathlib.Core.List.{List, [], ◌∷◌}
use lib.ListN.{length, get_or, drop, length-drop}
use lib.Seq.{get_or-drop}
use Rattle.job.specs.Sizes.{words_of_item, words_before, job_size, word_of_type, RecordIn}
use Rattle.job.specs.Job.{item, no_item, item_at, items_of, job_of}

-- the number of item types of their words
types-length : (n : ℕ) (ws : List ℕ) → length ws ≡ words_of_item * n → length (items_of ws) ≡ n
unfolding items_of
types-length zero [] h = refl
types-length (suc n) [] h = absurd (omega arith)
types-length n (w ∷ []) h = absurd (omega arith)
types-length n (w ∷ v ∷ []) h = absurd (omega arith)
types-length n (w ∷ v ∷ d ∷ []) h = absurd (omega arith)
types-length zero (w ∷ v ∷ d ∷ l ∷ ws) h = absurd (omega arith)
types-length (suc n) (w ∷ v ∷ d ∷ l ∷ ws) h = ap suc (types-length n ws (omega arith))

-- item type i, from 0, of the words
item-words :
    (ws : List ℕ) (i : ℕ)
    → RecordIn words_of_item i ws
    → get_or (items_of ws) i no_item
    ≡ item (get_or ws (words_of_item * i) 0) (get_or ws (words_of_item * i + 1) 0) (get_or ws (words_of_item * i + 2) 0) (get_or ws (words_of_item * i + 3) 0)
unfolding items_of
item-words [] i h = absurd (omega arith)
item-words (w ∷ []) i h = absurd (omega arith)
item-words (w ∷ v ∷ []) i h = absurd (omega arith)
item-words (w ∷ v ∷ d ∷ []) i h = absurd (omega arith)
item-words (w ∷ v ∷ d ∷ l ∷ ws) zero h = refl
item-words (w ∷ v ∷ d ∷ l ∷ ws) (suc i) h =
    let a : words_of_item * suc i ≡ suc (suc (suc (suc (words_of_item * i)))) = omega arith in
    let b : words_of_item * suc i + 1 ≡ suc (suc (suc (suc (words_of_item * i + 1)))) = omega arith in
    let c : words_of_item * suc i + 2 ≡ suc (suc (suc (suc (words_of_item * i + 2)))) = omega arith in
    let e : words_of_item * suc i + 3 ≡ suc (suc (suc (suc (words_of_item * i + 3)))) = omega arith in
    rw (e, c, b, a) (item-words ws i (omega arith))

-- words of t sizes and n types hold n types
pub items-length : (ws : List ℕ) (n : ℕ) → length ws ≡ job_size (get_or ws 2 0) n → length (job_of ws).items ≡ n
unfolding job_of
items-length ws n whole =
    let before = words_before (get_or ws 2 0) in
    let h : length (drop before ws) ≡ words_of_item * n = length-drop before ws ∙ omega arith in
    types-length n (drop before ws) h

-- words that reach as far as type n hold at least n types
types-room : (n : ℕ) (ws : List ℕ) → words_of_item * n ≤ length ws → n ≤ length (items_of ws)
unfolding items_of
types-room zero ws h = omega arith
types-room (suc n) [] h = absurd (omega arith)
types-room (suc n) (w ∷ []) h = absurd (omega arith)
types-room (suc n) (w ∷ v ∷ []) h = absurd (omega arith)
types-room (suc n) (w ∷ v ∷ d ∷ []) h = absurd (omega arith)
types-room (suc n) (w ∷ v ∷ d ∷ l ∷ ws) h = omega (arith, types-room n ws (omega arith))

pub items-room : (ws : List ℕ) (n : ℕ) → job_size (get_or ws 2 0) n ≤ length ws → n ≤ length (job_of ws).items
unfolding job_of
items-room ws n h = types-room n (drop (words_before (get_or ws 2 0)) ws) (rw length-drop (omega arith))

-- item type i of a job, from 1, by its words
pub item_at-words :
    (ws : List ℕ) (i : ℕ)
    → 1 ≤ i
    → job_size (get_or ws 2 0) i ≤ length ws
    → let at = word_of_type (get_or ws 2 0) i in
    item (get_or ws at 0) (get_or ws (at + 1) 0) (get_or ws (at + 2) 0) (get_or ws (at + 3) 0) ≡ item_at (job_of ws) i
unfolding item_at job_of
item_at-words ws zero h l = absurd (omega arith)
item_at-words ws (suc j) h l =
    let before : ℕ = words_before (get_or ws 2 0) in
    let at : ℕ = word_of_type (get_or ws 2 0) (suc j) in
    let word : (k m : ℕ) → before + k ≡ m → get_or (drop before ws) k 0 ≡ get_or ws m 0 = λ k m e. get_or-drop before ws k 0 ∙ ap (λ (x : ℕ). get_or ws x 0) e in
    let a = word (words_of_item * j) at (omega arith) in
    let b = word (words_of_item * j + 1) (at + 1) (omega arith) in
    let c = word (words_of_item * j + 2) (at + 2) (omega arith) in
    let d = word (words_of_item * j + 3) (at + 3) (omega arith) in
    sym (item-words (drop before ws) j (rw length-drop (omega arith)) ∙ (λ m. item (a m) (b m) (c m) (d m)))
