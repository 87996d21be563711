-- The lines 1, 10 and 2 of job words: one more of them, how many they are, and how many bytes.
use Prim.Native.Nat.{ℕ, suc, ◌+◌, ◌-◌, ◌*◌, ◌≤◌}
use native.Mathlib.Omega.{arith}
use mathlib.Core.Path.{◌≡◌, refl, sym, ap, ◌∙◌}
use mathlib.Core.List.{List, [], ◌∷◌, ◌++◌, append_assoc, append-nil}
use lib.ListN.{length, take, drop, length-append, length-drop, drop_of_length-le}
use lib.Seq.{drop-append-le, take-append-le, take_all, length-take-le}
use Rattle.job.specs.Sizes.{words_of_head, words_of_size, words_of_item, words_before, job_size}
use Rattle.texts.specs.Widths.{job_line_bytes, size_line_bytes, type_line_bytes}
use Rattle.texts.specs.JobLines.{board_sizes}
use Rattle.texts.specs.TextOf.{size_rows, item_rows, job_rows}
use Rattle.texts.proofs.WordGroups.{Threes, no_size, one_size, threes, Fours, no-type, one_type, fours}
use Rattle.texts.proofs.Lists.{bytes_of, bytes-cons, bytes-append}
use Rattle.texts.proofs.JobLaws.{size_words, type_words, sizes-same, size_words-append, type_words-append}

-- the lines 10 of one part of the sizes' words after another
size_rows-append : (j : ℕ) {ws : List ℕ} {k : ℕ} → Threes ws k → (us : List ℕ) → size_rows j (ws ++ us) ≡ size_rows j ws ++ size_rows (j + k) us
unfolding size_rows
size_rows-append j no_size us = ap (λ (i : ℕ). size_rows i us) (omega arith)
size_rows-append j (one_size {a = a} {b = b} {c = c} {k = k} t) us =
    let e : j + suc k ≡ suc j + k = omega arith in
    rw e (ap (λ (l : List (List ℕ)). (10 ∷ j ∷ a ∷ b ∷ c ∷ []) ∷ l) (size_rows-append (suc j) t us))

-- the lines 2 of one part of the types' words after another
item_rows-append : (i : ℕ) {ws : List ℕ} {k : ℕ} → Fours ws k → (us : List ℕ) → item_rows i (ws ++ us) ≡ item_rows i ws ++ item_rows (i + k) us
unfolding item_rows
item_rows-append i no-type us = ap (λ (j : ℕ). item_rows j us) (omega arith)
item_rows-append i (one_type {a = a} {b = b} {c = c} {d = d} {k = k} t) us =
    let e : i + suc k ≡ suc i + k = omega arith in
    rw e (ap (λ (l : List (List ℕ)). (2 ∷ i ∷ a ∷ b ∷ c ∷ d ∷ []) ∷ l) (item_rows-append (suc i) t us))

-- the words so far are those of the head and of k sizes: line 1 and the lines 10
pub job_rows-sizes : (k : ℕ) (ws : List ℕ) → length ws ≡ words_before k → k ≤ board_sizes ws → job_rows ws ≡ (1 ∷ take words_of_head ws) ∷ size_rows 0 (drop words_of_head ws)
unfolding job_rows item_rows
job_rows-sizes k ws e h =
    let l : length (drop words_of_head ws) ≡ words_of_size * k = length-drop words_of_head ws ∙ omega arith in
    let t : size_words ws ≡ drop words_of_head ws = take_all (words_of_size * board_sizes ws) (drop words_of_head ws) (omega arith) in
    let d : type_words ws ≡ [] = drop_of_length-le ws {i = words_before (board_sizes ws)} (omega arith) in
    rw (t, d) (ap (λ (l : List (List ℕ)). (1 ∷ take words_of_head ws) ∷ l) (append-nil (size_rows 0 (drop words_of_head ws))))

-- one line 10 more
pub size_rows-more :
    (k : ℕ) (ws : List ℕ) (w h c : ℕ)
    → length ws ≡ words_before k
    → suc k ≤ board_sizes ws
    → job_rows (ws ++ (w ∷ h ∷ c ∷ [])) ≡ job_rows ws ++ ((10 ∷ k ∷ w ∷ h ∷ c ∷ []) ∷ [])
unfolding size_rows
size_rows-more k ws w h c e u =
    let vs : List ℕ = w ∷ h ∷ c ∷ [] in
    let l : length (drop words_of_head ws) ≡ words_of_size * k = length-drop words_of_head ws ∙ omega arith in
    let n : length (ws ++ vs) ≡ words_before (suc k) = length-append ws vs ∙ omega arith in
    let same = sizes-same ws vs (omega arith) in
    let z : 0 + k ≡ k = omega arith in
    let q = size_rows-append 0 (threes k (drop words_of_head ws) l) vs in
    job_rows-sizes (suc k) (ws ++ vs) n (omega arith)
    ∙ rw (take-append-le words_of_head ws vs (omega arith), drop-append-le words_of_head ws vs (omega arith), job_rows-sizes k ws e (omega arith))
    (ap (λ (l : List (List ℕ)). (1 ∷ take words_of_head ws) ∷ l) (rw z at q))

-- one line 2 more
pub job_rows-more :
    (k : ℕ) (ws : List ℕ) (w h d v : ℕ)
    → length ws ≡ job_size (board_sizes ws) k
    → job_rows (ws ++ (w ∷ h ∷ d ∷ v ∷ [])) ≡ job_rows ws ++ ((2 ∷ suc k ∷ w ∷ h ∷ d ∷ v ∷ []) ∷ [])
unfolding job_rows item_rows
job_rows-more k ws w h d v e =
    let vs : List ℕ = w ∷ h ∷ d ∷ v ∷ [] in
    let l : length (type_words ws) ≡ words_of_item * k = length-drop (words_before (board_sizes ws)) ws ∙ omega arith in
    let s : 1 + k ≡ suc k = omega arith in
    let q = item_rows-append 1 (fours k (type_words ws) l) vs in
    let rows : List (List ℕ) = size_rows 0 (size_words ws) in
    rw (take-append-le words_of_head ws vs (omega arith), size_words-append ws vs (omega arith), type_words-append ws vs (omega arith))
    (ap (λ (l : List (List ℕ)). (1 ∷ take words_of_head ws) ∷ l)
    (ap (λ (l : List (List ℕ)). rows ++ l) (rw s at q) ∙ sym (append_assoc rows (item_rows 1 (type_words ws)) ((2 ∷ suc k ∷ w ∷ h ∷ d ∷ v ∷ []) ∷ []))))

-- 46 bytes for each line 10
size_rows-size : (j : ℕ) {ws : List ℕ} {k : ℕ} → Threes ws k → (length (size_rows j ws) ≡ k) × (length (bytes_of (size_rows j ws)) ≡ size_line_bytes * k)
unfolding size_rows mathlib.Core.List.flat_map
size_rows-size j no_size = (refl, refl)
size_rows-size j (one_size {a = a} {b = b} {c = c} {ws = ws} t) =
    let r = size_rows-size (suc j) t in
    (ap suc r.0, bytes-cons (10 ∷ j ∷ a ∷ b ∷ c ∷ []) (size_rows (suc j) ws) ∙ omega arith)

-- 55 bytes for each line 2
item_rows-size : (i : ℕ) {ws : List ℕ} {k : ℕ} → Fours ws k → (length (item_rows i ws) ≡ k) × (length (bytes_of (item_rows i ws)) ≡ type_line_bytes * k)
unfolding item_rows mathlib.Core.List.flat_map
item_rows-size i no-type = (refl, refl)
item_rows-size i (one_type {a = a} {b = b} {c = c} {d = d} {ws = ws} t) =
    let r = item_rows-size (suc i) t in
    (ap suc r.0, bytes-cons (2 ∷ i ∷ a ∷ b ∷ c ∷ d ∷ []) (item_rows (suc i) ws) ∙ omega arith)

-- line 1, of 55 bytes, one line for each size, of 46, and one for each type, of 55
pub job_rows-size :
    (k : ℕ) (ws : List ℕ)
    → length ws ≡ job_size (board_sizes ws) k
    → (length (job_rows ws) ≡ suc (board_sizes ws + k))
    × (length (bytes_of (job_rows ws)) ≡ job_line_bytes + size_line_bytes * board_sizes ws + type_line_bytes * k)
unfolding job_rows
job_rows-size k ws h =
    let d : length (drop words_of_head ws) ≡ length ws - words_of_head = length-drop words_of_head ws in
    let z = size_rows-size 0 (threes (board_sizes ws) (size_words ws) (length-take-le (words_of_size * board_sizes ws) (drop words_of_head ws) (omega arith))) in
    let r = item_rows-size 1 (fours k (type_words ws) (length-drop (words_before (board_sizes ws)) ws ∙ omega arith)) in
    let t : length (take words_of_head ws) ≡ words_of_head = length-take-le words_of_head ws (omega arith) in
    let sizes : List (List ℕ) = size_rows 0 (size_words ws) in
    let items : List (List ℕ) = item_rows 1 (type_words ws) in (
      ap suc (length-append sizes items ∙ omega arith),
      bytes-cons (1 ∷ take words_of_head ws) (sizes ++ items) ∙ omega (arith, bytes-append sizes items),
    )

-- before all lines 10 are there: line 1 and one line for each size so far
pub job_rows-before :
    (k : ℕ) (ws : List ℕ)
    → length ws ≡ words_before k
    → k ≤ board_sizes ws
    → (length (job_rows ws) ≡ suc k) × (length (bytes_of (job_rows ws)) ≡ job_line_bytes + size_line_bytes * k)
job_rows-before k ws e h =
    let z = size_rows-size 0 (threes k (drop words_of_head ws) (length-drop words_of_head ws ∙ omega arith)) in
    let t : length (take words_of_head ws) ≡ words_of_head = length-take-le words_of_head ws (omega arith) in
    rw (job_rows-sizes k ws e h)
    (ap suc z.0, bytes-cons (1 ∷ take words_of_head ws) (size_rows 0 (drop words_of_head ws)) ∙ omega arith)
