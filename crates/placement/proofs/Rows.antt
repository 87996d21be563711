-- The placements of words, read one by one: they are the whole lines of the words.
use mathlib.Core.Path.{◌≡◌, refl, ap, ◌∙◌}
use Prim.Native.Nat.{ℕ, zero, suc, ◌+◌, ◌*◌, ◌≤◌, ◌<◌}
use mathlib.Core.List.{List, [], ◌∷◌, ◌++◌, map}
use native.Mathlib.Omega.{arith}
use native.Mathlib.Numerals.{add-one}
use lib.ListN.{length, get_or, take, drop, drop_of_length-le, length-map}
use lib.Seq.{take-suc, drop-cons}
use Rattle.job.specs.Sizes.{words_of_placement, RecordIn}
use Rattle.layouts.specs.Placement.{no_placement}
use Rattle.layouts.specs.Lines.{Line, lines_in, rows_of}
use Rattle.placement.specs.PlacementRead.{placement_at, line_at, no_line}

-- the whole lines of words: as many as the words have room for, ..
pub length-lines : (n : ℕ) (ws : List ℕ) → words_of_placement * n ≤ length ws → length ws < words_of_placement * n + words_of_placement → length (lines_in ws) ≡ n
unfolding lines_in
length-lines zero [] h l = refl
length-lines zero (b ∷ []) h l = refl
length-lines zero (b ∷ z ∷ []) h l = refl
length-lines zero (b ∷ z ∷ s ∷ []) h l = refl
length-lines zero (b ∷ z ∷ s ∷ k ∷ []) h l = refl
length-lines zero (b ∷ z ∷ s ∷ k ∷ p ∷ []) h l = refl
length-lines zero (b ∷ z ∷ s ∷ k ∷ p ∷ i ∷ []) h l = refl
length-lines zero (b ∷ z ∷ s ∷ k ∷ p ∷ i ∷ x ∷ []) h l = refl
length-lines zero (b ∷ z ∷ s ∷ k ∷ p ∷ i ∷ x ∷ y ∷ []) h l = refl
length-lines zero (b ∷ z ∷ s ∷ k ∷ p ∷ i ∷ x ∷ y ∷ t ∷ ws) h l = absurd (omega arith)
length-lines (suc n) [] h l = absurd (omega arith)
length-lines (suc n) (b ∷ []) h l = absurd (omega arith)
length-lines (suc n) (b ∷ z ∷ []) h l = absurd (omega arith)
length-lines (suc n) (b ∷ z ∷ s ∷ []) h l = absurd (omega arith)
length-lines (suc n) (b ∷ z ∷ s ∷ k ∷ []) h l = absurd (omega arith)
length-lines (suc n) (b ∷ z ∷ s ∷ k ∷ p ∷ []) h l = absurd (omega arith)
length-lines (suc n) (b ∷ z ∷ s ∷ k ∷ p ∷ i ∷ []) h l = absurd (omega arith)
length-lines (suc n) (b ∷ z ∷ s ∷ k ∷ p ∷ i ∷ x ∷ []) h l = absurd (omega arith)
length-lines (suc n) (b ∷ z ∷ s ∷ k ∷ p ∷ i ∷ x ∷ y ∷ []) h l = absurd (omega arith)
length-lines (suc n) (b ∷ z ∷ s ∷ k ∷ p ∷ i ∷ x ∷ y ∷ t ∷ ws) h l = ap suc (length-lines n ws (omega arith) (omega arith))

-- .. each by its words
pub line_read : (ws : List ℕ) (c : ℕ) → RecordIn words_of_placement c ws → get_or (lines_in ws) c no_line ≡ line_at ws c
unfolding lines_in
line_read [] c h = absurd (omega arith)
line_read (b ∷ []) c h = absurd (omega arith)
line_read (b ∷ z ∷ []) c h = absurd (omega arith)
line_read (b ∷ z ∷ s ∷ []) c h = absurd (omega arith)
line_read (b ∷ z ∷ s ∷ k ∷ []) c h = absurd (omega arith)
line_read (b ∷ z ∷ s ∷ k ∷ p ∷ []) c h = absurd (omega arith)
line_read (b ∷ z ∷ s ∷ k ∷ p ∷ i ∷ []) c h = absurd (omega arith)
line_read (b ∷ z ∷ s ∷ k ∷ p ∷ i ∷ x ∷ []) c h = absurd (omega arith)
line_read (b ∷ z ∷ s ∷ k ∷ p ∷ i ∷ x ∷ y ∷ []) c h = absurd (omega arith)
line_read (b ∷ z ∷ s ∷ k ∷ p ∷ i ∷ x ∷ y ∷ t ∷ ws) zero h = refl
line_read (b ∷ z ∷ s ∷ k ∷ p ∷ i ∷ x ∷ y ∷ t ∷ ws) (suc c) h = line_read ws c (omega arith) ∙ shifted
  where
    more : (j : ℕ) → words_of_placement * suc c + j ≡ suc (suc (suc (suc (suc (suc (suc (suc (suc (words_of_placement * c + j)))))))))
    more j = omega arith

    first : words_of_placement * suc c ≡ suc (suc (suc (suc (suc (suc (suc (suc (suc (words_of_placement * c)))))))))
    first = omega arith

    shifted : line_at ws c ≡ line_at (b ∷ z ∷ s ∷ k ∷ p ∷ i ∷ x ∷ y ∷ t ∷ ws) (suc c)
    shifted = rw (more 1, more 2, more 3, more 4, more 5, more 6, more 7, more 8, first)

-- the placement of a line that was read is that of the line there
pub read-placed : {l m : Line} → l ≡ m → l.placement ≡ m.placement
read-placed e = ap (λ (l : Line). l.placement) e

-- their placements: as many, and each that of its line
pub length-rows : (n : ℕ) (ws : List ℕ) → words_of_placement * n ≤ length ws → length ws < words_of_placement * n + words_of_placement → length (rows_of ws) ≡ n
unfolding rows_of
length-rows n ws h l = length-map (lines_in ws) (λ r. r.placement) ∙ length-lines n ws h l

placements : (ls : List Line) (c : ℕ) → get_or (map (λ (r : Line). r.placement) ls) c no_placement ≡ (get_or ls c no_line).placement
placements [] c = refl
placements (l ∷ ls) zero = refl
placements (l ∷ ls) (suc c) = placements ls c

pub row_read : (ws : List ℕ) (c : ℕ) → RecordIn words_of_placement c ws → get_or (rows_of ws) c no_placement ≡ placement_at ws c
unfolding rows_of
row_read ws c h = placements (lines_in ws) c ∙ ap (λ (r : Line). r.placement) (line_read ws c h)

-- words that are n whole lines: their number, ..
pub whole-lines : (ws : List ℕ) (n : ℕ) → length ws ≡ words_of_placement * n → length (lines_in ws) ≡ n
whole-lines ws n e = length-lines n ws (omega arith) (omega arith)

pub whole-rows : (ws : List ℕ) (n : ℕ) → length ws ≡ words_of_placement * n → length (rows_of ws) ≡ n
whole-rows ws n e = length-rows n ws (omega arith) (omega arith)

-- .. those from the one behind c others on, the first ones with one more, ..
pub rows-from : (ws : List ℕ) (n c : ℕ) → length ws ≡ words_of_placement * n → c < n → drop c (rows_of ws) ≡ placement_at ws c ∷ drop (c + 1) (rows_of ws)
rows-from ws n c e h =
    let l : length (rows_of ws) ≡ n = whole-rows ws n e in
    rw (add-one c, drop-cons (rows_of ws) c no_placement (omega arith), row_read ws c (omega arith))

pub rows_take : (ws : List ℕ) (n c : ℕ) → length ws ≡ words_of_placement * n → c < n → take (c + 1) (rows_of ws) ≡ take c (rows_of ws) ++ placement_at ws c ∷ []
rows_take ws n c e h =
    let l : length (rows_of ws) ≡ n = whole-rows ws n e in
    rw (add-one c, take-suc (rows_of ws) c no_placement (omega arith), row_read ws c (omega arith))

-- .. and none past the last
pub rows_end : (ws : List ℕ) (n c : ℕ) → length ws ≡ words_of_placement * n → n ≤ c → drop c (rows_of ws) ≡ []
rows_end ws n c e h =
    let l : length (rows_of ws) ≡ n = whole-rows ws n e in
    drop_of_length-le (rows_of ws) {i = c} (omega arith)
