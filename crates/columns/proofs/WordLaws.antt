-- The laws of words: the word of eight blanks, and a text's eight bytes as one.
use Prim.Native.Nat.{ℕ, zero, suc, ◌+◌, ◌*◌, ◌%◌, ◌≤◌, ◌<◌}
use mathlib.Core.Path.{◌≡◌, refl, sym, ap, ◌∙◌, subst}
use mathlib.Core.Logic.{⊎_elim}
use mathlib.Core.List.{List, [], ◌∷◌, ◌++◌}
use native.Mathlib.Nat.{add-suc, add-zero}
use native.Mathlib.Numerals.{add-one}
use native.Mathlib.Omega.{arith}
use lib.ListN.{length, get_or, take, drop, replicate, replicate-append-replicate, length-take, length-drop}
use lib.Seq.{drop-cons}
use Rattle.columns.specs.Widths.{front_bytes, lead_bytes}
use Rattle.columns.specs.Words.{word_of, Bytes, Blank, blank_word, BlanksByWord}
use Rattle.columns.specs.Columns.{Column, Columns}
use Rattle.columns.proofs.GroupLaws.{mark-cases, column-is, columns-none, columns-more}

-- words of as many bytes are equal only where the bytes are
word-only : (xs ys : List ℕ) → length xs ≡ length ys → Bytes xs → Bytes ys → word_of xs ≡ word_of ys → xs ≡ ys
unfolding word_of Bytes
word-only [] [] l p q e = refl
word-only [] (y ∷ ys) l p q e = absurd (omega arith)
word-only (x ∷ xs) [] l p q e = absurd (omega arith)
word-only (x ∷ xs) (y ∷ ys) l p q e =
    let h : x ≡ y = omega arith in
    let t : word_of xs ≡ word_of ys = omega arith in
    cc (h, word-only xs ys (omega arith) p.1 q.1 t)

-- blank bytes are so many times 32
blank-bytes : (bs : List ℕ) (k : ℕ) → length bs ≡ k → Blank bs → bs ≡ replicate k 32
unfolding Blank
blank-bytes [] zero l h = refl
blank-bytes [] (suc k) l h = absurd (omega arith)
blank-bytes (b ∷ bs) zero l h = absurd (omega arith)
blank-bytes (b ∷ bs) (suc k) l h = cc (h.0, blank-bytes bs k (omega arith) h.1)

eight-blanks : (Bytes (replicate lead_bytes 32)) × (Blank (replicate lead_bytes 32))
unfolding Bytes Blank
eight-blanks = (omega arith, (refl, (refl, (refl, (refl, (refl, (refl, (refl, (refl, tt)))))))))

blanks-word : word_of (replicate lead_bytes 32) ≡ blank_word
unfolding word_of
blanks-word = refl

-- document 02, Three: the word of eight bytes is that of eight blanks exactly if every byte is blank
pub blanks-by-word : BlanksByWord
blanks-by-word bs l p =
    (λ e. let q = word-only bs (replicate lead_bytes 32) l p eight-blanks.0 (e ∙ sym blanks-word) in rw q eight-blanks.1, λ h. rw (blank-bytes bs lead_bytes l h) blanks-word)

-- the first four of eight bytes are blank where they are so in the word
pub four-blanks : (bs : List ℕ) → length bs ≡ lead_bytes → Bytes bs → word_of bs % 0x1_0000_0000 ≡ 0x2020_2020 → Blank (take front_bytes bs)
unfolding word_of Bytes Blank
four-blanks [] l p e = absurd (omega arith)
four-blanks (a ∷ []) l p e = absurd (omega arith)
four-blanks (a ∷ b ∷ []) l p e = absurd (omega arith)
four-blanks (a ∷ b ∷ c ∷ []) l p e = absurd (omega arith)
four-blanks (a ∷ b ∷ c ∷ d ∷ bs) l p e = (omega arith, (omega arith, (omega arith, (omega arith, tt))))

-- columns that are all blank are those of 0
pub columns-blank : (bs : List ℕ) (k : ℕ) → length bs ≡ k → Blank bs → Columns bs k 0
columns-blank bs k l h = rw (blank-bytes bs k l h) (blanks k)
  where
    b : ℕ
    b = 32

    blank : Column 0 b 0
    blank = column-is 0 32 0 (omega arith) (omega arith) (⊎_elim (λ w. omega arith) (λ w. omega arith) (mark-cases 0))

    blanks : (m : ℕ) → Columns (replicate m b) m 0
    blanks zero = columns-none
    blanks (suc m) =
        let e : replicate m b ++ (b ∷ []) ≡ replicate (suc m) b = replicate-append-replicate m 1 b ∙ ap (λ (k : ℕ). replicate k b) (add-one m) in
        subst (λ (bs : List ℕ). Columns bs (suc m) 0) e (columns-more (replicate m b) m 0 b 0 (blanks m) blank)

-- ---- the bytes of a text

pub part_bytes : (s : List ℕ) (at k : ℕ) → at + k ≤ length s → ((i : ℕ) → get_or s i 0 < 256) → Bytes (take k (drop at s))
unfolding Bytes
part_bytes s at zero h g = tt
part_bytes s at (suc k) h g = rw (drop-cons s at 0 (omega arith)) (g at, part_bytes s (suc at) k (omega arith) g)

pub part_length : (s : List ℕ) (at k : ℕ) → at + k ≤ length s → length (take k (drop at s)) ≡ k
part_length s at k h = simp (length-take, length-drop) (omega arith)

word_more : (s : List ℕ) (at i k : ℕ) → at + i < length s → word_of (take (suc k) (drop (at + i) s)) ≡ get_or s (at + i) 0 + 256 * word_of (take k (drop (at + suc i) s))
unfolding word_of
word_more s at i k h = rw (drop-cons s (at + i) 0 h, add-suc at i)

-- the word of eight bytes, byte by byte
pub word-eight : (s : List ℕ) (at : ℕ) → at + lead_bytes ≤ length s
    → word_of (take lead_bytes (drop at s))
    ≡ get_or s at 0 + 0x100 * get_or s (at + 1) 0 + 0x1_0000 * get_or s (at + 2) 0 + 0x100_0000 * get_or s (at + 3) 0 + 0x1_0000_0000 * get_or s (at + 4) 0 + 0x100_0000_0000 * get_or s (at + 5) 0 + 0x1_0000_0000_0000 * get_or s (at + 6) 0 + 0x100_0000_0000_0000 * get_or s (at + 7) 0
unfolding word_of
word-eight s at h =
    rw add-zero at (word_more s at 0 7 (omega arith))
    ∙ rw (word_more s at 1 6 (omega arith), word_more s at 2 5 (omega arith), word_more s at 3 4 (omega arith), word_more s at 4 3 (omega arith), word_more s at 5 2 (omega arith), word_more s at 6 1 (omega arith), word_more s at 7 0 (omega arith)) (omega arith)
