-- Document 02, Three: "gather the first eight bytes of a column group in one word and compare that; it is shown to equal a word of eight blanks exactly if
-- every byte is blank".
use Rattle.std.specs.Prelude.{ℕ, ◌+◌, ◌*◌, ◌<◌, ◌≡◌, ◌↔◌, List, [], ◌∷◌, length}
use Rattle.columns.specs.Widths.{lead_bytes}

-- bytes gathered in one word, the first lowest: the sum of each times 256 to the power of the bytes before it
unfoldable pub word_of : List ℕ → ℕ
word_of [] = 0
word_of (b ∷ bs) = b + 256 * word_of bs

-- numbers that are bytes
unfoldable pub Bytes : List ℕ → Type 0
Bytes [] = Unit
Bytes (b ∷ bs) = (b < 256) × Bytes bs

-- every byte is blank
unfoldable pub Blank : List ℕ → Type 0
Blank [] = Unit
Blank (b ∷ bs) = (b ≡ 32) × Blank bs

-- the word of eight blanks
abbrev pub blank_word : ℕ
blank_word = 0x2020_2020_2020_2020

-- the word of any eight bytes is that of eight blanks exactly if every byte is blank
abbrev pub BlanksByWord : Type 0
BlanksByWord = (bs : List ℕ) → length bs ≡ lead_bytes → Bytes bs → (word_of bs ≡ blank_word) ↔ Blank bs
