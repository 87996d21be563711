-- The three words that a call leaves to its host: the refusal number, 0 where accepted; the first value, or the place; the second value. The unfolding
-- has a third value, and leaves four words (request Two).
use Rattle.std.specs.Prelude.{ℕ, ◌≡◌, cond, List, [], ◌∷◌, ltb, get_or}
use Rattle.job.specs.Buffers.{Answer, given, refused}

-- the largest number of a word of 32 bits
abbrev pub max_word : ℕ
max_word = 4294967295

-- a place as a word: itself, or the largest number where it is above that
abbrev pub place_word : ℕ → ℕ
place_word place = cond (ltb place max_word) place max_word

-- accepted, with a first and a second value; or refused, with a number and a place
abbrev pub answer_words : Answer → List ℕ
answer_words (given results) = 0 ∷ get_or results 0 0 ∷ get_or results 1 0 ∷ []
answer_words (refused number place) = number ∷ place_word place ∷ 0 ∷ []

-- the same of the unfolding's four words
abbrev pub four_words : Answer → List ℕ
four_words (given results) = 0 ∷ get_or results 0 0 ∷ get_or results 1 0 ∷ get_or results 2 0 ∷ []
four_words (refused number place) = number ∷ place_word place ∷ 0 ∷ 0 ∷ []

-- the words say that the call accepts: the refusal number is 0
abbrev pub WordsAccept : List ℕ → Type 0
WordsAccept words = get_or words 0 0 ≡ 0

-- what is promised of the two values where they say so
abbrev pub WhereAccepted : List ℕ → (ℕ → ℕ → Type 0) → Type 0
WhereAccepted words promise = WordsAccept words → promise (get_or words 1 0) (get_or words 2 0)

-- and of three values
abbrev pub WhereUnfolded : List ℕ → (ℕ → ℕ → ℕ → Type 0) → Type 0
WhereUnfolded words promise = WordsAccept words → promise (get_or words 1 0) (get_or words 2 0) (get_or words 3 0)
