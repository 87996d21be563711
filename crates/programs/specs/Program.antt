-- Document 01, "Texts": what a program does that reads a text "from standard input and writes" its answer, by the definition of the answer.
-- Of an input and an output over memory it is known which bytes they have, and these speak of them; of standard input and standard output no contract knows
-- any, and there these speak of some text, and of what is handed to the write.
use Rattle.std.specs.Prelude.{ℕ, ◌+◌, ◌*◌, ◌/◌, ◌≤◌, ◌<◌, ◌≡◌, Bool, false, Option, IfSome, List, ◌++◌, length}
use Rattle.std.specs.Io.KnownBytes.{Consumes, IsAtEnd, Appends}
use Rattle.columns.specs.Group.{put}
use Rattle.texts.specs.SawText.{saw_text}
use Rattle.texts.specs.FoldText.{fold_text}
use Rattle.texts.specs.TextLaws.{longest_saw_text, longest_fold_text}

-- the bytes of a part of an input; `src/parts.rt` has the same for the code
abbrev pub part_size : ℕ
part_size = 65536

-- the most parts that are read, where the longest text has so many bytes
abbrev pub most_parts : ℕ → ℕ
most_parts longest = longest / part_size + 1

module _ (answer : List ℕ → List ℕ) where
  -- a text decides its answer: whatever bytes follow it, the answer is the same
  abbrev pub Decides : List ℕ → Type 0
  Decides text = (rest : List ℕ) → answer (text ++ rest) ≡ answer text

  -- the most parts that are read have more bytes than the longest text, and decide
  pub record PartsDecide (longest : ℕ) : Type 0 where
    pub more : longest < part_size * most_parts longest
    pub decided : (text : List ℕ) → part_size * most_parts longest ≤ length text → Decides text

  -- some text has been read, `After` says by which state of a reader and which lent words. The last read gave `last` bytes where `asked` were asked for:
  -- fewer, and the text ends there, or whatever follows does not change the answer
  pub record ReadSome {F W : Type 0} (After : List ℕ → F → W → Type 0) (reader : F) (words : W) (asked last : ℕ) : Type 0 where
    pub text : List ℕ
    pub after : After text reader words
    pub decided : asked ≤ last → Decides text

  -- and this text is the bytes that an input gave, which had `given` before and has `left` now, where that is known; where the last read gave fewer bytes
  -- than were asked for and no read has failed, none are left
  pub record ReadFrom (given left : Option (List ℕ)) (failed : Bool) {F W : Type 0} (After : List ℕ → F → W → Type 0) (reader : F) (words : W) (asked last : ℕ) : Type 0 where
    pub some : ReadSome After reader words asked last
    pub consumed : Consumes given left some.text
    pub ended : last < asked → failed ≡ false → IsAtEnd left

  -- bytes that are the answer to some text, whole
  pub record WholeAnswer (bytes : List ℕ) : Type 0 where
    pub text : List ℕ
    pub whole : bytes ≡ answer text

  -- the answer to some text stands at the start of the output, whole, and its bytes are counted
  pub record AnswersSome (out : List ℕ) (n : ℕ) (out' : List ℕ) : Type 0 where
    pub text : List ℕ
    pub size : n ≡ length (answer text)
    pub output : out' ≡ put out 0 (answer text)

  -- and this text is the bytes that an input gave; where no read has failed, its answer is the one to all the bytes that the input had
  pub record AnswersFrom (given left : Option (List ℕ)) (failed : Bool) (out : List ℕ) (n : ℕ) (out' : List ℕ) : Type 0 where
    pub some : AnswersSome out n out'
    pub consumed : Consumes given left some.text
    pub whole : failed ≡ false → IfSome given (λ bytes. answer bytes ≡ answer some.text)

  -- an output, which holds `before` before and `after` now, where that is known, got the answer to the bytes that an input gave; where no read has failed,
  -- it is the one to all the bytes that the input had
  pub record WritesFrom (given left : Option (List ℕ)) (failed : Bool) (before after : Option (List ℕ)) : Type 0 where
    pub text : List ℕ
    pub consumed : Consumes given left text
    pub appended : Appends before after (answer text)
    pub whole : failed ≡ false → IfSome given (λ bytes. answer bytes ≡ answer text)

-- both programs read as much as decides
pub record Enough : Type 0 where
  pub saw : PartsDecide saw_text longest_saw_text
  pub fold : PartsDecide fold_text longest_fold_text
