-- The answer to a fold text, from what its reader keeps and what its end leaves.
use Prim.Native.Nat.{ℕ, ◌≤◌}
use native.Mathlib.Omega.{arith}
use mathlib.Core.Path.{◌≡◌, refl, sym, ap, ◌∙◌}
use mathlib.Core.Bool.{Bool, true, false}
use mathlib.Core.List.{List}
use lib.ListN.{length, take}
use Rattle.job.specs.Sizes.{longest_job}
use Rattle.job.specs.Buffers.{filled}
use Rattle.job.proofs.Tests.{not-both}
use Rattle.texts.specs.Reader.{Reader}
use Rattle.texts.specs.FoldText.{Fold, fold_text}
use Rattle.fold_text_reader.specs.declared.fold.FoldReader.{FoldReader}
use Rattle.fold_text_reader.specs.FoldKept.{layouts_size, FoldKept}
use Rattle.fold_text_reader.proofs.CodeRows.{size_is}
use Rattle.fold_text_ending.specs.FoldEnd.{room_to_end}
use Rattle.fold_text_ending.specs.Finished.{Finished}
use Rattle.fold_text_ending.proofs.Room.{room-sizes}
use Rattle.fold_text_call.specs.Called.{Lent, room_in, read_of, AnswerLeft, Called}

-- what a test of the room tells
pub room-told : (b : Lent) {told is : Bool} → told ≡ room_in b → told ≡ is → room_in b ≡ is
room-told b e h = sym e ∙ h

-- where there is room the reader's words have their full size
pub words-room : (b : Lent) → room_in b ≡ true → (longest_job ≤ length b.job) × (layouts_size ≤ length b.layouts)
words-room b h =
    let z = room-sizes (length b.job) (length b.layouts) (length b.plates) (length b.cuts) (length b.counts) (length b.out) h in
    (z.for-job, omega (arith, size_is, z.for-layouts))

module _ (text : List ℕ) (b b' : Lent) (n : ℕ) (f : FoldReader) where
  -- what the end leaves of a reader that is kept
  abbrev Ends : Reader Fold → Type 0
  Ends r =
      FoldKept r f b'.job b'.layouts
      → Finished r b.out b.plates b.cuts b.counts n b'.out b'.plates b'.cuts b'.counts

  -- the text has been read to its end, into words as long as they were
  module _ (j : length b'.job ≡ length b.job) (l : length b'.layouts ≡ length b.layouts) (k : FoldKept (read_of text) f b'.job b'.layouts) where
    answers : Ends (read_of text) → AnswerLeft text b n b'
    unfolding fold_text
    answers ends =
        let e = ends k in
        record {
          size = e.size;
          output = e.output;
          job-left = k.job-words.words ∙ ap (λ (m : ℕ). filled m (read_of text).state.job) j;
          layouts-left = k.layout-words.words ∙ ap (λ (m : ℕ). filled m (take layouts_size (read_of text).state.layouts)) l;
          plates-left = e.plates-left;
          cuts-left = e.cuts-left;
          counts-left = e.counts-left;
        }

    pub called :
        room_in b ≡ true
        → (room_to_end (length b'.job) (length b'.layouts) (length b.plates) (length b.cuts) (length b.counts) (length b.out) ≡ true → (r : Reader Fold) (bs : List ℕ) → r ≡ read_of bs → Ends r)
        → Called text b n b'
    called h ends = record { answered = λ room. answers (ends (rw (j, l) h) (read_of text) text refl); short = λ none. absurd (not-both h none) }

-- there is no room
pub not-called : (text : List ℕ) (b : Lent) {told : Bool} → told ≡ room_in b → told ≡ false → Called text b 0 b
not-called text b e h = record { answered = λ room. absurd (not-both room (room-told b e h)); short = λ none. (refl, refl) }
