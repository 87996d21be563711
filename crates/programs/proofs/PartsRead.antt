-- A text read in parts: between two parts some text has been read, of at least as many bytes as the parts have; these are the bytes that the input gave.
use Rattle.std.proofs.Common.{◌≡◌, ℕ, ◌*◌, ◌≤◌, ◌<◌, Bool, false, Option, List, ◌++◌, arith, length}
use Rattle.std.specs.Io.KnownBytes.{Consumes, IsAtEnd}
use Rattle.std.proofs.KnownBytes.{Consumes-trans}
use Rattle.programs.specs.Program.{part_size, most_parts, PartsDecide, ReadFrom}

module _ {F W : Type 0} (After : List ℕ → F → W → Type 0) (given : Option (List ℕ)) where
  -- so many full parts have been read
  pub record PartsRead (left : Option (List ℕ)) (reader : F) (words : W) (parts : ℕ) : Type 0 where
    pub text : List ℕ
    pub after : After text reader words
    pub full : part_size * parts ≤ length text
    pub consumed : Consumes given left text

  module _ (answer : List ℕ → List ℕ) where
    -- a part that is not full is the last
    pub last-read :
        {left left' : Option (List ℕ)} {failed : Bool} {f f' : F} {w w' : W} {asked last parts : ℕ} (part : List ℕ) (r : PartsRead left f w parts)
        → After (r.text ++ part) f' w'
        → Consumes left left' part
        → last < asked
        → (failed ≡ false → IsAtEnd left')
        → ReadFrom answer given left' failed After f' w' asked last
    last-read {left} {left'} part r a c h e =
        record {
          some = record { text = r.text ++ part; after = a; decided = λ k. absurd (omega arith) };
          consumed = Consumes-trans given left left' r.text part r.consumed c;
          ended = λ _. e;
        }

    -- all parts are read
    pub all_read :
        {left : Option (List ℕ)} {failed : Bool} {f : F} {w : W} {asked last parts : ℕ} (longest : ℕ)
        → PartsDecide answer longest
        → PartsRead left f w parts
        → most_parts longest ≤ parts
        → asked ≤ last
        → ReadFrom answer given left failed After f w asked last
    all_read longest d r h k =
        record {
          some = record { text = r.text; after = r.after; decided = λ _. d.decided r.text (omega (arith, r.full)) };
          consumed = r.consumed;
          ended = λ l. absurd (omega arith);
        }
