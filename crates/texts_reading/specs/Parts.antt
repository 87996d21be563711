-- Document 01, "Texts", taken in parts: what a reader in code keeps after the bytes so far, and that any split of a text keeps the same.
use Rattle.std.specs.Prelude.{ℕ, ◌≡◌, List, ◌++◌}
use Rattle.texts.specs.Reader.{Grammar, Reader, started, fed}

-- a reader in code has states F and lent words W; `Kept` says what they keep of the definition's reader
module _ {S F W : Type 0} (g : Grammar S) (Kept : Reader S → F → W → Type 0) where
  -- the state and the lent words are those of the definition after the bytes bs
  abbrev pub After : List ℕ → F → W → Type 0
  After bs f w = Kept (fed g (started g) bs) f w

  -- parts and splits: `Fed` says what a part makes of a state and its lent words, `AsLong` that lent words are as long as others
  pub record InParts (Fed : List ℕ → F → W → F → W → Type 0) (AsLong : W → W → Type 0) : Type 0 where
    -- one part more
    pub more : (bs part : List ℕ) (f f' : F) (w w' : W) → After bs f w → Fed part f w f' w' → After (bs ++ part) f' w'
    -- what is kept of a reader is one state and one content of lent words of a length, however the text was split
    pub same : (r : Reader S) (f f' : F) (w w' : W) → Kept r f w → Kept r f' w' → AsLong w w' → (f ≡ f') × (w ≡ w')
