-- A text in parts: one part after another keeps what the whole does, and where a text stands is determined by the definition's reader.
use Prim.Native.Nat.{ℕ, zero, suc}
use mathlib.Core.Path.{◌≡◌, refl, sym, ap, ◌∙◌}
use mathlib.Core.List.{List}
use lib.ListN.{length}
use Rattle.job.specs.Verdict.{Verdict, pass, refuse}
use Rattle.job.specs.Buffers.{filled}
use Rattle.listing.specs.Holds.{Holds}
use Rattle.texts.specs.Reader.{Grammar, Reader, started, fed}
use Rattle.texts.specs.JobLines as definition
use Rattle.texts.proofs.ReaderLaws.{fed-append}
use Rattle.texts_reading.specs.declared.text.Place.{Place}
use Rattle.texts_reading.specs.declared.text.Place.TheVariants.{First, Sizes, Types, Body, ItemPrices, PlatePrices, Done}
use Rattle.texts_reading.specs.declared.text.TextReader.{TextReader}
use Rattle.texts_reading.specs.declared.pending.Pending.{Pending}
use Rattle.texts_reading.specs.Begun.{Begun}
use Rattle.texts_reading.specs.Judged.{line_verdict}
use Rattle.texts_reading.specs.Standing.{place_of, TextKept}
use Rattle.texts_reading.specs.Parts.{InParts}

-- a place, and a refusal, from what it means
abbrev place_from : definition.Place → Place
place_from definition.first = First
place_from (definition.sizes j) = Sizes (record { 0 = j })
place_from (definition.types i) = Types (record { 0 = i })
place_from definition.body = Body
place_from (definition.item_prices i) = ItemPrices (record { 0 = i })
place_from (definition.plate_prices j) = PlatePrices (record { 0 = j })
place_from definition.done = Done

place-from : (p : Place) → place_from (place_of p) ≡ p
place-from First = refl
place-from (Sizes j) = refl
place-from (Types i) = refl
place-from Body = refl
place-from (ItemPrices i) = refl
place-from (PlatePrices j) = refl
place-from Done = refl

abbrev refusal_from : Verdict → ℕ
refusal_from pass = 0
refusal_from (refuse n line) = n

refusal-from : (n line : ℕ) → refusal_from (line_verdict n line) ≡ n
refusal-from zero line = refl
refusal-from (suc n) line = refl

-- bytes that have begun
begun-same : (p p' : Pending) (bs : List ℕ) → Begun p bs → Begun p' bs → p ≡ p'
begun-same p p' bs a b =
    let e : p.bytes ≡ p'.bytes = a.bytes ∙ sym b.bytes in
    let n : p.length ≡ p'.length = a.size ∙ sym b.size in
    λ i. record { bytes = e i; length = n i }

-- where a text stands
pub text_same : {S : Type 0} (place : S → definition.Place) (r : Reader S) (t t' : TextReader) → TextKept place r t → TextKept place r t' → t ≡ t'
text_same place r t t' k k' =
    let p : t.place ≡ t'.place = sym (place-from t.place) ∙ ap place_from (k.stands ∙ sym k'.stands) ∙ place-from t'.place in
    let l : t.lines ≡ t'.lines = k.lines ∙ sym k'.lines in
    let n : t.refusal ≡ t'.refusal =
    sym (refusal-from t.refusal (suc t.lines)) ∙ ap refusal_from (k.verdict ∙ sym k'.verdict) ∙ refusal-from t'.refusal (suc t'.lines) in
    let b : t.pending ≡ t'.pending = begun-same t.pending t'.pending r.pending k.begun k'.begun in
    λ i. record { place = p i; lines = l i; refusal = n i; pending = b i }

-- words that are held
pub held_same : (b b' ws : List ℕ) → Holds b ws → Holds b' ws → length b ≡ length b' → b ≡ b'
held_same b b' ws h k e = h.words ∙ ap (λ (n : ℕ). filled n ws) e ∙ sym k.words

-- parts and splits, from what a part does to every reader that is kept
module _ {S F W : Type 0} (g : Grammar S) (Kept : Reader S → F → W → Type 0) (Fed : List ℕ → F → W → F → W → Type 0) (AsLong : W → W → Type 0) where
  pub in_parts :
      ((part : List ℕ) (f f' : F) (w w' : W) → Fed part f w f' w' → (r : Reader S) → Kept r f w → Kept (fed g r part) f' w')
      → ((r : Reader S) (f f' : F) (w w' : W) → Kept r f w → Kept r f' w' → AsLong w w' → (f ≡ f') × (w ≡ w'))
      → InParts g Kept Fed AsLong
  in_parts fed-kept same =
      record {
        more = λ bs part f f' w w' a h. rw (fed-append g (started g) bs part) (fed-kept part f f' w w' h (fed g (started g) bs) a);
        same = same;
      }
