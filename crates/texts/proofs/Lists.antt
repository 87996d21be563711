-- Lists of lines: what one line after another comes to.
use Prim.Native.Nat.{ℕ, ◌+◌}
use mathlib.Core.Path.{◌≡◌, refl, ap, ◌∙◌}
use mathlib.Core.List.{List, [], ◌∷◌, ◌++◌, map, flat_map}
use lib.ListN.{length, length-append}
use Rattle.job.proofs.Records.{words_append, words_last}
use Rattle.columns.specs.Widths.{line_bytes}
use Rattle.columns.specs.Line.{line_of}
use Rattle.columns.proofs.LineLaws.{length-line}

module _ {A B : Type 0} (f : A → B) where
  -- one list after another
  pub map-append : (as' bs : List A) → map f (as' ++ bs) ≡ map f as' ++ map f bs
  map-append [] bs = refl
  map-append (a ∷ as') bs = ap (λ (l : List B). f a ∷ l) (map-append as' bs)

-- the bytes of lines of numbers
abbrev pub bytes_of : List (List ℕ) → List ℕ
bytes_of nss = flat_map line_of nss

-- one line more
pub bytes-more : (nss : List (List ℕ)) (ns : List ℕ) → bytes_of (nss ++ (ns ∷ [])) ≡ bytes_of nss ++ line_of ns
bytes-more nss ns = words_last line_of nss ns

-- how many they are
pub bytes-cons : (ns : List ℕ) (nss : List (List ℕ)) → length (bytes_of (ns ∷ nss)) ≡ line_bytes (length ns) + length (bytes_of nss)
unfolding flat_map
bytes-cons ns nss = length-append (line_of ns) (bytes_of nss) ∙ ap (λ (k : ℕ). k + length (bytes_of nss)) (length-line ns)

-- one list of lines after another
pub bytes-append : (as' bs : List (List ℕ)) → length (bytes_of (as' ++ bs)) ≡ length (bytes_of as') + length (bytes_of bs)
bytes-append as' bs = ap length (words_append line_of as' bs) ∙ length-append (bytes_of as') (bytes_of bs)
