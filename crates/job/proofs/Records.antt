-- Records of n words each, one after another: how many words they are, and where each word stands.
use Prim.Native.Nat.{ℕ, zero, suc, ◌+◌, ◌*◌, ◌<◌}
use native.Mathlib.Omega.{arith}
use native.Mathlib.Nat.{mul-zero, mul-suc}
use mathlib.Core.Path.{◌≡◌, refl, sym, ◌∙◌, ap}
use mathlib.Core.List.{List, [], ◌∷◌, ◌++◌, flat_map, append_assoc, append-nil}
use lib.ListN.{length, get_or, length-append, get_or-append}
use lib.Seq.{get_or-append-add}

module _ {A : Type 0} (f : A → List ℕ) where
  -- the words of one list of records after another
  pub words_append : (as' bs : List A) → flat_map f (as' ++ bs) ≡ flat_map f as' ++ flat_map f bs
  unfolding flat_map
  words_append [] bs = refl
  words_append (a ∷ as') bs = ap (λ (ws : List ℕ). f a ++ ws) (words_append as' bs) ∙ sym (append_assoc (f a) (flat_map f as') (flat_map f bs))

  -- the words of one record more
  pub words_last : (as' : List A) (a : A) → flat_map f (as' ++ (a ∷ [])) ≡ flat_map f as' ++ f a
  unfolding flat_map
  words_last as' a = words_append as' (a ∷ []) ∙ ap (λ (ws : List ℕ). flat_map f as' ++ ws) (append-nil (f a))

  module _ (n : ℕ) (each : (a : A) → length (f a) ≡ n) where
    -- as many words as n for each record
    pub words-length : (as' : List A) → length (flat_map f as') ≡ n * length as'
    unfolding flat_map
    words-length [] = omega (arith, mul-zero n)
    words-length (a ∷ as') = length-append (f a) (flat_map f as') ∙ omega (arith, each a, words-length as', mul-suc n (length as'))

    -- word k of record i stands at n i + k; `d`, whose words are 0, stands for a record that is not there
    pub words-read :
        (d : A)
        → ((k : ℕ) → get_or (f d) k 0 ≡ 0)
        → (as' : List A) (i k : ℕ)
        → k < n
        → get_or (flat_map f as') (n * i + k) 0 ≡ get_or (f (get_or as' i d)) k 0
    unfolding flat_map
    words-read d none [] i k h = sym (none k)
    words-read d none (a ∷ as') zero k h =
        let e : n * 0 + k ≡ k = omega (arith, mul-zero n) in
        rw e (get_or-append (f a) (flat_map f as') 0 k (omega (arith, each a)))
    words-read d none (a ∷ as') (suc i) k h =
        let e : n * suc i + k ≡ length (f a) + (n * i + k) = omega (arith, each a, mul-suc n i) in
        rw e (get_or-append-add (f a) (flat_map f as') (n * i + k) 0 ∙ words-read d none as' i k h)
