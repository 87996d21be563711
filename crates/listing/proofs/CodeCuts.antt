-- The cuts of a buffer, read one by one; those of a buffer that holds them.
use mathlib.Core.Path.{◌≡◌, refl, sym, ap, ◌∙◌}
use Prim.Native.Nat.{ℕ, zero, suc, ◌+◌, ◌-◌, ◌*◌, ◌<◌}
use mathlib.Core.List.{List, [], ◌∷◌, ◌++◌}
use native.Mathlib.Omega.{arith}
use lib.ListN.{length, get_or, take}
use lib.Seq.{ext_get_or, take-suc}
use Rattle.job.specs.Sizes.{words_of_cut}
use Rattle.listing.specs.Listing.{Cut, no_cut}
use Rattle.listing.specs.Records.{cut_words}
use Rattle.listing.specs.Holds.{Holds}
use Rattle.listing.proofs.CodeHolds.{held_word}
use Rattle.listing.proofs.RecordWords.{cut-words-read}
use Rattle.listing.specs.CutRead.{cut_read, cuts_from, cuts_read, InRange, Sound}

-- as many cuts as are read
pub length-cuts_from : (k c : ℕ) (buffer : List ℕ) → length (cuts_from k c buffer) ≡ k
unfolding cuts_from
length-cuts_from zero c buffer = refl
length-cuts_from (suc k) c buffer = ap suc (length-cuts_from k (suc c) buffer)

get_or-cuts_from : (k c i : ℕ) (buffer : List ℕ) → i < k → get_or (cuts_from k c buffer) i no_cut ≡ cut_read buffer (c + i)
unfolding cuts_from
get_or-cuts_from zero c i buffer h = absurd (omega arith)
get_or-cuts_from (suc k) c zero buffer h = let e : c + 0 ≡ c = omega arith in rw e
get_or-cuts_from (suc k) c (suc i) buffer h = let e : c + suc i ≡ suc c + i = omega arith in rw e (get_or-cuts_from k (suc c) i buffer (omega arith))

-- the cut behind c others
pub cut-read : (k c : ℕ) (buffer : List ℕ) → c < k → get_or (cuts_read k buffer) c no_cut ≡ cut_read buffer c
cut-read k c buffer h = let e : 0 + c ≡ c = omega arith in get_or-cuts_from k 0 c buffer h ∙ rw e

-- the cut of number c + 1 stands behind c others
pub cut-behind : (buffer : List ℕ) (c : ℕ) → cut_read buffer (c + 1 - 1) ≡ cut_read buffer c
cut-behind buffer c = let e : c + 1 - 1 ≡ c = omega arith in rw e

-- it is in range where all are
pub cut-sound : (m n k c : ℕ) (buffer : List ℕ) → Sound m n (cuts_read k buffer) → c < k → InRange m n (cut_read buffer c)
cut-sound m n k c buffer s h = rw (cut-read k c buffer h) at (s.each c (rw length-cuts_from h))

-- one cut more
pub cuts-take : (k c : ℕ) (buffer : List ℕ) → c < k → take (suc c) (cuts_read k buffer) ≡ take c (cuts_read k buffer) ++ cut_read buffer c ∷ []
cuts-take k c buffer h = take-suc (cuts_read k buffer) c no_cut (rw length-cuts_from h) ∙ rw (cut-read k c buffer h)

-- the cut behind c others of a buffer that holds some cuts
pub held_cut : {buffer : List ℕ} (cs : List Cut) → Holds buffer (cut_words cs) → (c : ℕ) → cut_read buffer c ≡ get_or cs c no_cut
held_cut cs h c =
    rw (held_word (cut_words cs) h (words_of_cut * c), held_word (cut_words cs) h (words_of_cut * c + 1), held_word (cut_words cs) h (words_of_cut * c + 2), held_word (cut_words cs) h (words_of_cut * c + 3)) (cut-words-read cs c)

-- a buffer that holds the words of some cuts has these to read
pub held-cuts : {buffer : List ℕ} (cs : List Cut) (k : ℕ) → Holds buffer (cut_words cs) → length cs ≡ k → cs ≡ cuts_read k buffer
held-cuts {buffer} cs k h e =
    ext_get_or no_cut cs (cuts_read k buffer) (e ∙ sym (length-cuts_from k 0 buffer)) (λ i l. sym (cut-read k i buffer (omega arith) ∙ held_cut cs h i))
