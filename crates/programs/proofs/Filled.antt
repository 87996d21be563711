-- A part that is filled by one read after another.
use Rattle.std.proofs.Common.{◌≡◌, ℕ, ◌+◌, ◌-◌, ◌≤◌, List, ◌++◌, Option, arith, length, take, slice_range, sym, ap, ◌∙◌, subst, le_refl, drop_at, length-take-le}
use Rattle.std.proofs.lemmas.Slice.{take-put_mid_below}
use Rattle.std.specs.Io.KnownBytes.{Consumes}
use Rattle.std.proofs.KnownBytes.{Consumes-trans}
use borrow.Rule.Slice.PartMut.{put_mid, post_of}
use lib.Seq.{take-add, take-append-le}

-- n bytes of ys that are put at `at` stand there
read_at : (at room n : ℕ) (xs ys : List ℕ) → at ≤ length xs → n ≤ length ys → slice_range (put_mid at room xs ys) at (at + n) ≡ take n ys
read_at at room n xs ys within fits =
    let same : (at + n) - at ≡ n = omega arith in
    let after = post_of at room xs in
    ap (take ((at + n) - at)) (drop_at (take at xs) (ys ++ after) at (length-take-le at xs within)) ∙ ap (λ m. take m (ys ++ after)) same ∙ take-append-le n ys after fits

-- and what stood before them stands there still
read_after : (at room n : ℕ) (xs ys : List ℕ) → at ≤ length xs → n ≤ length ys → take at xs ++ take n ys ≡ take (at + n) (put_mid at room xs ys)
read_after at room n xs ys within fits =
    let new = put_mid at room xs ys in
    let same : at + ((at + n) - at) ≡ at + n = omega arith in
    ap (λ l. take at xs ++ l) (sym (read_at at room n xs ys within fits))
    ∙ ap (λ l. l ++ slice_range new at (at + n)) (sym (take-put_mid_below _ _ _ _ _ (le_refl _) within))
    ∙ sym (take-add at ((at + n) - at) new)
    ∙ ap (λ m. take m new) same

-- one read more: what a reader gave before it and in it now stands at the start
pub consumed_more :
    (a b c : Option (List ℕ)) (at room n : ℕ) (xs ys : List ℕ)
    → at ≤ length xs
    → n ≤ length ys
    → Consumes a b (take at xs)
    → Consumes b c (take n ys)
    → Consumes a c (take (at + n) (put_mid at room xs ys))
consumed_more a b c at room n xs ys within fits before read =
    subst (Consumes a c) (read_after at room n xs ys within fits) (Consumes-trans a b c _ _ before read)
