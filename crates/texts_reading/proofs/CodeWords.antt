-- Words put into a lent buffer: behind the words that it holds, and what stands before and at them.
use Prim.Native.Nat.{ℕ, ◌+◌, ◌-◌, ◌≤◌, ◌<◌}
use mathlib.Core.Path.{◌≡◌, ap, ◌∙◌}
use mathlib.Core.List.{List, ◌++◌, append_assoc}
use native.Mathlib.Omega.{arith}
use native.Mathlib.Numerals.{add-one}
use lib.ListN.{length, get_or, take, drop, set, replicate, length-append, length-drop, get_or-append}
use lib.Seq.{take-suc, take_all, length-take-le, take_at, get_or-take, drop-append-add}
use Rattle.job.specs.Buffers.{filled}
use Rattle.listing.specs.Holds.{Holds}
use Rattle.columns.specs.Group.{put}
use Rattle.columns.proofs.GroupLaws.{length-put, put-more}
use Rattle.columns.proofs.LineLaws.{drop-zeros}

-- ---- word by word

module _ (d ns : List ℕ) (at i : ℕ) (h : at + length ns ≤ length d) where
  pub put_word : i < length ns → set (put d at (take i ns)) (at + i) (get_or ns i 0) ≡ put d at (take (i + 1) ns)
  put_word l =
      let e : length (take i ns) ≡ i = length-take-le i ns (omega arith) in
      let f = put-more d at (take i ns) (get_or ns i 0) (omega arith) in
      rw (add-one i, take-suc ns i 0 l) (rw e at f)

-- ---- behind the words that a buffer holds

pub put-filled : (n : ℕ) (ws xs : List ℕ) (at : ℕ) → length ws ≡ at → put (filled n ws) at xs ≡ filled n (ws ++ xs)
unfolding put filled
put-filled n ws xs at e =
    let z : List ℕ = replicate (n - length ws) 0 in
    let j : at + length xs ≡ length ws + length xs = omega arith in
    let m : n - length ws - length xs ≡ n - length (ws ++ xs) = simp length-append (omega arith) in
    rw (take_at ws z at e, j, drop-append-add ws z (length xs), drop-zeros (length xs) (n - length ws), m, append_assoc)

pub put-held : {buffer : List ℕ} (ws xs : List ℕ) (at : ℕ) → length ws ≡ at → at + length xs ≤ length buffer → Holds buffer ws → Holds (put buffer at xs) (ws ++ xs)
put-held {buffer} ws xs at e h r =
    record { words = ap (λ (b : List ℕ). put b at xs) r.words ∙ put-filled (length buffer) ws xs at e ∙ rw (length-put buffer at xs h) }

-- what stands before the words that are put, and at them
pub put-before : (d : List ℕ) (at : ℕ) (xs : List ℕ) (k : ℕ) → at ≤ length d → k < at → get_or (put d at xs) k 0 ≡ get_or d k 0
unfolding put
put-before d at xs k h l =
    let e : k < length (take at d) = rw (length-take-le at d h) l in
    get_or-append (take at d) (xs ++ drop (at + length xs) d) 0 k e ∙ get_or-take at d k 0 l

pub put-here : (d xs : List ℕ) (k : ℕ) → k < length xs → get_or (put d 0 xs) k 0 ≡ get_or xs k 0
unfolding put
put-here d xs k l = get_or-append xs (drop (0 + length xs) d) 0 k l

-- a part to the end of a list is all that follows
pub part-rest : (s : List ℕ) (a : ℕ) → take (length s - a) (drop a s) ≡ drop a s
part-rest s a = let e : length (drop a s) ≤ length s - a = rw length-drop (omega arith) in take_all (length s - a) (drop a s) e
