-- What a lent buffer holds: words and then zeros, by length and by place; and whether it is of full size.
use Prim.Native.Nat.{ℕ, zero, suc, ◌-◌, ◌≤◌, ◌<◌}
use native.Mathlib.Omega.{arith}
use mathlib.Core.Path.{◌≡◌, refl, ap}
use mathlib.Core.List.{List, [], ◌∷◌, ◌++◌}
use lib.ListN.{length, get_or, replicate, length-append, length-replicate}
use borrow.Author.Tests.{ltb-false, lt-ltb, le-ltb}
use Rattle.job.specs.Verdict.{pass, refuse}
use Rattle.job.specs.Buffers.{filled, sized}
use Rattle.job.proofs.Verdicts.{refuse_if-pass}

-- a filled buffer has its size
pub filled-length : (size : ℕ) (ws : List ℕ) → length ws ≤ size → length (filled size ws) ≡ size
unfolding filled
filled-length size ws h = simp (length-append, length-replicate) (omega arith)

-- no words: all zeros
pub filled_none : (size : ℕ) → filled size [] ≡ replicate size 0
unfolding filled
filled_none size = let e : size - 0 ≡ size = omega arith in ap (λ (n : ℕ). replicate n 0) e

-- zeros after a list change nothing that is read with 0 past the end
zeros-read : (n : ℕ) (ws : List ℕ) (i : ℕ) → get_or (ws ++ replicate n 0) i 0 ≡ get_or ws i 0
zeros-read zero [] i = refl
zeros-read (suc n) [] zero = refl
zeros-read (suc n) [] (suc i) = zeros-read n [] i
zeros-read n (w ∷ ws) zero = refl
zeros-read n (w ∷ ws) (suc i) = zeros-read n ws i

-- read with 0 past its end, a filled buffer reads as its words
pub filled-read : (size : ℕ) (ws : List ℕ) (i : ℕ) → get_or (filled size ws) i 0 ≡ get_or ws i 0
unfolding filled
filled-read size ws i = zeros-read (size - length ws) ws i

-- a buffer that is too short is 5
pub sized-short : (number size : ℕ) (buffer : List ℕ) → length buffer < size → sized number size buffer ≡ refuse 5 number
unfolding sized
sized-short number size buffer h = rw (lt-ltb _ _ h)

-- else it passes
pub sized-full : (number size : ℕ) (buffer : List ℕ) → size ≤ length buffer → sized number size buffer ≡ pass
unfolding sized
sized-full number size buffer h = rw (le-ltb _ _ h)

-- a buffer that passes is of full size
pub sized-pass : (number size : ℕ) (buffer : List ℕ) → sized number size buffer ≡ pass → size ≤ length buffer
unfolding sized
sized-pass number size buffer e = ltb-false (length buffer) size (refuse_if-pass _ 5 number e)
