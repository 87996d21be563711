-- Offcuts in a buffer: with one more, as its stores leave it.
use Prim.Native.Nat.{ℕ, ◌+◌, ◌*◌, ◌≤◌}
use native.Mathlib.Omega.{arith}
use mathlib.Core.Path.{◌≡◌, refl, ◌∙◌}
use mathlib.Core.List.{List, [], ◌∷◌, ◌++◌, append_assoc}
use lib.ListN.{length, set, length-append, length-set}
use Rattle.job.specs.Sizes.{words_of_offcut}
use Rattle.job.proofs.Records.{words_last, words-length}
use Rattle.listing.specs.Holds.{Holds}
use Rattle.listing.proofs.CodeHolds.{held-put}
use Rattle.layouts.specs.Offcuts.{Offcut, usable, offcut_words}

-- one offcut more
pub held-offcut-put :
    {buffer : List ℕ} (first second : ℕ) (os : List Offcut) (at : ℕ) (o : Offcut)
    → words_of_offcut * length os ≡ at
    → at + words_of_offcut ≤ length buffer
    → Holds buffer (offcut_words first second os)
    → Holds
    (set (set (set (set (set (set buffer at o.board.number) (at + 1) o.x) (at + 2) o.y) (at + 3) o.width) (at + 4) o.height) (at + 5) (usable first second o))
    (offcut_words first second (os ++ o ∷ []))
unfolding offcut_words
held-offcut-put {buffer} first second os at o e h r =
    let l : length (offcut_words first second os) ≡ at = words-length _ words_of_offcut (λ _. refl) os ∙ e in
    rw words_last
    (simp append_assoc at
    (held-put (at + 5) (usable first second o) (simp length-append (omega arith)) (simp length-set (omega arith))
    (held-put (at + 4) o.height (simp length-append (omega arith)) (simp length-set (omega arith))
    (held-put (at + 3) o.width (simp length-append (omega arith)) (simp length-set (omega arith))
    (held-put (at + 2) o.y (simp length-append (omega arith)) (simp length-set (omega arith))
    (held-put (at + 1) o.x (simp length-append (omega arith)) (simp length-set (omega arith))
    (held-put at o.board.number l (omega arith) r)))))))
