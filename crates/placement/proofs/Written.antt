-- Placements in a buffer: with one more, as its stores leave it.
use Prim.Native.Nat.{ℕ, ◌+◌, ◌*◌, ◌≤◌}
use native.Mathlib.Omega.{arith}
use mathlib.Core.Path.{◌≡◌, ◌∙◌}
use mathlib.Core.List.{List, [], ◌∷◌, ◌++◌, append_assoc}
use lib.ListN.{length, set, length-append, length-set}
use Rattle.job.specs.Sizes.{words_of_placement}
use Rattle.job.specs.Job.{type_of, turn_of}
use Rattle.job.proofs.Records.{words_last}
use Rattle.listing.specs.Holds.{Holds}
use Rattle.listing.proofs.CodeHolds.{held-put}
use Rattle.layouts.specs.Placement.{Placement, placement_words}
use Rattle.layouts.proofs.row.RowLines.{words-length}

-- one placement more
pub held-placement-put :
    {buffer : List ℕ} (ps : List Placement) (at : ℕ) (p : Placement)
    → words_of_placement * length ps ≡ at
    → at + words_of_placement ≤ length buffer
    → Holds buffer (placement_words ps)
    → Holds
    (set (set (set (set (set (set (set (set (set buffer at p.turn.board.number) (at + 1) p.turn.board.size) (at + 2) p.turn.strip) (at + 3) p.turn.stack) (at + 4) p.turn.place) (at + 5) (type_of p.item)) (at + 6) p.x) (at + 7) p.y) (at + 8) (turn_of p.item))
    (placement_words (ps ++ p ∷ []))
unfolding placement_words
held-placement-put {buffer} ps at p e h r =
    let l : length (placement_words ps) ≡ at = words-length ps ∙ e in
    rw words_last
    (simp append_assoc at
    (held-put (at + 8) (turn_of p.item) (simp length-append (omega arith)) (simp length-set (omega arith))
    (held-put (at + 7) p.y (simp length-append (omega arith)) (simp length-set (omega arith))
    (held-put (at + 6) p.x (simp length-append (omega arith)) (simp length-set (omega arith))
    (held-put (at + 5) (type_of p.item) (simp length-append (omega arith)) (simp length-set (omega arith))
    (held-put (at + 4) p.turn.place (simp length-append (omega arith)) (simp length-set (omega arith))
    (held-put (at + 3) p.turn.stack (simp length-append (omega arith)) (simp length-set (omega arith))
    (held-put (at + 2) p.turn.strip (simp length-append (omega arith)) (simp length-set (omega arith))
    (held-put (at + 1) p.turn.board.size (simp length-append (omega arith)) (simp length-set (omega arith))
    (held-put at p.turn.board.number l (omega arith) r))))))))))
