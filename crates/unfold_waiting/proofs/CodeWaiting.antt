-- The pieces that wait, on plain values: which is taken, which wait on, and where a residual waits.
use Prim.Native.Nat.{ℕ, zero, suc}
use native.Mathlib.Omega.{arith}
use mathlib.Core.Path.{◌≡◌, refl, sym, ◌∙◌, ap}
use mathlib.Core.List.{List}
use mathlib.Core.Bool.{Bool, true, false, cond}
use mathlib.Core.Option.{Option, none, some}
use borrow.Author.Tests.{ne_eqb}
use Rattle.unfold_pick.specs.declared.Piece.{Piece as CodePiece}
use Rattle.std.specs.Prelude.{Some, None}
use Rattle.std.proofs.lemmas.Option.{same_Some}
use Rattle.unfold_pick.specs.Next.{Next, first_of, next_of}
use Rattle.job.specs.Job.{Job}
use Rattle.listing.specs.declared.plate.Plate.{Plate}
use Rattle.listing.specs.Listing.{Listing, plate_at}
use Rattle.listing.specs.Records.{plate_words}
use Rattle.listing.specs.Holds.{Holds, plate_read}
use Rattle.listing.proofs.CodeHolds.{held-plate}
use Rattle.layouts.specs.Unfold.{Piece, Waiting, waiting, taken, highest, wait_at, wait}
use Rattle.layouts.proofs.machine.MachineSteps.{piece}
use Rattle.unfold_waiting.specs.declared.waiting.Waiting.{Waiting as CodeWaiting}
use Rattle.unfold_waiting.specs.Meaning.{piece_of, waiting_of}
use Rattle.unfold_waiting.specs.Without.{without}

-- a place with a piece of a stage, or without
abbrev slot : Bool → CodePiece → Option Piece
slot here p = cond here (some (piece_of p)) none

-- a piece is taken with its stage, and no other
of_one : {s t : ℕ} {p q : CodePiece} → ◌≡◌ {A = Next} (Some (s, p)) (Some (t, q)) → (s ≡ t) × (p ≡ q)
of_one {s} {t} {p} {q} e =
    let f : ◌≡◌ {A = ℕ × CodePiece} (s, p) (t, q) = same_Some (s, p) (t, q) e in
    (ap (λ (x : ℕ × CodePiece). x.0) f, ap (λ (x : ℕ × CodePiece). x.1) f)

module _ (one two three : CodePiece) where
  abbrev chosen : Bool → Bool → Bool → Next
  chosen a b c = first_of c (Some (3, three)) (first_of b (Some (2, two)) (first_of a (Some (1, one)) None))

  abbrev there : Bool → Bool → Bool → Waiting
  there a b c = waiting (slot a one) (slot b two) (slot c three)

  taken-so : (a b c : Bool) (s : ℕ) (p : CodePiece) → chosen a b c ≡ Some (s, p) → highest (there a b c) ≡ some (taken (piece_of p) s (without s (there a b c)))
  unfolding highest
  taken-so a b true s p e = let (f, g) = of_one e in rw (← f, ← g)
  taken-so a true false s p e = let (f, g) = of_one e in rw (← f, ← g)
  taken-so true false false s p e = let (f, g) = of_one e in rw (← f, ← g)
  taken-so false false false s p e = absurd (let z : ◌≡◌ {A = ℕ} 0 1 = cc in omega arith)

  none_so : (a b c : Bool) → chosen a b c ≡ None → highest (there a b c) ≡ none
  unfolding highest
  none_so a b true e = absurd (let z : ◌≡◌ {A = ℕ} 0 1 = cc in omega arith)
  none_so a true false e = absurd (let z : ◌≡◌ {A = ℕ} 0 1 = cc in omega arith)
  none_so true false false e = absurd (let z : ◌≡◌ {A = ℕ} 0 1 = cc in omega arith)
  none_so false false false e = refl

module _ (w : CodeWaiting) where
  -- the piece picked is the one of the highest stage, and the others wait on
  pub picked-taken : (s : ℕ) (p : CodePiece) → next_of w.first w.second w.third ≡ Some (s, p) → highest (waiting_of w) ≡ some (taken (piece_of p) s (without s (waiting_of w)))
  picked-taken s p e = taken-so w.first w.second w.third w.first.here w.second.here w.third.here s p e

  -- where none is picked nothing waits
  pub picked_none : next_of w.first w.second w.third ≡ None → highest (waiting_of w) ≡ none
  picked_none e = none_so w.first w.second w.third w.first.here w.second.here w.third.here e

module _ (l : Listing) (j x y : ℕ) (w : Waiting) where
  -- waste does not wait
  pub wait-waste : j ≡ 0 → wait l j x y w ≡ w
  unfolding wait
  wait-waste e = rw e

  module _ (h : j ≡ 0 → ⊥) where
    wait-kept : wait l j x y w ≡ wait_at (plate_at l j).stage (piece j x y) w
    unfolding wait
    wait-kept = go j h
      where
        go : (k : ℕ) → (k ≡ 0 → ⊥) → wait l k x y w ≡ wait_at (plate_at l k).stage (piece k x y) w
        go zero h = absurd (h refl)
        go (suc k) h = refl

    -- a kept residual waits in the place of its stage
    pub wait-first : (plate_at l j).stage ≡ 1 → wait l j x y w ≡ waiting (some (piece j x y)) w.second w.third
    unfolding wait_at
    wait-first e = wait-kept ∙ rw e

    pub wait-second : (plate_at l j).stage ≡ 2 → wait l j x y w ≡ waiting w.first (some (piece j x y)) w.third
    unfolding wait_at
    wait-second e = wait-kept ∙ rw e

    pub wait-third : ((plate_at l j).stage ≡ 1 → ⊥) → ((plate_at l j).stage ≡ 2 → ⊥) → wait l j x y w ≡ waiting w.first w.second (some (piece j x y))
    unfolding wait_at
    wait-third e f = wait-kept ∙ rw (ne_eqb _ _ e, ne_eqb _ _ f, wait_at)

-- the stage of a plate type is that of its words
pub held_stage : {buffer : List ℕ} (job : Job) (l : Listing) (j : ℕ) {r : Plate} → Holds buffer (plate_words job l.plates) → r ≡ plate_read buffer j → (plate_at l j).stage ≡ r.stage
unfolding plate_at
held_stage job l j h e = sym (ap (λ (p : Plate). p.stage) (e ∙ held-plate job l.plates h j))
