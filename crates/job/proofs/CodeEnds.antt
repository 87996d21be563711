-- Checks in turn, and what a lent buffer ends as: a refusal with another number than 5 leaves zeros.
use mathlib.Core.Path.{◌≡◌, refl, sym, ap, ◌∙◌}
use mathlib.Core.Bool.{Bool, true, false}
use mathlib.Core.List.{List, [], ◌∷◌}
use Prim.Native.Nat.{ℕ, suc}
use native.Mathlib.Omega.{arith}
use borrow.Author.Tests.{ne_eqb}
use lib.Dec.{eqb}
use lib.ListN.{length, replicate}
use Rattle.job.specs.Verdict.{Verdict, pass, refuse, ◌then◌, refuse_if, lowest}
use Rattle.job.specs.Buffers.{given, refused, answer, ends}
use Rattle.job.proofs.Verdicts.{pass-not-refuse, then-first, then-second, then-passed}

-- a refusal is no pass
pub refused-not : {number place : ℕ} → refuse number place ≡ pass → ⊥
refused-not e = pass-not-refuse e refl

-- two checks in turn pass only if both do
pub then-pass : (v w : Verdict) → (v then w) ≡ pass → (v ≡ pass) × (w ≡ pass)
then-pass v w e = (then-first v w e, then-second v w e)

pub then-on : {u v w : Verdict} → u ≡ pass → v ≡ w → v ≡ (u then w)
then-on {u} {v} {w} p e = e ∙ sym (then-passed u w p)

-- results are given only where the verdict passes
pub given-pass : (v : Verdict) (bs : List ℕ) {xs : List ℕ} → given xs ≡ answer v bs → v ≡ pass
given-pass pass bs e = refl
given-pass (refuse number place) bs e = let z : ◌≡◌ {A = ℕ} 0 1 = cc in absurd (omega arith)

-- a refusal is the verdict's
pub refused-refuse : (v : Verdict) (bs : List ℕ) {number place : ℕ} → refused number place ≡ answer v bs → v ≡ refuse number place
refused-refuse pass bs e = let z : ◌≡◌ {A = ℕ} 0 1 = cc in absurd (omega arith)
refused-refuse (refuse n p) bs e = cc

-- some checks do not refuse with 5
pub record Not5 (v : Verdict) : Type 0 where
  pub other : (place : ℕ) → v ≡ refuse 5 place → ⊥

pub not5-pass : Not5 pass
not5-pass = record { other = λ place e. refused-not (sym e) }

pub not5-refuse : (number place : ℕ) → (number ≡ 5 → ⊥) → Not5 (refuse number place)
not5-refuse number place h = record { other = λ p e. h (cc) }

pub not5-if : (b : Bool) (number place : ℕ) → (number ≡ 5 → ⊥) → Not5 (refuse_if b number place)
not5-if true number place h = not5-refuse number place h
not5-if false number place h = not5-pass

pub not5-then : (v w : Verdict) → Not5 v → Not5 w → Not5 (v then w)
not5-then pass w a b = b
not5-then (refuse number place) w a b = a

module _ {A : Type 0} where
  pub not5-lowest : (number : ℕ) (bad : ℕ → A → Bool) (k : ℕ) (as' : List A) → (number ≡ 5 → ⊥) → Not5 (lowest number bad k as')
  unfolding lowest
  not5-lowest number bad k [] h = not5-pass
  not5-lowest number bad k (a ∷ as') h = by-test (bad k a) (not5-lowest number bad (suc k) as' h)
    where
      by-test : (b : Bool) {v : Verdict} → Not5 v → Not5 (elim b [ true ↦ refuse number k | false ↦ v ])
      by-test true n = not5-refuse number k h
      by-test false n = n

-- after such a refusal a lent buffer ends with zeros
pub ends-zeros : (v : Verdict) {number place : ℕ} → v ≡ refuse number place → Not5 v → (buffer ws : List ℕ) → ends v buffer ws ≡ replicate (length buffer) 0
ends-zeros pass e n buffer ws = absurd (refused-not (sym e))
ends-zeros (refuse number place) e n buffer ws =
    let f : eqb number 5 ≡ false = ne_eqb number 5 (λ q. n.other place (ap (λ (x : ℕ). refuse x place) q)) in
    rw (f, ends)
