-- How a call ends whose rows come in two parts, the model and what is tested by it, on plain values: its answer, and what it leaves in plates and cuts.
use mathlib.Core.Path.{◌≡◌, sym, ◌∙◌}
use Prim.Native.Nat.{ℕ}
use mathlib.Core.List.{List}
use lib.ListN.{length, replicate}
use Rattle.job.specs.Verdict.{Verdict, refuse, ◌then◌}
use Rattle.job.specs.Buffers.{given, refused, answer}
use Rattle.job.proofs.CodeEnds.{given-pass, refused-refuse, Not5, ends-zeros}
use Rattle.listing.specs.ListCall.{plates_end, cuts_end}
pub use Rattle.listing_call.proofs.CodeEnding.{Ended, zeros}

-- a refusal with another number than 5, after which both buffers have been cleared
pub cleared-end : (ws plates cuts plates' cuts' : List ℕ) (v : Verdict) (bs : List ℕ) {number place : ℕ} → v ≡ refuse number place → Not5 v → plates' ≡ replicate (length plates) 0 → cuts' ≡ replicate (length cuts) 0 → Ended v bs ws plates cuts (refused number place) plates' cuts'
unfolding plates_end cuts_end
cleared-end ws plates cuts plates' cuts' v bs e n ep ec =
    (rw e, (ep ∙ sym (ends-zeros v e n plates _), ec ∙ sym (ends-zeros v e n cuts _)))

-- some rows, with results of their own, which left the buffers as they end; and rows after them
module _ (ws plates cuts plates' cuts' : List ℕ) (u w : Verdict) (rs bs : List ℕ) where
  module _ {xs : List ℕ} (passes : given xs ≡ answer u rs) where
    pub both-passed : {ys : List ℕ} → given ys ≡ answer w bs → plates' ≡ plates_end u ws plates → cuts' ≡ cuts_end u ws cuts → Ended (u then w) bs ws plates cuts (given ys) plates' cuts'
    both-passed e ep ec =
        let p = given-pass u rs passes in
        let q = given-pass w bs e in
        (rw p e, (rw (p, q) (rw p at ep), rw (p, q) (rw p at ec)))

    pub second-refused : {number place : ℕ} → refused number place ≡ answer w bs → Not5 w → plates' ≡ replicate (length plates) 0 → cuts' ≡ replicate (length cuts) 0 → Ended (u then w) bs ws plates cuts (refused number place) plates' cuts'
    second-refused e n ep ec =
        let p = given-pass u rs passes in
        rw p (cleared-end ws plates cuts plates' cuts' w bs (refused-refuse w bs e) n ep ec)
