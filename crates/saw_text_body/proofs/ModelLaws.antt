-- The model of a saw text's job: kept as the listing call leaves it, and what is known of it where it is not refused.
use Prim.Native.Nat.{ℕ, ◌-◌, ◌≤◌}
use mathlib.Core.Path.{◌≡◌, refl, sym, ap, ◌∙◌}
use mathlib.Core.Bool.{Bool, true, false}
use mathlib.Core.List.{List, [], ◌∷◌}
use lib.Dec.{eqb}
use lib.ListN.{length, replicate}
use Rattle.job.specs.Verdict.{Verdict, pass, refuse}
use Rattle.job.specs.Buffers.{given, ends, sized, plates_size, cuts_size}
use Rattle.job.specs.Job.{job_of, job_words, admission}
use Rattle.job.specs.Admitted.{Admitted}
use Rattle.job.proofs.Verdicts.{then-first, then-second, then-both}
use Rattle.job.proofs.Admission.{admitted-words, admitted-job, admitted-sided, admitted-stocked}
use Rattle.listing.specs.Listing.{model_row, listing_of}
use Rattle.listing.specs.Model.{Model as ListedModel}
use Rattle.listing.specs.Records.{plate_words}
use Rattle.listing.specs.Holds.{Holds}
use Rattle.listing.specs.ListCall.{list_verdict, list_answer, plates_end, cuts_end}
use Rattle.listing.proofs.WalkModel.{row-model}
use Rattle.job.specs.declared.counters.PlateTypes.{PlateTypes}
use Rattle.job.specs.declared.counters.CutNumber.{CutNumber}
use Rattle.job.proofs.CodeEnds.{given-pass}
use Rattle.plan_test.proofs.CodeListed.{Ready, ready}
use Rattle.texts.specs.JobLines.{board_sizes, types_of}
use Rattle.listing_find.specs.Rising.{Rising}
use Rattle.listing_find.proofs.Narrowing.{model-rising}
use Rattle.saw_text_body.specs.declared.model.Model.{Model}
use Rattle.saw_text_body.specs.declared.model.Model.TheVariants.{Listed}
use Rattle.saw_text_body.specs.ModelRead.{says_of, SizesListed, ModelKept}

-- a buffer ends by its length alone
ends-again : (v : Verdict) (b b' ws : List ℕ) → length b' ≡ length b → b' ≡ ends v b ws → b' ≡ ends v b' ws
ends-again pass b b' ws l e = rw l e
ends-again (refuse number place) b b' ws l e = go (eqb number 5) e
  where
    go : (t : Bool) → b' ≡ elim t [ true ↦ b | false ↦ replicate (length b) 0 ] → b' ≡ elim t [ true ↦ b' | false ↦ replicate (length b') 0 ]
    go true p = refl
    go false p = rw l p

pub verdict-again : (ws plates cuts plates' cuts' : List ℕ) → length plates' ≡ length plates → length cuts' ≡ length cuts → list_verdict ws plates' cuts' ≡ list_verdict ws plates cuts
unfolding list_verdict sized
verdict-again ws plates cuts plates' cuts' p c = rw (p, c)

-- as the listing call leaves it
pub model-kept :
    (ws : List ℕ) (a : Model) (plates cuts plates' cuts' : List ℕ)
    → length plates' ≡ length plates
    → length cuts' ≡ length cuts
    → SizesListed (job_of ws) a
    → says_of (job_of ws) a ≡ list_answer ws plates cuts
    → plates' ≡ plates_end (list_verdict ws plates cuts) ws plates
    → cuts' ≡ cuts_end (list_verdict ws plates cuts) ws cuts
    → ModelKept ws a plates' cuts'
unfolding list_answer plates_end cuts_end
model-kept ws a plates cuts plates' cuts' p c o s e f =
    let v = verdict-again ws plates cuts plates' cuts' p c in
    record {
      sizes-listed = o;
      says = rw v s;
      plates-are = rw v (ends-again (list_verdict ws plates cuts) plates plates' _ p e);
      cuts_are = rw v (ends-again (list_verdict ws plates cuts) cuts cuts' _ c f);
    }

-- a job that is admitted and listed, with m plate types and k cuts
pub record Modelled (ws cuts : List ℕ) (m k : ℕ) : Type 0 where
  pub words : job_words ws ≡ pass
  pub admitted : admission (job_of ws) ≡ pass
  pub listed : model_row (job_of ws) ≡ pass
  pub is-ready : Ready ws cuts (board_sizes ws) (types_of ws) m k
  pub rising : Rising (listing_of (job_of ws)).cuts

pub modelled : (ws plates cuts : List ℕ) (m k : ℕ) → cuts_size ≤ length cuts → length (job_of ws).sizes ≤ m → given ((m - length (job_of ws).sizes) ∷ k ∷ []) ≡ list_answer ws plates cuts → cuts ≡ cuts_end (list_verdict ws plates cuts) ws cuts → Modelled ws cuts m k
unfolding list_answer list_verdict
modelled ws plates cuts m k room some says e =
    let job = job_of ws in
    let v = given-pass (list_verdict ws plates cuts) _ says in
    let v1 = then-second (job_words ws) _ v in
    let v2 = then-second (admission job) _ v1 in
    let v3 = then-second (sized 1 plates_size plates) _ v2 in
    let p : model_row job ≡ pass = then-second (sized 2 cuts_size cuts) _ v3 in
    let w : job_words ws ≡ pass = then-first (job_words ws) _ v in
    let a : admission job ≡ pass = then-first (admission job) _ v1 in
    let all : Admitted job = admitted-job ws ((admitted-words ws).0 (then-both (job_words ws) (admission job) w a)) in
    let model : ListedModel job (listing_of job) = row-model job (admitted-sided job all) (admitted-stocked job all) p in
    record {
      words = w;
      admitted = a;
      listed = p;
      is-ready = ready ws cuts cuts (board_sizes ws) (types_of ws) m k w a refl refl (rw p (rw v at says)) some (rw p (rw v at e)) refl room;
      rising = model-rising job (listing_of job) model;
    }

-- the same of a kept model that is not refused
pub kept-modelled : (ws plates cuts : List ℕ) (a : Model) (m : PlateTypes) (k : CutNumber) → a ≡ Listed m k → cuts_size ≤ length cuts → ModelKept ws a plates cuts → Modelled ws cuts m.0 k.0
kept-modelled ws plates cuts a m k e room kept = modelled ws plates cuts m.0 k.0 room (rw e at kept.sizes-listed) (sym (ap (says_of (job_of ws)) e) ∙ kept.says) kept.cuts_are

-- and the plates that it leaves
pub kept-plates : (ws plates cuts : List ℕ) (a : Model) (m : PlateTypes) (k : CutNumber) → a ≡ Listed m k → ModelKept ws a plates cuts → Holds plates (plate_words (job_of ws) (listing_of (job_of ws)).plates)
unfolding list_answer plates_end
kept-plates ws plates cuts a m k e kept =
    let v : list_verdict ws plates cuts ≡ pass = given-pass (list_verdict ws plates cuts) _ (sym (ap (says_of (job_of ws)) e) ∙ kept.says) in
    record { words = rw v at kept.plates-are }
