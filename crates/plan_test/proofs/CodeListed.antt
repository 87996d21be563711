-- What the code knows once a job is listed: the cuts that it reads are those of the job's listing, and each is in range.
use mathlib.Core.Path.{◌≡◌, sym, ap, ◌∙◌}
use Prim.Native.Nat.{ℕ, suc, ◌-◌, ◌≤◌, ◌<◌}
use mathlib.Core.List.{List, [], ◌∷◌}
use native.Mathlib.Omega.{arith}
use lib.ListN.{length, get_or}
use Rattle.job.specs.Sizes.{cuts_size, job_size}
use Rattle.job.specs.Verdict.{pass, ◌then◌}
use Rattle.job.specs.Buffers.{given, answer}
use Rattle.job.specs.Job.{Job, job_of, type_of, job_words, admission}
use Rattle.job.specs.Admitted.{Between, Admitted}
use Rattle.job.proofs.CodeItems.{items-length}
use Rattle.job.proofs.SizeWords.{sizes-length}
use Rattle.job.proofs.CodeAdmission.{passed_length, passed-few-sizes, passed-few}
use Rattle.job.proofs.Positions.{permitted-type}
use Rattle.job.specs.Head.{HeadOf}
use Rattle.job.specs.declared.head.Head.{Head}
use Rattle.job.specs.declared.refused.Refused.{Refused}
use Rattle.std.specs.Prelude.{Result, Ok}
use Rattle.job.proofs.Verdicts.{then-first, then-second, then-both}
use Rattle.job.proofs.Admission.{admitted-words, admitted-job, admitted-sided, admitted-stocked}
use Rattle.job.proofs.CodeEnds.{given-pass}
use Rattle.listing.specs.Listing.{Listing, plate_at, cut_at, model_row, listing_of, residual_types}
use Rattle.listing.specs.Model.{Model, item_of}
use Rattle.listing.specs.Records.{cut_words}
use Rattle.listing.specs.Holds.{Holds}
use Rattle.listing.specs.ListCall.{cuts_end}
use Rattle.listing.proofs.Plates.{may-cut}
use Rattle.listing.proofs.ModelLaws.{numbered_below}
use Rattle.listing.proofs.WalkModel.{row-model}
use Rattle.listing.specs.CutRead.{cuts_read, Sound, Lent}
use Rattle.listing.proofs.CodeCuts.{held-cuts}
use Rattle.listing_call.specs.declared.walk.Listed.{Listed}
use Rattle.listing_call.specs.ListSays.{says_of, SizesListed}
use Rattle.listing_call.proofs.CodeEnding.{listing_results, sizes-listed}

-- the cuts of the model are in range
model-sound : (job : Job) (l : Listing) → Model job l → Sound (length l.plates) (length job.items) l.cuts
unfolding cut_at
model-sound job l m =
    record {
      each = λ c h. record {
        on-plate = m.on-plate c h;
        from_one = (of-type c h).0;
        of-item = (of-type c h).1;
        top-plate = numbered_below job l _ _ (some m) (m.top-numbered c h);
        right-plate = numbered_below job l _ _ (some m) (m.right-numbered c h);
      };
    }
  where
    -- there is a plate type, a size
    some : Model job l → 0 < length l.plates
    some m = omega (arith, m.some_size, m.size-plates)

    -- its position is permitted, and so of an item type of the job
    of-type : (c : ℕ) → c < length l.cuts → Between 1 (length job.items) (type_of (cut_at l (suc c)).item)
    of-type c h =
        let k = cut_at l (suc c) in
        permitted-type job k.item (may-cut job.mode (item_of job k) (plate_at l k.plate) (m.permitted c h)).allowed

-- a job of t sizes and n item types that is admitted and listed, with m plate types and k cuts, the cuts of which the buffer has
pub record Ready (ws cuts : List ℕ) (t n m k : ℕ) : Type 0 where
  pub sizes : (listing_of (job_of ws)).sizes ≡ t
  pub types : length (listing_of (job_of ws)).plates ≡ m
  pub listed : (listing_of (job_of ws)).cuts ≡ cuts_read k cuts
  pub lent : Lent ws cuts t n m k

module _ (ws cuts cuts' : List ℕ) (t n m k : ℕ) (words : job_words ws ≡ pass) (admitted : admission (job_of ws) ≡ pass) (of-sizes : t ≡ get_or ws 2 0) (of_types : n ≡ get_or ws 3 0) where
  pub ready : given ((m - length (job_of ws).sizes) ∷ k ∷ []) ≡ answer (model_row (job_of ws)) (listing_results ws) → length (job_of ws).sizes ≤ m → cuts' ≡ cuts_end (model_row (job_of ws)) ws cuts → length cuts' ≡ length cuts → cuts_size ≤ length cuts → Ready ws cuts' t n m k
  unfolding residual_types cuts_end
  ready e some h l s =
      let job = job_of ws in
      let listing = listing_of job in
      let p : model_row job ≡ pass = given-pass (model_row job) _ e in
      let all : Admitted job = admitted-job ws ((admitted-words ws).0 (then-both (job_words ws) (admission job) words admitted)) in
      let model : Model job listing = row-model job (admitted-sided job all) (admitted-stocked job all) p in
      let v : given ((m - length job.sizes) ∷ k ∷ []) ≡ given (residual_types listing ∷ length listing.cuts ∷ []) = rw p at e in
      let a : m - length job.sizes ≡ length listing.plates - listing.sizes = cc in
      let b : length listing.cuts ≡ k = cc in
      let types : length listing.plates ≡ m = omega (arith, model.sized, model.size-plates) in
      let held : Holds cuts' (cut_words listing.cuts) = record { words = rw l (rw p at h) } in
      let c : listing.cuts ≡ cuts_read k cuts' = held-cuts listing.cuts k held b in
      let long : length ws ≡ job_size (get_or ws 2 0) n = rw of_types (passed_length ws words) in
      let sizes : length job.sizes ≡ t = sizes-length ws (omega (arith, long)) ∙ sym of-sizes in
      let i : length job.items ≡ n = items-length ws n long in
      record {
        sizes = model.sized ∙ sizes;
        types = types;
        listed = c;
        lent = record {
          job-words = omega (arith, long);
          job-sizes = sym of-sizes;
          few-sizes = rw of-sizes (passed-few-sizes ws words);
          few-items = rw of_types (passed-few ws words);
          some-plates = omega (arith, model.size-plates);
          few-plates = omega (arith, model.few-plates);
          few-cuts = omega (arith, model.few-cuts);
          cut-words = omega (arith, model.few-cuts);
          sound = rw (← types, ← i, ← c) (model-sound job listing model);
        };
      }

-- the same of a call that has listed the job, whose head was read
module _ (ws cuts cuts' : List ℕ) (job : (job_words ws then admission (job_of ws)) ≡ pass) {head : Head} (of : HeadOf ws head) where
  pub listed-ready :
      {a : Result Listed Refused} {x : Listed}
      → a ≡ Ok x
      → SizesListed (job_of ws) a
      → says_of (job_of ws) a ≡ answer (model_row (job_of ws)) (listing_results ws)
      → cuts' ≡ cuts_end (model_row (job_of ws)) ws cuts
      → length cuts' ≡ length cuts
      → cuts_size ≤ length cuts
      → Ready ws cuts' head.sizes.0 head.types.0 x.plates.0 x.cuts.0
  listed-ready is s e h l z =
      let words = then-first (job_words ws) _ job in
      let admitted = then-second (job_words ws) _ job in
      let done = sym (ap (says_of (job_of ws)) is) ∙ e in
      ready ws cuts cuts' _ _ _ _ words admitted of.of-sizes of.of_types done (sizes-listed (job_of ws) is s) h l z
