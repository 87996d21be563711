-- How a call ends, on plain values, by the rows before the model and by those from it on; and how the walk of the listing ends.
use mathlib.Core.Path.{◌≡◌, refl, sym, ap, subst, ◌∙◌}
use Prim.Native.Nat.{ℕ, ◌-◌, ◌≤◌, ◌<◌}
use mathlib.Core.List.{List, [], ◌∷◌, flat_map, map}
use native.Mathlib.Omega.{arith}
use lib.ListN.{length, get_or, replicate, length-map}
use Rattle.job.specs.Sizes.{max_sizes, plates_size, cuts_size}
use Rattle.job.specs.Verdict.{Verdict, pass, refuse, ◌then◌}
use Rattle.job.specs.Buffers.{Answer, given, refused, answer, ends, sized}
use Rattle.job.specs.Job.{Job, job_of, unturned, turned, job_words, admission}
use Rattle.job.specs.Admitted.{Sided}
use Rattle.job.proofs.Admission.{words_right}
use Rattle.job.proofs.CodeItems.{items-length}
use Rattle.job.proofs.Positions.{permitted-by}
use Rattle.job.proofs.Verdicts.{then-assoc, then-first, then-second}
use Rattle.job.proofs.Buffers.{sized-pass}
use Rattle.job.proofs.CodeEnds.{given-pass, not5-refuse, ends-zeros}
use Rattle.listing.specs.Listing.{going, stopped, walk_start, walk, model_row, listing_of, residual_types}
use Rattle.listing.specs.Numbering.{IsListing}
use Rattle.listing.specs.ListCall.{list_verdict, plates_end, cuts_end}
use Rattle.listing.specs.Plate.{board}
use Rattle.listing.specs.Records.{plate_words_from, plate_words, cut_words}
use Rattle.listing.specs.Holds.{Holds}
use Rattle.listing.proofs.CodeHolds.{cleared}
use Rattle.listing.proofs.Steps.{row-going, row-stopped, row-listing, listing-going}
use Rattle.listing.proofs.ListingExact.{listing-exact}
use Rattle.std.specs.Prelude.{Result, Ok, Err}
use Rattle.job.specs.declared.refused.Refused.{Refused}
use Rattle.listing_call.specs.declared.walk.Listed.{Listed}
use Rattle.listing_call.specs.ListSays.{says_of, SizesListed, OnListed}
use Rattle.listing_call.specs.Steps.{Rep, Here}

-- words that passed have item types with sides of at least 1
pub passed-sided : (ws : List ℕ) → job_words ws ≡ pass → Sided (job_of ws)
unfolding unturned turned
passed-sided ws e =
    let r = words_right ws e in
    permitted-by (job_of ws) (λ p. (1 ≤ p.width) × (1 ≤ p.height))
    (λ i a b. let l = r.each_item i a (omega (arith, items-length ws (get_or ws 3 0) r.whole)) in ((l.width-limits.0, l.height-limits.0), (l.height-limits.0, l.width-limits.0)))

-- before the walk: cleared buffers, and the sizes written as the first plate types
pub none-held : (job : Job) {buffer : List ℕ} (n : ℕ) → buffer ≡ replicate n 0 → Holds buffer (plate_words job [])
unfolding plate_words plate_words_from
none-held job n e = cleared n e

pub sizes-held :
    (job : Job) {plates cuts : List ℕ} (n t : ℕ)
    → length job.sizes ≡ t
    → t ≤ max_sizes
    → Holds plates (plate_words job (map board job.sizes))
    → cuts ≡ replicate n 0
    → Rep job (walk_start job) plates cuts t 0
unfolding cut_words flat_map
sizes-held job n t l few h e = record {
  of-sizes = refl;
  of-plates = h;
  of-cuts = cleared n e;
  plate-count = length-map job.sizes board ∙ l;
  cut-count = refl;
  few-plates = omega arith;
  few-cuts = omega arith;
  some-plates = omega arith;
}

-- how a call ends, by the verdict of its rows: its answer, which has the results `bs` where it succeeds, and what it leaves in plates and cuts
abbrev pub Ended : Verdict → List ℕ → List ℕ → List ℕ → List ℕ → Answer → List ℕ → List ℕ → Type 0
Ended v bs ws plates cuts a plates' cuts' =
    (a ≡ answer v bs) × ((plates' ≡ plates_end v ws plates) × (cuts' ≡ cuts_end v ws cuts))

-- that many zeros
abbrev pub zeros : ℕ → List ℕ
zeros n = replicate n 0

-- what a refusal of that number leaves of a buffer, whatever place it names
abbrev pub Left : ℕ → List ℕ → List ℕ → Type 0
Left number buffer buffer' = (place : ℕ) (xs : List ℕ) → buffer' ≡ ends (refuse number place) buffer xs

-- the rows before the model, and those from it on
module _ (ws plates cuts : List ℕ) (before after : Verdict) (bs : List ℕ) where
  -- where the first refuse, the call does, and both buffers end as after that refusal
  pub before-refuses :
      {plates' cuts' : List ℕ} (number place : ℕ)
      → before ≡ refuse number place
      → Left number plates plates'
      → Left number cuts cuts'
      → Ended (before then after) bs ws plates cuts (refused number place) plates' cuts'
  unfolding plates_end cuts_end
  before-refuses number place e ep ec = rw e (refl, (ep place [], ec place []))

  -- where they pass, the others decide
  pub before-pass :
      {a : Answer} {plates' cuts' : List ℕ}
      → before ≡ pass
      → Ended after bs ws plates cuts a plates' cuts'
      → Ended (before then after) bs ws plates cuts a plates' cuts'
  before-pass e r = rw e r

-- "listing, the numbers of residual types and cuts"
abbrev pub listing_results : List ℕ → List ℕ
listing_results ws = residual_types (listing_of (job_of ws)) ∷ length (listing_of (job_of ws)).cuts ∷ []

module _ (ws plates cuts plates' cuts' : List ℕ) where
  -- the walk went to its end
  pub walked : {m k : ℕ} → Here (job_of ws) going (walk (job_of ws)) plates' cuts' m k → length plates' ≡ length plates → length cuts' ≡ length cuts → Ended (model_row (job_of ws)) (listing_results ws) ws plates cuts (given ((m - length (job_of ws).sizes) ∷ k ∷ [])) plates' cuts'
  unfolding residual_types plates_end cuts_end
  walked h ep ec =
      rw (row-going (job_of ws) h.l (sym h.goes_on), listing-going (job_of ws) h.l (sym h.goes_on), h.rep.of-sizes, h.rep.plate-count, h.rep.cut-count)
      (refl, (rw (← ep) h.rep.of-plates.words, rw (← ec) h.rep.of-cuts.words))

  -- the walk met 6 or 7, and both buffers have been cleared
  pub walk-stopped : (number : ℕ) → walk (job_of ws) ≡ stopped number → 5 < number → plates' ≡ replicate (length plates) 0 → cuts' ≡ replicate (length cuts) 0 → Ended (model_row (job_of ws)) (listing_results ws) ws plates cuts (refused number 0) plates' cuts'
  unfolding plates_end cuts_end
  walk-stopped number e h ep ec =
      let v : model_row (job_of ws) ≡ refuse number 0 = row-stopped (job_of ws) number e in
      let n = not5-refuse number 0 (λ q. omega arith) in
      rw v (refl, (ep ∙ sym (ends-zeros (refuse number 0) refl n plates []), ec ∙ sym (ends-zeros (refuse number 0) refl n cuts [])))

-- the rows of the listing call before the model: the job, and then the lent buffers
abbrev pub rows_before : List ℕ → List ℕ → List ℕ → Verdict
rows_before ws plates cuts = (job_words ws then admission (job_of ws)) then sized 1 plates_size plates then sized 2 cuts_size cuts

module _ (ws plates cuts : List ℕ) where
  -- the call's verdict: these rows, and then the model
  pub list-rows : list_verdict ws plates cuts ≡ (rows_before ws plates cuts then model_row (job_of ws))
  unfolding list_verdict
  list-rows =
      let a = job_words ws in
      let b = admission (job_of ws) in
      let c = sized 1 plates_size plates in
      let d = sized 2 cuts_size cuts in
      let e = model_row (job_of ws) in
      sym (then-assoc (a then b) (c then d) e ∙ then-assoc a b ((c then d) then e) ∙ ap (λ (v : Verdict). a then b then v) (then-assoc c d e))

  -- where these rows pass, the job is admitted
  pub before-admitted : rows_before ws plates cuts ≡ pass → (job_words ws then admission (job_of ws)) ≡ pass
  before-admitted e = then-first (job_words ws then admission (job_of ws)) _ e

  -- and so the words are right and both buffers of full size
  pub before-passed : rows_before ws plates cuts ≡ pass → (job_words ws ≡ pass) × ((plates_size ≤ length plates) × (cuts_size ≤ length cuts))
  before-passed e =
      let a = before-admitted e in
      let b = then-second (job_words ws then admission (job_of ws)) _ e in
      (then-first (job_words ws) _ a, (sized-pass 1 plates_size plates (then-first (sized 1 plates_size plates) _ b), sized-pass 2 cuts_size cuts (then-second (sized 1 plates_size plates) _ b)))

-- a listing that is done has the sizes among its plate types
pub sizes-listed : (job : Job) {a : Result Listed Refused} {n : Listed} → a ≡ Ok n → SizesListed job a → length job.sizes ≤ n.plates.0
sizes-listed job e = subst (SizesListed job) e

-- what a call that succeeds has listed is the listing of the job
pub listed-is :
    (ws : List ℕ) (a : Result Listed Refused)
    → (job_words ws then admission (job_of ws)) ≡ pass
    → says_of (job_of ws) a ≡ answer (model_row (job_of ws)) (listing_results ws)
    → OnListed a (IsListing (job_of ws) (listing_of (job_of ws)))
listed-is ws (Ok n) admitted e =
    ((listing-exact.admitted ws admitted).walked (listing_of (job_of ws))).0 (row-listing (job_of ws) (given-pass (model_row (job_of ws)) (listing_results ws) e))
listed-is ws (Err r) admitted e = tt

-- a call that succeeds keeps its promise
pub listed-done : {a : Result Listed Refused} {n : Listed} {promise : Type 0} → a ≡ Ok n → OnListed a promise → promise
listed-done {promise = promise} e = subst (λ (x : Result Listed Refused). OnListed x promise) e
