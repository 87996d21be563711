-- The turns of the walk's two loops, on plain values: what is left to do from here is the whole walk.
use mathlib.Core.Path.{◌≡◌, refl, sym, ap, subst, ◌∙◌}
use Prim.Native.Nat.{ℕ, suc, ◌+◌, ◌-◌, ◌*◌, ◌≤◌, ◌<◌}
use mathlib.Core.Logic.{◌⊎◌, inl, inr}
use mathlib.Core.Bool.{false}
use mathlib.Core.List.{List}
use native.Mathlib.Numerals.{add-one}
use native.Mathlib.Omega.{arith}
use borrow.Author.Tests.{lt-ltb}
use lib.ListN.{length, get_or, drop}
use Rattle.job.specs.declared.mode.Mode.{Mode}
use Rattle.job.specs.declared.item.Position.{Position}
use Rattle.job.specs.Sizes.{max_plates, max_cuts}
use Rattle.job.specs.Job.{Job, job_of, positions, position_at, permitted}
use Rattle.job.specs.JobWords.{JobWords}
use Rattle.job.proofs.CodeItems.{positions-from, positions-end}
use Rattle.job.proofs.CodeJobWords.{words-items}
use Rattle.job.proofs.Tests.{at-most-or-above}
use Rattle.job.proofs.Positions.{positions-length}
use Rattle.listing.specs.declared.plate.Plate.{Plate}
use Rattle.listing.specs.Plate.{waste, may_cut}
use Rattle.listing.specs.Listing.{Listing, Walk, going, stopped, walk_start, plate_at, pair, over_items, over_plates, walk_within, walk}
use Rattle.listing.specs.Holds.{plate_read}
use Rattle.listing.proofs.CodeHolds.{held-plate}
use Rattle.listing.proofs.Steps.{plates-end}
use Rattle.listing_positions.specs.Least.{least_of}
use Rattle.listing_positions.specs.Table.{Next}
use Rattle.std.specs.Prelude.{Result, Ok, Err}
use Rattle.job.specs.declared.refused.Refusal.{Refusal}
use Rattle.job.specs.Refused.{number_of}
use Rattle.listing_call.specs.declared.walk.Listed.{Listed}
use Rattle.listing_call.specs.Steps.{Ready, Rep, Here, Known, Stands, and_then, rest_walk, rest_row, Goes, Stepped}
use Rattle.listing_call.proofs.Pairing.{Paired, step-none}

-- buffers and tables that have kept their lengths
pub record Lengths (plates₀ index₀ leasts₀ cuts₀ plates index leasts cuts : List ℕ) : Type 0 where
  pub of-plates : length plates ≡ length plates₀
  pub of-index : length index ≡ length index₀
  pub of-leasts : length leasts ≡ length leasts₀
  pub of-cuts : length cuts ≡ length cuts₀

-- twice
pub lengths-then : {plates₀ index₀ leasts₀ cuts₀ plates₁ index₁ leasts₁ cuts₁ plates index leasts cuts : List ℕ} → Lengths plates₀ index₀ leasts₀ cuts₀ plates₁ index₁ leasts₁ cuts₁ → Lengths plates₁ index₁ leasts₁ cuts₁ plates index leasts cuts → Lengths plates₀ index₀ leasts₀ cuts₀ plates index leasts cuts
lengths-then a b =
    record {
      of-plates = b.of-plates ∙ a.of-plates;
      of-index = b.of-index ∙ a.of-index;
      of-leasts = b.of-leasts ∙ a.of-leasts;
      of-cuts = b.of-cuts ∙ a.of-cuts;
    }

-- and so have the room that they had
pub still-ready : {ws : List ℕ} {mode : Mode} {blade : ℕ} {table plates₀ index₀ leasts₀ cuts₀ plates index leasts cuts : List ℕ} → Ready ws mode blade table plates₀ index₀ leasts₀ cuts₀ → Lengths plates₀ index₀ leasts₀ cuts₀ plates index leasts cuts → Ready ws mode blade table plates index leasts cuts
still-ready r l =
    record {
      of-mode = r.of-mode;
      of-blade = r.of-blade;
      sided = r.sided;
      few-positions = r.few-positions;
      of-table = r.of-table;
      table-room = r.table-room;
      plate-room = rw l.of-plates r.plate-room;
      index-room = rw l.of-index r.index-room;
      least-room = rw l.of-leasts r.least-room;
      cut-room = rw l.of-cuts r.cut-room;
    }

-- going on with f and then with g
then-then : (w : Walk) (f g : Listing → Walk) → and_then (and_then w f) g ≡ and_then w (λ l. and_then (f l) g)
then-then (going l) f g = refl
then-then (stopped n) f g = refl

-- there are two positions for each item type, from 2 on
pub last-position : {ws : List ℕ} {mode : Mode} {t n : ℕ} → JobWords ws mode t n → length (positions (job_of ws)) ≡ 2 * n + 1
last-position {ws} w = omega (arith, positions-length (job_of ws), words-items w)

-- before the first plate type
pub walk_start_lem : (job : Job) {plates index leasts cuts : List ℕ} {t : ℕ} → Rep job (walk_start job) plates cuts t 0 → Known job (walk_start job).plates index leasts → Stands job (rest_walk job 0) plates index leasts cuts t 0
unfolding walk walk_within
walk_start_lem job r n = record { here = record { l = walk_start job; rep = r; goes_on = refl }; known = n }

-- the row of plate type j, and then the plate types after it
walk-row : (job : Job) (j : ℕ) (l : Listing) → j < length l.plates → length l.plates ≤ max_plates → rest_walk job j l ≡ rest_row job j (plate_at l j) 1 l
unfolding over_plates
walk-row job j l h few =
    let e : max_plates - j ≡ suc (max_plates - suc j) = omega arith in
    rw (add-one, e, lt-ltb _ _ h, over_plates)

-- number 1 is not permitted: the row begins with number 2
row_first : (job : Job) (j : ℕ) (q : Plate) (l : Listing) → rest_row job j q 2 l ≡ rest_row job j q 1 l
unfolding over_items pair may_cut positions
row_first job j q l = refl

-- what is not permitted may not be cut
not-allowed : (m : Mode) (item : Position) (q : Plate) → item.allowed ≡ false → may_cut m item q ≡ false
unfolding may_cut
not-allowed m item q e = rw e

-- position i, and then those after it
row-turn : (job : Job) (j : ℕ) (q : Plate) (i : ℕ) (l : Listing) → 1 ≤ i → i ≤ length (positions job) → over_items max_plates max_cuts job j q i (drop (i - 1) (positions job)) l ≡ and_then (pair max_plates max_cuts job j q i (position_at job i) l) (over_items max_plates max_cuts job j q (i + 1) (drop (i + 1 - 1) (positions job)))
unfolding over_items
row-turn job j q i l a b = rw (positions-from job i a b, add-one)

row-over : (job : Job) (j : ℕ) (q : Plate) (i : ℕ) (l : Listing) → length (positions job) < i → over_items max_plates max_cuts job j q i (drop (i - 1) (positions job)) l ≡ going l
unfolding over_items
row-over job j q i l a = rw (positions-end job i a)

module _ (job : Job) (j : ℕ) {plates index leasts cuts : List ℕ} {m k : ℕ} where
  pub walk_end : Stands job (rest_walk job j) plates index leasts cuts m k → m ≤ j → Here job going (walk job) plates cuts m k
  walk_end s e =
      let h = s.here in
      record {
        l = h.l;
        rep = h.rep;
        goes_on = sym (plates-end max_plates max_cuts job (max_plates - j) j h.l (omega (arith, h.rep.plate-count))) ∙ h.goes_on;
      }

  module _ (s : Stands job (rest_walk job j) plates index leasts cuts m k) (e : j < m) (q : Plate) (eq : q ≡ plate_read plates j) where
    -- plate type j, as it is read from the buffer
    is-plate : q ≡ get_or s.here.l.plates j waste
    is-plate = eq ∙ held-plate job s.here.l.plates s.here.rep.of-plates j

    -- its least side
    pub row-least : {x : ℕ} → x ≡ get_or leasts j 0 → x ≡ least_of job q
    row-least x = x ∙ s.known.of-leasts j (omega (arith, s.here.rep.plate-count)) ∙ ap (least_of job) (sym is-plate)

    -- into its row
    pub row-start : Stands job (rest_row job j q 2) plates index leasts cuts m k
    unfolding plate_at
    row-start =
        let h = s.here in
        record {
          here = record {
            l = h.l;
            rep = h.rep;
            goes_on = ap (λ (x : Plate). rest_row job j x 2 h.l) is-plate ∙ row_first job j (plate_at h.l j) h.l ∙ sym (walk-row job j h.l (omega (arith, h.rep.plate-count)) (omega (arith, h.rep.plate-count, h.rep.few-plates))) ∙ h.goes_on;
          };
          known = s.known;
        }

  module _ (q : Plate) (i : ℕ) (s : Stands job (rest_row job j q i) plates index leasts cuts m k) where
    module _ (a : 1 ≤ i) (b : i ≤ length (positions job)) where
      -- position i is next, and then those after it
      turned : and_then (pair max_plates max_cuts job j q i (position_at job i) s.here.l) (rest_row job j q (i + 1)) ≡ walk job
      turned = sym (ap (λ (w : Walk). and_then w (rest_walk job (j + 1))) (row-turn job j q i s.here.l a b) ∙ then-then (pair max_plates max_cuts job j q i (position_at job i) s.here.l) _ _) ∙ s.here.goes_on

      -- its pair goes on, and so does the row
      pub row_next : {plates' index' leasts' cuts' : List ℕ} {m' k' : ℕ} → Paired job (pair max_plates max_cuts job j q i (position_at job i) s.here.l) plates' index' leasts' cuts' m' k' → Stands job (rest_row job j q (i + 1)) plates' index' leasts' cuts' m' k'
      row_next p = record {
        here = record {
          l = p.here.l;
          rep = p.here.rep;
          goes_on = ap (λ (w : Walk). and_then w (rest_row job j q (i + 1))) p.here.goes_on ∙ turned;
        };
        known = p.known;
      }

      -- its pair stops, and so does the walk
      pub row-stop : {number : ℕ} → pair max_plates max_cuts job j q i (position_at job i) s.here.l ≡ stopped number → walk job ≡ stopped number
      row-stop p = sym turned ∙ ap (λ (w : Walk). and_then w (rest_row job j q (i + 1))) p

    -- past the last position the row is at its end, and so it is from the next number on
    past_row : length (positions job) < i → rest_walk job (j + 1) s.here.l ≡ walk job
    past_row a = sym (ap (λ (w : Walk). and_then w (rest_walk job (j + 1))) (row-over job j q i s.here.l a)) ∙ s.here.goes_on

    pub row-end : length (positions job) < i → Stands job (rest_walk job (j + 1)) plates index leasts cuts m k
    row-end a = record { here = record { l = s.here.l; rep = s.here.rep; goes_on = past_row a }; known = s.known }

    -- a position that is not permitted is passed over
    row-skip : 1 ≤ i → permitted job i ≡ false → Stands job (rest_row job j q (i + 1)) plates index leasts cuts m k
    row-skip a f = go (at-most-or-above (suc (length (positions job))) i)
      where
        go : (suc (length (positions job)) ≤ i) ⊎ (i < suc (length (positions job))) → Stands job (rest_row job j q (i + 1)) plates index leasts cuts m k
        go (inr b) = row_next a (omega arith) (step-none job j q i (position_at job i) s.here.l s.here.rep s.known (not-allowed job.mode (position_at job i) q f))
        go (inl b) =
            record {
              here = record {
                l = s.here.l;
                rep = s.here.rep;
                goes_on = ap (λ (w : Walk). and_then w (rest_walk job (j + 1))) (row-over job j q (i + 1) s.here.l (omega arith)) ∙ past_row (omega arith);
              };
              known = s.known;
            }

  -- to the permitted position that follows position i
  pub row-to : (q : Plate) (i x : ℕ) → Next job i x → Stands job (rest_row job j q (i + 1)) plates index leasts cuts m k → Stands job (rest_row job j q x) plates index leasts cuts m k
  row-to q i x n s = go n.follows
    where
      go : (x ≡ i + 1) ⊎ ((x ≡ i + 2) × (permitted job (i + 1) ≡ false)) → Stands job (rest_row job j q x) plates index leasts cuts m k
      go (inl e) = rw e s
      go (inr (e, f)) =
          let z : x ≡ i + 1 + 1 = omega arith in
          rw z (row-skip q (i + 1) s (omega arith) f)

-- an answer taken apart
pub goes-next : {job : Job} {rest : Listing → Walk} {a : Result Listed Refusal} {n : Listed} {plates index leasts cuts : List ℕ} → a ≡ Ok n → Goes job rest a plates index leasts cuts → Stands job rest plates index leasts cuts n.plates.0 n.cuts.0
goes-next {job} {rest} {plates = plates} {index = index} {leasts = leasts} {cuts = cuts} e = subst (λ (x : Result Listed Refusal). Goes job rest x plates index leasts cuts) e

module _ {job : Job} {w : Walk} {a : Result Listed Refusal} where
  pub as-next : {n : Listed} {plates cuts : List ℕ} → a ≡ Ok n → Stepped job w a plates cuts → Here job going w plates cuts n.plates.0 n.cuts.0
  as-next {plates = plates} {cuts = cuts} e = subst (λ (x : Result Listed Refusal). Stepped job w x plates cuts) e

pub as-stop : (job : Job) {w : Walk} {a : Result Listed Refusal} {r : Refusal} (plates cuts : List ℕ) → a ≡ Err r → Stepped job w a plates cuts → (w ≡ stopped (number_of r)) × (5 < number_of r)
as-stop job {w} plates cuts e = subst (λ (x : Result Listed Refusal). Stepped job w x plates cuts) e
