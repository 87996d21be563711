-- A residual entered, on plain values: the three cases of the definition, and what the code answers in each.
use mathlib.Core.Path.{◌≡◌, refl, sym, ap, subst, ◌∙◌}
use Prim.Native.Nat.{ℕ, suc, ◌+◌, ◌≤◌, ◌<◌}
use mathlib.Core.Logic.{◌⊎◌, inl, inr}
use mathlib.Core.Bool.{Bool, true, false}
use mathlib.Core.List.{List, [], ◌∷◌, ◌++◌}
use native.Mathlib.Omega.{arith}
use borrow.Author.Tests.{lt-ltb, le-ltb, ltb-true, ltb-false, le-leb, lt-leb}
use lib.Dec.{ltb}
use lib.ListN.{length, get_or, set, length-append, get_or-append, get_or-eq_default}
use lib.Seq.{get_or-set_same, get_or-set_other, get_or-append_seam}
use Rattle.job.specs.Sizes.{max_plates}
use Rattle.job.proofs.Tests.{at-most-or-above}
use Rattle.job.specs.declared.size.Size.{Size}
use Rattle.job.specs.Job.{Job, no_size, size_at}
use Rattle.listing.specs.declared.plate.Plate.{Plate}
use Rattle.listing.specs.Plate.{waste, kept}
use Rattle.listing.specs.Listing.{Entry, number_from, entered}
use Rattle.listing.specs.Records.{plate_words}
use Rattle.listing.specs.Holds.{Holds}
use Rattle.listing.proofs.Numbers.{from-before}
use Rattle.listing_index.specs.Index.{Indexed, New}
use Rattle.listing_positions.specs.Least.{least_of}
use Rattle.listing_call.specs.declared.entry.Entered.{Entered}
use Rattle.std.specs.Prelude.{Result, Ok, Err}
use Rattle.job.specs.declared.refused.Refusal.{Refusal}
use Rattle.job.specs.declared.refused.Refusal.TheVariants.{PlatesMany}
use Rattle.listing_call.specs.Steps.{Holding, KeptFrom, EnteredIn, EnteredAs}

-- past the sizes a plate type costs nothing
pub residual-cost : (job : Job) (m : ℕ) → length job.sizes ≤ m → (size_at job m).cost ≡ 0
unfolding size_at
residual-cost job m h = ap (λ (z : Size). z.cost) (get_or-eq_default job.sizes no_size h)

abbrev entry : ℕ → List Plate → Entry
entry j ps = record { number = j; plates = ps }

module _ (job : Job) (p : Plate) (ps : List Plate) where
  -- the number of sizes
  abbrev t : ℕ
  t = length job.sizes

  -- not kept
  entered-waste : kept job p ≡ false → entered job p ps ≡ entry 0 ps
  unfolding entered
  entered-waste k = rw (k, entered)

  -- kept, and met before
  entered-met : kept job p ≡ true → number_from t ps p < length ps → entered job p ps ≡ entry (number_from t ps p) ps
  unfolding entered
  entered-met k h = rw (k, lt-ltb _ _ h, entered)

  -- kept and new
  entered-new : kept job p ≡ true → length ps ≤ number_from t ps p → entered job p ps ≡ entry (number_from t ps p) (ps ++ p ∷ [])
  unfolding entered
  entered-new k h = rw (k, le-ltb _ _ h, entered)

  -- the plate types do not get fewer
  pub entered-more : length ps ≤ length (entered job p ps).plates
  entered-more = by-kept (kept job p) refl
    where
      by_number : (b : Bool) → ltb (number_from t ps p) (length ps) ≡ b → kept job p ≡ true → length ps ≤ length (entered job p ps).plates
      by_number true h k = rw (entered-met k (ltb-true (number_from t ps p) (length ps) h)) (omega arith)
      by_number false h k = rw (entered-new k (ltb-false (number_from t ps p) (length ps) h), length-append) (omega arith)

      by-kept : (b : Bool) → kept job p ≡ b → length ps ≤ length (entered job p ps).plates
      by-kept true k = by_number (ltb (number_from t ps p) (length ps)) refl k
      by-kept false k = rw (entered-waste k) (omega arith)

  -- p, where its number is not below the next number, is new
  pub number-new : length ps ≤ number_from t ps p → New t ps p
  number-new h i a b = from-before t ps p i a (omega arith)

  -- the code's answers, from buffers that hold the m plate types
  module _ {plates index leasts : List ℕ} (m : ℕ) (h : Holding job ps plates index leasts m) (side least : ℕ) (f : KeptFrom job p side least) where
    pub answer-waste : side < least → EnteredIn job (entered job p ps) 0 m plates index leasts
    answer-waste l = rw (entered-waste (f.test ∙ lt-leb least side l)) (record { number = refl; holding = h })

    -- p is kept
    module _ (r : least ≤ side) (j : ℕ) (ej : j ≡ number_from t ps p) where
      is-kept : kept job p ≡ true
      is-kept = f.test ∙ le-leb least side r

      pub answer-met : j < m → EnteredIn job (entered job p ps) j m plates index leasts
      answer-met l = rw (entered-met is-kept (omega (arith, h.count))) (record { number = ej; holding = h })

      pub answer-full : m ≤ j → max_plates ≤ m → max_plates < length (entered job p ps).plates
      answer-full l full = rw (entered-new is-kept (omega (arith, h.count)), length-append) (omega (arith, h.count))

      -- the least sides with that of p behind them
      leasts-after : max_plates ≤ length leasts → m < max_plates → (i : ℕ) → (length ps ≤ i) ⊎ (i < length ps) → i < suc (length ps) → get_or (set leasts m least) i 0 ≡ least_of job (get_or (ps ++ p ∷ []) i waste)
      leasts-after room few i (inl b) l =
          let z : i ≡ length ps = omega arith in
          rw (z, get_or-append_seam ps p [] waste, h.count) (get_or-set_same leasts m least 0 (omega arith) ∙ f.is is-kept)
      leasts-after room few i (inr b) l =
          get_or-set_other leasts m i least 0 (λ z. omega (arith, h.count))
          ∙ h.known.of-leasts i b
          ∙ ap (least_of job) (sym (get_or-append ps (p ∷ []) waste i b))

      pub answer-new :
          {plates' index' : List ℕ}
          → m ≤ j
          → m < max_plates
          → max_plates ≤ length leasts
          → Holds plates' (plate_words job (ps ++ p ∷ []))
          → Indexed t (ps ++ p ∷ []) index'
          → EnteredIn job (entered job p ps) j (m + 1) plates' index' (set leasts m least)
      answer-new l few room held ix =
          rw (entered-new is-kept (omega (arith, h.count)))
          (record {
            number = ej;
            holding = record {
              count = rw length-append (omega (arith, h.count));
              sizes = omega (arith, h.sizes);
              few = omega arith;
              held = held;
              known = record {
                of-index = ix;
                of-leasts = λ i b. leasts-after room few i (at-most-or-above (length ps) i) (omega (arith, length-append ps (p ∷ [])));
              };
            };
          })

-- an answer taken apart
pub as-numbered : {job : Job} {e : Entry} {a : Result Entered Refusal} {n : Entered} {plates index leasts : List ℕ} → a ≡ Ok n → EnteredAs job e a plates index leasts → EnteredIn job e n.number.0 n.plates.0 plates index leasts
as-numbered {job} {e} {plates = plates} {index = index} {leasts = leasts} q = subst (λ (x : Result Entered Refusal). EnteredAs job e x plates index leasts) q

pub as-full : (job : Job) (e : Entry) {a : Result Entered Refusal} {r : Refusal} (plates index leasts : List ℕ) → a ≡ Err r → EnteredAs job e a plates index leasts → (r ≡ PlatesMany) × (max_plates < length e.plates)
as-full job e plates index leasts q = subst (λ (x : Result Entered Refusal). EnteredAs job e x plates index leasts) q
