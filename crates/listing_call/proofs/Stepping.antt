-- The step of a pair, from what its calls promise: each way in which it ends, as a part of the whole walk.
use mathlib.Core.Path.{◌≡◌, refl, sym, ap, ◌∙◌}
use Prim.Native.Nat.{ℕ, ◌+◌, ◌*◌, ◌≤◌, ◌<◌}
use mathlib.Core.Bool.{Bool, true, false}
use mathlib.Core.List.{List, [], ◌∷◌, ◌++◌}
use native.Mathlib.Omega.{arith}
use lib.ListN.{length}
use Rattle.job.specs.declared.mode.Mode.{Mode}
use Rattle.job.specs.declared.item.Position.{Position}
use Rattle.job.specs.Sizes.{max_plates, max_cuts}
use Rattle.job.specs.Job.{Job, job_of, position, positions, position_at, permitted}
use Rattle.job.proofs.Positions.{permitted-range}
use Rattle.listing.specs.declared.plate.Plate.{Plate}
use Rattle.listing.specs.declared.plate.Residuals.{Residuals}
use Rattle.listing.specs.Plate.{plate, may_cut, leaves}
use Rattle.listing.specs.Listing.{Entry, entered, stopped, walk}
use Rattle.listing.specs.Records.{cut_words}
use Rattle.listing.specs.Holds.{Holds, cut_of_words}
use Rattle.listing.proofs.CodePlate.{may_cut-of, leaves_of}
use Rattle.listing_positions.specs.Least.{least_of, no_side}
use Rattle.listing_positions.specs.Table.{words_of_position, word_at}
use Rattle.listing_call.specs.Steps.{Ready, Stands, Holding, KeptFrom, EnteredIn, rest_row, top_from, right_from}
use Rattle.listing_call.proofs.Keeping.{residuals-kept}
use Rattle.listing_call.proofs.Lying.{lies_so, position_in}
use Rattle.listing_call.proofs.Pairing.{all_held, step-none, step-cuts-full, step-top-full, step-right-full, step-next}
use Rattle.listing_call.proofs.Walking.{row_next, row-stop}

-- a permitted position is one of the row
in_row : (job : Job) (i : ℕ) → permitted job i ≡ true → (1 ≤ i) × (i ≤ length (positions job))
in_row job i a =
    let r = permitted-range job i a in
    (omega (arith, r.0), r.1)

-- the residuals entered, the top and then the right one
abbrev pub top_of : Job → Residuals → List Plate → Entry
top_of job left ps = entered job left.top ps

abbrev pub right_of : Job → Residuals → List Plate → Entry
right_of job left ps = entered job left.right (top_of job left ps).plates

-- where a step begins, at plate type j, which is p, and an item in position i: its room, and what the buffers hold
pub record Begun (ws : List ℕ) (mode : Mode) (blade : ℕ) (table plates index leasts cuts : List ℕ) (j i : ℕ) (p : Plate) (least m k : ℕ) : Type 0 where
  pub ready : Ready ws mode blade table plates index leasts cuts
  pub permitted-is : permitted (job_of ws) i ≡ true
  pub least-is : least ≡ least_of (job_of ws) p
  pub stands : Stands (job_of ws) (rest_row (job_of ws) j p i) plates index leasts cuts m k

abbrev pub begun :
    (j i : ℕ) (p : Plate) {ws : List ℕ} {mode : Mode} {blade : ℕ} {table plates index leasts cuts : List ℕ} {least m k : ℕ}
    → Ready ws mode blade table plates index leasts cuts
    → (permitted (job_of ws) i ≡ true) × (least ≡ least_of (job_of ws) p)
    → Stands (job_of ws) (rest_row (job_of ws) j p i) plates index leasts cuts m k
    → Begun ws mode blade table plates index leasts cuts j i p least m k
begun j i p ready v h = record { ready = ready; permitted-is = v.0; least-is = v.1; stands = h }

module _ {ws : List ℕ} {mode : Mode} {blade : ℕ} {table plates index leasts cuts : List ℕ} {j i : ℕ} {p : Plate} {least m k : ℕ} (s : Begun ws mode blade table plates index leasts cuts j i p least m k) where
  -- the words of the position are in the table
  pub in_table : words_of_position * i + words_of_position ≤ length table
  in_table = position_in (job_of ws) i s.permitted-is (length table) s.ready.few-positions s.ready.table-room

  -- the plate types, before a residual is entered
  pub held : Holding (job_of ws) s.stands.here.l.plates plates index leasts m
  held = all_held (job_of ws) j p i (position_at (job_of ws) i) s.stands.here.l s.stands.here.rep s.stands.known

  module _ {item : Position} (e : item ≡ position (word_at table i 0) (word_at table i 1) true) where
    item-is : item ≡ position_at (job_of ws) i
    item-is = lies_so (job_of ws) i s.permitted-is table s.ready.of-table e

    module _ {may : Bool} (em : may ≡ may_cut mode item p) where
      -- the item may not be cut
      pub skipped : may ≡ false → Stands (job_of ws) (rest_row (job_of ws) j p (i + 1)) plates index leasts cuts m k
      skipped f =
          row_next (job_of ws) j p i s.stands (in_row (job_of ws) i s.permitted-is).0 (in_row (job_of ws) i s.permitted-is).1
          (step-none (job_of ws) j p i (position_at (job_of ws) i) s.stands.here.l s.stands.here.rep s.stands.known (may_cut-of p em s.ready.of-mode item-is f))

      module _ (t : may ≡ true) where
        allowed : may_cut (job_of ws).mode (position_at (job_of ws) i) p ≡ true
        allowed = may_cut-of p em s.ready.of-mode item-is t

        -- an 8,193rd cut
        pub cuts-full : max_cuts ≤ k → walk (job_of ws) ≡ stopped 7
        cuts-full full =
            row-stop (job_of ws) j p i s.stands (in_row (job_of ws) i s.permitted-is).0 (in_row (job_of ws) i s.permitted-is).1
            (step-cuts-full (job_of ws) j p i _ s.stands.here.l s.stands.here.rep s.stands.known allowed _ refl full)

        module _ {left : Residuals} (el : left ≡ leaves mode blade item p) where
          left-is : left ≡ leaves (job_of ws).mode (job_of ws).blade (position_at (job_of ws) i) p
          left-is = leaves_of p el s.ready.of-mode s.ready.of-blade item-is

          -- from which sides on the residuals are kept
          pub both-kept :
              {right top right' top' : ℕ}
              → (p.width ≤ no_side) × (p.height ≤ no_side)
              → (right ≡ word_at table i 2) × (top ≡ word_at table i 3)
              → (top' ≡ top_from p.stage least top) × (right' ≡ right_from mode p.stage least right)
              → KeptFrom (job_of ws) left.top left.top.height top' × KeptFrom (job_of ws) left.right left.right.width right'
          both-kept small a f =
              let w = s.ready.of-table.each i s.permitted-is in
              let z = s.ready.sided i s.permitted-is in
              rw (el, f.0, f.1)
              (residuals-kept (job_of ws) s.ready.sided mode blade _ p least _ _ (rw item-is z.0) (rw item-is z.1) small s.least-is
              (a.1 ∙ w.top ∙ ap (λ (x : Position). least_of (job_of ws) (plate x.width 0 3)) (sym item-is))
              (a.0 ∙ w.right ∙ ap (λ (x : Position). least_of (job_of ws) (plate 0 x.height 2)) (sym item-is)))

          module _ (few : k < max_cuts) where
            -- a 2,049th plate type, at the top or at the right residual
            pub top-full : max_plates < length (top_of (job_of ws) left s.stands.here.l.plates).plates → walk (job_of ws) ≡ stopped 6
            top-full full =
                row-stop (job_of ws) j p i s.stands (in_row (job_of ws) i s.permitted-is).0 (in_row (job_of ws) i s.permitted-is).1
                (step-top-full (job_of ws) j p i _ s.stands.here.l s.stands.here.rep s.stands.known allowed _ left-is few full)

            pub right-full : max_plates < length (right_of (job_of ws) left s.stands.here.l.plates).plates → walk (job_of ws) ≡ stopped 6
            right-full full =
                row-stop (job_of ws) j p i s.stands (in_row (job_of ws) i s.permitted-is).0 (in_row (job_of ws) i s.permitted-is).1
                (step-right-full (job_of ws) j p i _ s.stands.here.l s.stands.here.rep s.stands.known allowed _ left-is few full)

            -- both residuals are entered, and the cut is written
            pub cut_next :
                {t m₁ r m₂ : ℕ} {plates₁ index₁ leasts₁ plates₂ index₂ leasts₂ cuts₂ : List ℕ}
                → EnteredIn (job_of ws) (top_of (job_of ws) left s.stands.here.l.plates) t m₁ plates₁ index₁ leasts₁
                → EnteredIn (job_of ws) (right_of (job_of ws) left s.stands.here.l.plates) r m₂ plates₂ index₂ leasts₂
                → Holds cuts₂ (cut_words (s.stands.here.l.cuts ++ cut_of_words j i t r ∷ []))
                → Stands (job_of ws) (rest_row (job_of ws) j p (i + 1)) plates₂ index₂ leasts₂ cuts₂ m₂ (k + 1)
            cut_next a b c =
                row_next (job_of ws) j p i s.stands (in_row (job_of ws) i s.permitted-is).0 (in_row (job_of ws) i s.permitted-is).1
                (step-next (job_of ws) j p i _ s.stands.here.l s.stands.here.rep s.stands.known allowed _ left-is few a b c)
