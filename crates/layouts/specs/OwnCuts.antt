-- Request Seven, "Only the plate's own cuts": where the cuts of each plate type begin, the part of the counts that is theirs, and the unfolding that looks at
-- no other.
use Rattle.std.specs.Prelude.{ℕ, zero, suc, ◌+◌, ◌-◌, ◌≤◌, ◌<◌, ◌≡◌, true, false, cond, List, [], ◌∷◌, ltb, length, take, drop}
use Rattle.std.proofs.Math.Option.{Option, none, some}
use Rattle.job.specs.Job.{Job}
use Rattle.listing.specs.Listing.{Cut, Listing, cut_at}
use Rattle.plan.specs.Plan.{boards_of, total}
use Rattle.layouts.specs.Unfold.{State, search, highest, Step, placed, left_over, idle, done, open_board, Run, placing, run}
use Rattle.layouts.specs.Offcuts.{Event, did, over, events}
use Rattle.layouts.specs.Demand3.{Listed, J, L}

-- "for each type where its cuts begin": behind the cuts on the plate types below it. A type without a cut begins where the next type does
unfoldable pub begin_of : List Cut → ℕ → ℕ
begin_of [] j = 0
begin_of (c ∷ cs) j = cond (ltb c.plate j) 1 0 + begin_of cs j

-- "just that part of the counts": those from where the cuts of plate type j begin to where those of the next type begin
unfoldable pub own_part : Listing → ℕ → List ℕ → List ℕ
own_part l j ns = take (begin_of l.cuts (suc j) - begin_of l.cuts j) (drop (begin_of l.cuts j) ns)

-- the first of some counts that is left, by the number of its cut; the counts are those of the cuts from k on
unfoldable pub first_left : ℕ → List ℕ → Option ℕ
first_left k [] = none
first_left k (n ∷ ns) = elim (ltb 0 n) [ true ↦ some k | false ↦ first_left (suc k) ns ]

-- the cut on plate type j that is found in its part
unfoldable pub part_search : Listing → ℕ → List ℕ → Option ℕ
part_search l j ns = first_left (suc (begin_of l.cuts j)) (own_part l j ns)

-- the unfolding of document 01 and of request Six, found in the parts: the step, the size of the next board, the run, and what its steps do (request Two)
unfoldable pub part_step : Job → Listing → State → Step
part_step job l st =
    elim (highest st.waiting) [
      | none ↦ idle
      | some t ↦
          elim (part_search l t.piece.plate st.counts) [
            | none ↦ left_over t.piece (record { counts = st.counts; waiting = t.rest; turn = st.turn })
            | some k ↦ done job l st t k
          ]
    ]

unfoldable pub part_size : ℕ → ℕ → Listing → List ℕ → Option ℕ
part_size zero j l ns = none
part_size (suc n) j l ns = elim (ltb 0 (total (own_part l j ns))) [ true ↦ some j | false ↦ part_size n (suc j) l ns ]

unfoldable pub part_run : ℕ → Job → Listing → State → Run
part_run zero job l st = record { placements = []; last = st }
part_run (suc fuel) job l st =
    elim (part_step job l st) [
      | placed p st' ↦ placing p (part_run fuel job l st')
      | left_over p st' ↦ part_run fuel job l st'
      | idle ↦
          elim (part_size (length job.sizes) 0 l st.counts) [
            | some j ↦ part_run fuel job l (open_board j st)
            | none ↦ record { placements = []; last = st }
          ]
    ]

unfoldable pub part_chosen : Listing → State → ℕ
part_chosen l st =
    elim (highest st.waiting) [
      | none ↦ 0
      | some t ↦ elim (part_search l t.piece.plate st.counts) [ none ↦ 0 | some k ↦ k ]
    ]

unfoldable pub part_events : ℕ → Job → Listing → State → List Event
part_events zero job l st = []
part_events (suc fuel) job l st =
    elim (part_step job l st) [
      | placed p st' ↦ did (part_chosen l st) p ∷ part_events fuel job l st'
      | left_over p st' ↦ over st.turn.board p ∷ part_events fuel job l st'
      | idle ↦
          elim (part_size (length job.sizes) 0 l st.counts) [
            | some j ↦ part_events fuel job l (open_board j st)
            | none ↦ []
          ]
    ]

-- what is shown of the part of plate type j; place c, from 0, is that of cut suc c
pub record OwnPart (l : Listing) (j : ℕ) : Type 0 where
  -- "cuts on one plate type are numbered in a row"
  pub in_a_row : (b c d : ℕ) → b ≤ c → c ≤ d → d < length l.cuts → (cut_at l (suc b)).plate ≡ j → (cut_at l (suc d)).plate ≡ j → (cut_at l (suc c)).plate ≡ j
  -- "every cut on the type"
  pub every : (c : ℕ) → c < length l.cuts → (cut_at l (suc c)).plate ≡ j → (begin_of l.cuts j ≤ c) × (c < begin_of l.cuts (suc j))
  -- "and no other"
  pub no_other : (c : ℕ) → begin_of l.cuts j ≤ c → c < begin_of l.cuts (suc j) → (c < length l.cuts) × ((cut_at l (suc c)).plate ≡ j)
  -- of any counts, the cut that is found in the part is the one that is found by reading all, and the boards of a size are those of its part
  pub same-cut : (ns : List ℕ) → part_search l j ns ≡ search j 1 l.cuts ns
  pub same-boards : (ns : List ℕ) → total (own_part l j ns) ≡ boards_of l j ns

-- what is shown of a listing: every plate type's part is its own, and "the unfolding equals the one found by reading all", from any state, over any number of
-- steps: the same placements, ending in the same state, and step by step the same cuts, items and pieces left over
pub record OwnCuts (job : Job) (l : Listing) : Type 0 where
  pub parts : (j : ℕ) → OwnPart l j
  pub same-run : (fuel : ℕ) (st : State) → part_run fuel job l st ≡ run fuel job l st
  pub same-events : (fuel : ℕ) (st : State) → part_events fuel job l st ≡ events fuel job l st

-- request Seven, of every job whose listing is not refused
abbrev pub OwnCutsOfAll : Type 0
OwnCutsOfAll = (ws : List ℕ) → Listed ws → OwnCuts (J ws) (L ws)
