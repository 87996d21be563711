-- The numbers and places of the rows of a text stand in the table of refusals.
use Prim.Native.Nat.{ℕ, suc, ◌+◌, ◌≤◌, ◌<◌}
use native.Mathlib.Omega.{arith}
use mathlib.Core.Path.{◌≡◌, refl}
use mathlib.Core.Logic.{◌⊎◌, inl, inr}
use mathlib.Core.Bool.{Bool, true, false, not, ◌||◌}
use mathlib.Core.List.{List, [], ◌∷◌}
use mathlib.Core.Option.{Option, none, some}
use lib.Dec.{ltb, leb, eqb}
use lib.ListN.{length, drop, length-drop}
use Rattle.job.specs.Sizes.{max_sizes, max_types, max_pieces, max_plates, max_cuts}
use Rattle.job.specs.Verdict.{Verdict, pass, refuse, ◌then◌, refuse_if, lowest}
use Rattle.job.specs.Job.{Job, no_item, job_of, job_words, larger, demanded, admission}
use Rattle.job.proofs.Verdicts.{pass-not-refuse, lowest-refuses}
use Rattle.listing.specs.Plate.{waste}
use Rattle.listing.specs.Listing.{Listing, no_cut, model_row, residual_types}
use Rattle.listing.proofs.Limits.{row-cases}
use Rattle.plan.specs.Plan.{total, short, overdrawn, plan_row}
use Rattle.plan.specs.Prices.{prices_of, over_limit, model_sized, prices_row}
use Rattle.columns.specs.Line.{Fit}
use Rattle.texts.specs.Widths.{place_limit}
use Rattle.texts.specs.JobLines.{board_sizes, types_of}
use Rattle.texts.specs.Reader.{max_lines}
use Rattle.texts.specs.SawText.{Counted, PriceLines, named_cut, cuts_named, misshown, plates_shown, cuts_rising, price_lines_row}
use Rattle.texts.specs.Refused.{Names, line, type, residual, cut, nothing, last_of, named_by, InTable}
use Rattle.texts.proofs.JobLaws.{passes-job, job-types, board-types, board-sizes}

-- a refusal stands in the table
pub record Near (v : Verdict) : Type 0 where
  pub named : (n p : ℕ) → v ≡ refuse n p → InTable n p

pub near-pass : Near pass
near-pass = record { named = λ n p e. absurd (pass-not-refuse refl e) }

pub near-refuse : (number place : ℕ) → InTable number place → Near (refuse number place)
near-refuse number place h =
    record { named = λ n p e. let a : number ≡ n = cc in let b : place ≡ p = cc in rw (← a, ← b) h }

pub near-if : (t : Bool) (number place : ℕ) → InTable number place → Near (refuse_if t number place)
near-if true number place h = near-refuse number place h
near-if false number place h = near-pass

-- checks in a row: the second counts only where the first passes
pub near-then : (u v : Verdict) → Near u → (u ≡ pass → Near v) → Near (u then v)
near-then pass v a b = b refl
near-then (refuse n p) v a b = a

-- a check over all places from k on, all of which stand in the table
pub near-lowest :
    {A : Type 0} (number : ℕ) (bad : ℕ → A → Bool) (d : A) (k : ℕ) (as' : List A)
    → ((p : ℕ) → k ≤ p → suc p ≤ k + length as' → InTable number p)
    → Near (lowest number bad k as')
near-lowest number bad d k as' h =
    record {
      named = λ n p e.
          let r = lowest-refuses number bad d k as' n p e in
          rw r.0 (h p (omega (arith, r.1.1)) (omega (arith, r.1.1, r.1.2.inside)));
    }

-- ---- what stands in the table fits

-- every place that is named is at most 100,000
last-few : (n : Names) → last_of n ≤ suc max_lines
last-few line = omega arith
last-few type = omega arith
last-few residual = omega arith
last-few cut = omega arith
last-few nothing = omega arith

-- number and place fit a line
pub table_fits : (n p : ℕ) → InTable n p → Fit (9 ∷ n ∷ p ∷ [])
unfolding Fit
table_fits n p t = let m = last-few (named_by n) in omega arith

-- and the place is one that the code writes
pub near-place : {v : Verdict} → Near v → (n p : ℕ) → v ≡ refuse n p → p < place_limit
near-place h n p e = let t = h.named n p e in let m = last-few (named_by n) in omega arith

-- ---- the job and the model

-- the types and the sizes of job words that pass
pub few-types : (ws : List ℕ) → job_words ws ≡ pass → (length (job_of ws).items ≤ max_types) × (types_of ws ≤ max_types) × (board_sizes ws ≤ max_sizes)
few-types ws h = let j = passes-job ws h in omega (arith, job-types ws j, board-types ws j.board, board-sizes ws j.board)

-- 3 and 4
pub near-admission : (job : Job) → length job.items ≤ max_types → Near (admission job)
unfolding admission
near-admission job h =
    near-then (lowest 3 (λ _ it. larger job it) 1 job.items) (refuse_if (ltb max_pieces (demanded job)) 4 0)
    (near-lowest 3 (λ _ it. larger job it) no_item 1 job.items (λ p a b. omega arith))
    (λ e. near-if (ltb max_pieces (demanded job)) 4 0 (omega arith))

-- 6 and 7 name no place
pub near-model : (job : Job) → Near (model_row job)
near-model job = go (row-cases job)
  where
    go : (model_row job ≡ pass) ⊎ ((model_row job ≡ refuse 6 0) ⊎ (model_row job ≡ refuse 7 0)) → Near (model_row job)
    go (inl e) = rw e near-pass
    go (inr (inl e)) = rw e (near-refuse 6 0 (omega arith))
    go (inr (inr e)) = rw e (near-refuse 7 0 (omega arith))

-- the job row and the model row
pub near-job : (ws : List ℕ) → job_words ws ≡ pass → Near (admission (job_of ws) then model_row (job_of ws))
near-job ws h = near-then (admission (job_of ws)) (model_row (job_of ws)) (near-admission (job_of ws) (few-types ws h).0) (λ e. near-model (job_of ws))

-- ---- the plan and the prices

-- a line 3 of zeros, which stands for one that a plan has not
abbrev no_line : Counted
no_line = record { plate = 0; type = 0; turn = 0; count = 0; shown = waste }

-- 8
pub near-named : (l : Listing) (k : ℕ) (rs : List Counted) → 1 ≤ k → k + length rs ≤ suc (suc max_lines) → Near (cuts_named l k rs)
unfolding cuts_named
near-named l k rs low h =
    near-lowest 8 (λ _ r. eqb (named_cut l r) 0) no_line k rs (λ p a b. omega arith)

-- 20
pub near-shown : (l : Listing) (k : ℕ) (rs : List Counted) → 1 ≤ k → k + length rs ≤ suc (suc max_lines) → Near (plates_shown l k rs)
unfolding plates_shown
near-shown l k rs low h = near-lowest 20 (λ _ r. misshown l r) no_line k rs (λ p a b. omega arith)

-- 9
pub near-rising : (l : Listing) (c k : ℕ) (rs : List Counted) → 1 ≤ k → k + length rs ≤ suc (suc max_lines) → Near (cuts_rising l c k rs)
unfolding cuts_rising
near-rising l c k [] low h = near-pass
near-rising l c k (r ∷ rs) low h = go (leb (named_cut l r) c) (near-rising l (named_cut l r) (suc k) rs (omega arith) (omega arith))
  where
    go : (t : Bool) → Near (cuts_rising l (named_cut l r) (suc k) rs) → Near (elim t [ true ↦ refuse 9 k | false ↦ cuts_rising l (named_cut l r) (suc k) rs ])
    go true n = near-refuse 9 k (omega arith)
    go false n = n

-- 10, 11 and 12
pub near-plan :
    (job : Job) (l : Listing) (ns : List ℕ)
    → length job.items ≤ max_types
    → 1 ≤ l.sizes
    → length l.plates ≤ max_plates
    → Near (plan_row job l ns)
unfolding plan_row
near-plan job l ns i z j =
    let row11 = lowest 11 (short l ns) 1 job.items in
    let row12 = lowest 12 (overdrawn l ns) l.sizes (drop l.sizes l.plates) in
    let few = length-drop l.sizes l.plates in
    near-then (refuse_if (ltb max_pieces (total ns)) 10 0) (row11 then row12) (near-if (ltb max_pieces (total ns)) 10 0 (omega arith)) (λ e.
    near-then row11 row12 (near-lowest 11 (short l ns) no_item 1 job.items (λ p a b. omega arith)) (λ e.
    near-lowest 12 (overdrawn l ns) waste l.sizes (drop l.sizes l.plates) (λ p a b. omega arith)))

-- 13 and 14
pub near-prices : (job : Job) (l : Listing) (o : Option PriceLines) → length l.cuts ≤ max_cuts → Near (price_lines_row job l o)
unfolding price_lines_row model_sized prices_row
near-prices job l none h = near-pass
near-prices job l (some ps) h =
    near-then (model_sized job l ps.types ps.residuals) (prices_row job l (prices_of job ps.words))
    (near-if (not (eqb ps.types (length job.items)) || not (eqb ps.residuals (residual_types l))) 13 0 (omega arith)) (λ e.
    near-lowest 14 (λ _ c. over_limit job (prices_of job ps.words) c) no_cut 1 l.cuts (λ p a b. omega arith))
