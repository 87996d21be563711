-- A permitted position, as the table of positions has it.
use mathlib.Core.Path.{◌≡◌, sym, ap, ◌∙◌}
use Prim.Native.Nat.{ℕ, ◌+◌, ◌*◌, ◌≤◌, ◌<◌}
use mathlib.Core.Logic.{◌⊎◌, inl, inr}
use mathlib.Core.Bool.{true, false}
use mathlib.Core.List.{List}
use native.Mathlib.Omega.{arith}
use lib.ListN.{length}
use Rattle.job.specs.declared.item.Position.{Position}
use Rattle.job.specs.Sizes.{max_types}
use Rattle.job.specs.Job.{Job, unturned, position, positions, position_at, permitted}
use Rattle.job.proofs.Positions.{positions-length, position-unturned, permitted-range}
use Rattle.listing_positions.specs.Table.{words_of_position, table_size, word_at, Next, Table}

module _ (job : Job) (q : ℕ) (a : permitted job q ≡ true) where
  -- its sides are those of the job's
  pub lies_so : (table : List ℕ) {r : Position} → Table job table → r ≡ position (word_at table q 0) (word_at table q 1) true → r ≡ position_at job q
  lies_so table t e =
      let w = t.each q a in
      let b = sym a in
      e ∙ (λ i. record { width = w.width i; height = w.height i; allowed = b i })

  -- its words are in the table
  pub position_in : (n : ℕ) → length (positions job) ≤ 2 * max_types + 1 → table_size ≤ n → words_of_position * q + words_of_position ≤ n
  position_in n few room = omega (arith, (permitted-range job q a).1)

-- the first position is permitted, an item type unturned
pub first-permitted : (job : Job) → 2 ≤ length (positions job) → permitted job 2 ≡ true
unfolding unturned
first-permitted job h = ap (λ (p : Position). p.allowed) (position-unturned job 1 (omega arith) (omega (arith, positions-length job)))

-- the next position is above, by 2 at the most
pub next-above : {job : Job} {q x : ℕ} → Next job q x → (q < x) × (x ≤ q + 2)
next-above {job} {q} {x} n = go n.follows
  where
    go : (x ≡ q + 1) ⊎ ((x ≡ q + 2) × (permitted job (q + 1) ≡ false)) → (q < x) × (x ≤ q + 2)
    go (inl e) = (omega arith, omega arith)
    go (inr (e, f)) = (omega arith, omega arith)
