-- Document 01, "Cases": (a) to (m) as one table, at the level of the calls, with every word of every lent buffer. No type has leave to be turned.
use Rattle.std.specs.Prelude.{◌≡◌}
use mathlib.Core.List.{[], ◌∷◌}
use Rattle.job.specs.Buffers.{filled, placements_size}
use Rattle.cases.specs.Calls.{listing, plan, prices, unfolding', succeeds, refuses}
use Rattle.cases.specs.Jobs.{job_a, plates_a, cuts_a, plan_a, prices_a, job_a2e, plates_a2e, cuts_a2e, job_b, plates_b, cuts_b, plan_b, lines_b, alone}

pub record Table : Type 0 where
  -- job A: 5 residual types, 8 cuts
  pub a : listing job_a ≡ succeeds (5 ∷ 8 ∷ []) plates_a cuts_a []
  -- its plan: 2 boards
  pub b : plan job_a plan_a ≡ succeeds (2 ∷ 2 ∷ []) plates_a cuts_a []
  -- cut 4 at 2: accepted; at 3: 12, plate 2
  pub c : plan job_a (2 ∷ 0 ∷ 1 ∷ 2 ∷ 0 ∷ 0 ∷ 1 ∷ 0 ∷ []) ≡ succeeds (2 ∷ 2 ∷ []) plates_a cuts_a []
  pub d : plan job_a (2 ∷ 0 ∷ 1 ∷ 3 ∷ 0 ∷ 0 ∷ 1 ∷ 0 ∷ []) ≡ refuses 12 2 []
  -- cuts 1, 4, 7 at 2, 2, 1 alone: 12, plate 4
  pub e : plan job_a (2 ∷ 0 ∷ 0 ∷ 2 ∷ 0 ∷ 0 ∷ 1 ∷ 0 ∷ []) ≡ refuses 12 4 []
  -- no counts: 11, type 1
  pub f : plan job_a [] ≡ refuses 11 1 []
  -- its prices: 2 over 1
  pub g : prices job_a prices_a ≡ succeeds (2 ∷ 1 ∷ []) plates_a cuts_a []
  -- plate price 3 at 0: 14, cut 5
  pub h : prices job_a (1 ∷ 1 ∷ 0 ∷ 0 ∷ 0 ∷ 0 ∷ 0 ∷ 0 ∷ []) ≡ refuses 14 5 []
  -- all prices 0: bound 0
  pub i : prices job_a (1 ∷ 0 ∷ 0 ∷ 0 ∷ 0 ∷ 0 ∷ 0 ∷ 0 ∷ []) ≡ succeeds (0 ∷ 1 ∷ []) plates_a cuts_a []
  -- job A in 2E: 4 residual types, 7 cuts
  pub j : listing job_a2e ≡ succeeds (4 ∷ 7 ∷ []) plates_a2e cuts_a2e []
  -- job B: 4 residual types, 6 cuts
  pub k : listing job_b ≡ succeeds (4 ∷ 6 ∷ []) plates_b cuts_b []
  -- counts 1 0 1 0 0 1: one board, positions (0,0), (3,0), (3,2)
  pub l : unfolding' job_b plan_b ≡ succeeds (1 ∷ 3 ∷ 0 ∷ []) plates_b cuts_b (filled placements_size lines_b)
  -- an item of 9 by 7 on job A's board is admitted; one of 10 by 7 is 3
  pub m : listing (alone 9 7) ≡ succeeds (0 ∷ 1 ∷ []) (9 ∷ 7 ∷ 1 ∷ 1 ∷ []) (0 ∷ 2 ∷ 0 ∷ 0 ∷ []) []
  pub m-larger : listing (alone 10 7) ≡ refuses 3 1 []
