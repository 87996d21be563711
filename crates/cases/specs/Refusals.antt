-- Document 01, "Where each number is given": refusals of the calls that cases (a) to (m) leave out, their order and their places; for each number once with
-- every lent word, which is 0 after any of them (`RowOrder`: `BuffersAfter`).
use Rattle.std.specs.Prelude.{ℕ, ◌-◌, ◌*◌, ◌≡◌}
use mathlib.Core.List.{List, [], ◌∷◌, ◌++◌}
use Rattle.std.proofs.Math.ListN.{replicate}
use Rattle.job.specs.Sizes.{words_of_item, plates_size, cuts_size, counts_size, placements_size}
use Rattle.job.specs.Buffers.{refused}
use Rattle.job.specs.Job.{job_of}
use Rattle.listing.specs.Listing.{stopped, walk_within}
use Rattle.listing.specs.ListCall.{list_verdict, list_answer, plates_end}
use Rattle.plan.specs.PlanCall.{plan_answer}
use Rattle.plan.specs.PriceCall.{price_answer}
use Rattle.layouts.specs.UnfoldCall.{unfold_verdict, unfold_answer, placements_end}
use Rattle.layouts.specs.FoldCall.{fold_verdict, fold_answer, counts_end}
use Rattle.cases.specs.Calls.{plates, cuts, counts, placements, offcuts, listing, plan, prices, unfolding', folding, refuses}
use Rattle.cases.specs.Jobs.{on_board, job_a, job_a2e, lines_a, job_b, alone}

-- one word less than the plates' full size
unfoldable pub short_plates : List ℕ
short_plates = replicate (plates_size - 1) 7

-- one word less than the cuts' full size
unfoldable pub short_cuts : List ℕ
short_cuts = replicate (cuts_size - 1) 7

-- one word less than the counts' full size
unfoldable pub short_counts : List ℕ
short_counts = replicate (counts_size - 1) 7

-- one word less than the placements' full size
unfoldable pub short_placements : List ℕ
short_placements = replicate (placements_size - 1) 7

-- demands of 4,000 and 1
unfoldable pub too_many : List ℕ
too_many = on_board 2 0 9 7 2 0 (5 ∷ 4 ∷ 4000 ∷ 0 ∷ 3 ∷ 3 ∷ 1 ∷ 0 ∷ [])

-- an n of 41 with words for 41 types
unfoldable pub many_types : List ℕ
many_types = on_board 2 0 9 7 41 0 (replicate (words_of_item * 41) 1)

pub record Refusals : Type 0 where
  -- 1: job words of another length, before any limit; t and n are read as 0 where they are missing
  pub job-empty : listing [] ≡ refuses 1 0 []
  pub job-length : (listing (on_board 2 0 9 7 41 0 [])).answer ≡ refused 1 0
  pub job-one-more : (listing (on_board 2 0 9 7 1 0 (3 ∷ 3 ∷ 1 ∷ 0 ∷ 0 ∷ []))).answer ≡ refused 1 0
  -- 2: a value outside its limits, place 0 for the head
  pub job-number : listing (on_board 2 0 9 7 0 0 []) ≡ refuses 2 0 []
  pub job-many-types : (listing many_types).answer ≡ refused 2 0
  pub job-stages : (listing (on_board 4 0 9 7 1 0 (3 ∷ 3 ∷ 1 ∷ 0 ∷ []))).answer ≡ refused 2 0
  pub job-exact : (listing (on_board 2 2 9 7 1 0 (3 ∷ 3 ∷ 1 ∷ 0 ∷ []))).answer ≡ refused 2 0
  -- 2 names the lowest type
  pub job-type : (listing (on_board 2 0 9 7 2 0 (3 ∷ 3 ∷ 4001 ∷ 0 ∷ 0 ∷ 3 ∷ 1 ∷ 0 ∷ []))).answer ≡ refused 2 1
  -- 2 of a later type comes before 3 of an earlier one; a side of 10,000 on a small board is 3
  pub type-before-size : (listing (on_board 2 0 9 7 2 0 (10000 ∷ 3 ∷ 1 ∷ 0 ∷ 3 ∷ 0 ∷ 1 ∷ 0 ∷ []))).answer ≡ refused 2 2
  pub large-item : listing (on_board 2 0 9 7 2 0 (3 ∷ 3 ∷ 1 ∷ 0 ∷ 10000 ∷ 3 ∷ 1 ∷ 0 ∷ [])) ≡ refuses 3 2 []
  -- 3 comes before 4
  pub size-before-demands : (listing (on_board 2 0 9 7 2 0 (5 ∷ 4 ∷ 4000 ∷ 0 ∷ 3 ∷ 8 ∷ 1 ∷ 0 ∷ []))).answer ≡ refused 3 2
  -- 4: demands above 4,000
  pub demands : listing too_many ≡ refuses 4 0 []
  -- a refused job with short buffers is refused for the job, and their words are 0
  pub job-before-buffer : list_answer too_many [] [] ≡ refused 4 0
  pub job-before-buffer-zero : plates_end (list_verdict too_many (7 ∷ 7 ∷ []) []) too_many (7 ∷ 7 ∷ []) ≡ (0 ∷ 0 ∷ [])
  -- 5: each buffer that is shorter than its full size, plates first
  pub short-plates : list_answer job_a short_plates short_cuts ≡ refused 5 1
  pub short-cuts : list_answer job_a plates short_cuts ≡ refused 5 2
  pub short-counts : plan_answer job_a short_counts plates cuts ≡ refused 5 3
  pub short-placements : unfold_answer job_a 1 1 counts plates cuts short_placements offcuts ≡ refused 5 4
  pub short-lent-counts : fold_answer job_a lines_a plates cuts short_counts ≡ refused 5 3
  -- after 5 every lent buffer is as it was
  pub unchanged : plates_end (list_verdict job_a plates short_cuts) job_a plates ≡ plates
  pub unchanged-placements : placements_end (unfold_verdict job_a 1 1 counts plates short_cuts placements offcuts) job_a counts placements ≡ placements
  -- 6 and 7 at small limits: job A has 6 plate types and 8 cuts
  pub types-enough : walk_within 5 8 (job_of job_a) ≡ stopped 6
  pub cuts-enough : walk_within 6 7 (job_of job_a) ≡ stopped 7
  -- where one pair passes both limits, 7
  pub cut-first : walk_within 1 0 (job_of job_a) ≡ stopped 7
  -- 8: a nonzero word past the last cut, before 10
  pub past-last : plan job_a (4001 ∷ 0 ∷ 0 ∷ 0 ∷ 0 ∷ 0 ∷ 0 ∷ 0 ∷ 0 ∷ 1 ∷ []) ≡ refuses 8 10 []
  -- 8 past the full size too
  pub past-size : plan_answer job_a (replicate counts_size 0 ++ (1 ∷ [])) plates cuts ≡ refused 8 8193
  -- 10: total above 4,000, before 11
  pub total : plan job_a (4001 ∷ []) ≡ refuses 10 0 []
  -- 11 comes before 12
  pub short-before-overdrawn : plan job_a (2 ∷ 0 ∷ 0 ∷ 1 ∷ 0 ∷ 0 ∷ 1 ∷ []) ≡ refuses 11 2 []
  -- the same of unfolding, whose placements are then 0
  pub unfold-refused : unfolding' job_a (2 ∷ 0 ∷ 1 ∷ 3 ∷ 0 ∷ 0 ∷ 1 ∷ 0 ∷ []) ≡ refuses 12 2 (replicate placements_size 0)
  -- 2 of a price word comes before an item larger than the board, and that before a short buffer
  pub price-word : price_answer (alone 10 7) (1 ∷ 10000 ∷ []) [] [] ≡ refused 2 2
  pub denominator : prices job_a (0 ∷ 1 ∷ 0 ∷ 0 ∷ 0 ∷ 1 ∷ 0 ∷ 0 ∷ []) ≡ refuses 2 1 []
  -- 2 of a surplus word comes before 13
  pub surplus-price : (prices job_a (1 ∷ 1 ∷ 0 ∷ 0 ∷ 0 ∷ 1 ∷ 0 ∷ 0 ∷ 10000 ∷ [])).answer ≡ refused 2 9
  pub item-first : price_answer (alone 10 7) (1 ∷ 1 ∷ []) [] [] ≡ refused 3 1
  pub buffer-before-prices : price_answer job_a [] plates short_cuts ≡ refused 5 2
  -- 13: n or m not the model's; no price words at all are 13
  pub no-prices : prices job_a [] ≡ refuses 13 0 []
  pub one-price-less : (prices job_a (1 ∷ 1 ∷ 0 ∷ 0 ∷ 0 ∷ 1 ∷ 0 ∷ [])).answer ≡ refused 13 0
  -- 1: a line of layouts cut short, named, before a value outside its limits
  pub cut_short : folding job_a (0 ∷ 0 ∷ 1 ∷ 1 ∷ 1 ∷ 1 ∷ 0 ∷ 0 ∷ 0 ∷ 1 ∷ []) ≡ refuses 1 2 (replicate counts_size 0)
  -- 2 names the line
  pub layout-value : folding job_a ((1 ∷ 0 ∷ 1 ∷ 1 ∷ 1 ∷ 1 ∷ 0 ∷ 0 ∷ 0 ∷ []) ++ (1 ∷ 0 ∷ 1 ∷ 2 ∷ 1 ∷ 3 ∷ 5 ∷ 0 ∷ 0 ∷ [])) ≡ refuses 2 2 (replicate counts_size 0)
  -- 2 of a layout line comes before 3
  pub layout-before-size : fold_answer (alone 10 7) (1 ∷ 0 ∷ 1 ∷ 1 ∷ 1 ∷ 2 ∷ 0 ∷ 0 ∷ 0 ∷ []) [] [] [] ≡ refused 2 1
  -- x is limited by 10,000, not by W
  pub layout-limits : (folding job_a (1 ∷ 0 ∷ 1 ∷ 1 ∷ 1 ∷ 1 ∷ 10000 ∷ 0 ∷ 0 ∷ [])).answer ≡ refused 18 1
  -- no line at all: 11, type 1
  pub no_lines : (folding job_a []).answer ≡ refused 11 1
  -- 15: the first line is 1, 1, 1, 1
  pub first-turn : folding job_a (1 ∷ 0 ∷ 1 ∷ 2 ∷ 1 ∷ 1 ∷ 0 ∷ 0 ∷ 0 ∷ []) ≡ refuses 15 1 (replicate counts_size 0)
  -- 15: a place that is left out
  pub next-turn : (folding job_a ((1 ∷ 0 ∷ 1 ∷ 1 ∷ 1 ∷ 1 ∷ 0 ∷ 0 ∷ 0 ∷ []) ++ (1 ∷ 0 ∷ 1 ∷ 3 ∷ 1 ∷ 2 ∷ 5 ∷ 0 ∷ 0 ∷ []))).answer ≡ refused 15 2
  -- 16: in 2E items of one strip that are not equally high
  pub stage-rule : folding job_a2e lines_a ≡ refuses 16 1 (replicate counts_size 0)
  -- 16: in two stages a stack of two items
  pub stage-rule-two : (folding job_a ((1 ∷ 0 ∷ 1 ∷ 1 ∷ 1 ∷ 2 ∷ 0 ∷ 0 ∷ 0 ∷ []) ++ (1 ∷ 0 ∷ 1 ∷ 1 ∷ 2 ∷ 2 ∷ 0 ∷ 3 ∷ 0 ∷ []))).answer ≡ refused 16 1
  -- 16: in three stages no single item of the strip's height
  pub stage-rule-three : (folding job_b ((1 ∷ 0 ∷ 1 ∷ 1 ∷ 1 ∷ 2 ∷ 0 ∷ 0 ∷ 0 ∷ []) ++ (1 ∷ 0 ∷ 1 ∷ 1 ∷ 2 ∷ 2 ∷ 0 ∷ 2 ∷ 0 ∷ []) ++ (1 ∷ 0 ∷ 1 ∷ 2 ∷ 1 ∷ 2 ∷ 2 ∷ 0 ∷ 0 ∷ []))).answer ≡ refused 16 1
  -- 16 over all strips comes before 17 over any
  pub stage-before-past : (folding job_a ((1 ∷ 0 ∷ 1 ∷ 1 ∷ 1 ∷ 1 ∷ 0 ∷ 0 ∷ 0 ∷ []) ++ (1 ∷ 0 ∷ 1 ∷ 2 ∷ 1 ∷ 1 ∷ 5 ∷ 0 ∷ 0 ∷ []) ++ (2 ∷ 0 ∷ 1 ∷ 1 ∷ 1 ∷ 2 ∷ 0 ∷ 0 ∷ 0 ∷ []) ++ (2 ∷ 0 ∷ 1 ∷ 1 ∷ 2 ∷ 2 ∷ 0 ∷ 3 ∷ 0 ∷ []))).answer ≡ refused 16 3
  -- 17: stack widths past W, naming the strip's first line
  pub past-right : folding job_a ((1 ∷ 0 ∷ 1 ∷ 1 ∷ 1 ∷ 2 ∷ 0 ∷ 0 ∷ 0 ∷ []) ++ (1 ∷ 0 ∷ 2 ∷ 1 ∷ 1 ∷ 1 ∷ 0 ∷ 3 ∷ 0 ∷ []) ++ (1 ∷ 0 ∷ 2 ∷ 2 ∷ 1 ∷ 1 ∷ 5 ∷ 3 ∷ 0 ∷ [])) ≡ refuses 17 2 (replicate counts_size 0)
  -- 17: the lowest strip whose own top edge is above H
  pub past_top : (folding job_a ((1 ∷ 0 ∷ 1 ∷ 1 ∷ 1 ∷ 1 ∷ 0 ∷ 0 ∷ 0 ∷ []) ++ (1 ∷ 0 ∷ 2 ∷ 1 ∷ 1 ∷ 1 ∷ 0 ∷ 4 ∷ 0 ∷ []) ++ (1 ∷ 0 ∷ 3 ∷ 1 ∷ 1 ∷ 2 ∷ 0 ∷ 8 ∷ 0 ∷ []))).answer ≡ refused 17 2
  -- 17 comes before 18
  pub past-before-position : (folding job_a ((1 ∷ 0 ∷ 1 ∷ 1 ∷ 1 ∷ 1 ∷ 1 ∷ 0 ∷ 0 ∷ []) ++ (1 ∷ 0 ∷ 2 ∷ 1 ∷ 1 ∷ 1 ∷ 0 ∷ 4 ∷ 0 ∷ []))).answer ≡ refused 17 2
  -- 18: x or y that is not the item's position
  pub wrong-x : folding job_a (1 ∷ 0 ∷ 1 ∷ 1 ∷ 1 ∷ 1 ∷ 1 ∷ 0 ∷ 0 ∷ []) ≡ refuses 18 1 (replicate counts_size 0)
  pub wrong-y : (folding job_a ((1 ∷ 0 ∷ 1 ∷ 1 ∷ 1 ∷ 1 ∷ 0 ∷ 0 ∷ 0 ∷ []) ++ (1 ∷ 0 ∷ 2 ∷ 1 ∷ 1 ∷ 2 ∷ 0 ∷ 3 ∷ 0 ∷ []))).answer ≡ refused 18 2
  -- 11 comes last and names the type
  pub layouts-short : folding job_a ((1 ∷ 0 ∷ 1 ∷ 1 ∷ 1 ∷ 1 ∷ 0 ∷ 0 ∷ 0 ∷ []) ++ (2 ∷ 0 ∷ 1 ∷ 1 ∷ 1 ∷ 1 ∷ 0 ∷ 0 ∷ 0 ∷ [])) ≡ refuses 11 2 (replicate counts_size 0)
  -- after a refusal of the layouts row the lent counts are 0
  pub counts_zero : counts_end (fold_verdict job_a [] plates cuts counts) job_a [] counts ≡ replicate counts_size 0
