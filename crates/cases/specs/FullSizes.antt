-- Document 01, "Where each number is given": 5 for a buffer "shorter than full size": lent plates 8,192 words and lent placements 36,000 since request Six, "cuts 32,768, counts
-- lent or passed in 8,192", and request Two's lent offcuts 48,000, of each call and each of its buffers, with the sizes as figures; buffers that are longer;
-- each field says what it shuts out.
use Rattle.std.specs.Prelude.{ℕ, ◌≡◌, List, [], ◌∷◌, ◌++◌, replicate}
use Rattle.std.proofs.Math.ListN.{drop}
use Rattle.job.specs.Buffers.{given, refused}
use Rattle.listing.specs.ListCall.{list_verdict, list_answer, plates_end, cuts_end}
use Rattle.plan.specs.PlanCall.{plan_answer}
use Rattle.plan.specs.PriceCall.{price_answer}
use Rattle.layouts.specs.UnfoldCall.{unfold_verdict, unfold_answer, placements_end, offcuts_end}
use Rattle.layouts.specs.FoldCall.{fold_verdict, fold_answer, counts_end}
use Rattle.cases.specs.Jobs.{job_a, plan_a, prices_a, lines_a}

-- so many words, every one a 7
unfoldable pub sevens : ℕ → List ℕ
sevens size = replicate size 7

-- job A's plan as so many words
unfoldable pub counts_a : ℕ → List ℕ
counts_a zeros = plan_a ++ replicate zeros 0

pub record FullSizes : Type 0 where
  -- full sizes of 8,193 or 32,769 words, or more
  pub listing_full : list_answer job_a (sevens 8192) (sevens 32768) ≡ given (5 ∷ 8 ∷ [])
  -- full sizes of 8,191 or 32,767 words, or less
  pub listing-plates : list_answer job_a (sevens 8191) (sevens 32768) ≡ refused 5 1
  pub listing-cuts : list_answer job_a (sevens 8192) (sevens 32767) ≡ refused 5 2
  -- the same of the plan test, and counts of 8,191 or 8,193 words
  pub plan-full : plan_answer job_a (counts_a 8184) (sevens 8192) (sevens 32768) ≡ given (2 ∷ 2 ∷ [])
  pub plan-plates : plan_answer job_a (counts_a 8184) (sevens 8191) (sevens 32768) ≡ refused 5 1
  pub plan-cuts : plan_answer job_a (counts_a 8184) (sevens 8192) (sevens 32767) ≡ refused 5 2
  pub plan-counts : plan_answer job_a (counts_a 8183) (sevens 8192) (sevens 32768) ≡ refused 5 3
  -- the same of the price test
  pub prices-full : price_answer job_a prices_a (sevens 8192) (sevens 32768) ≡ given (2 ∷ 1 ∷ [])
  pub prices-plates : price_answer job_a prices_a (sevens 8191) (sevens 32768) ≡ refused 5 1
  pub prices-cuts : price_answer job_a prices_a (sevens 8192) (sevens 32767) ≡ refused 5 2
  -- the same of the unfolding, placements of 35,999 or 36,001 words, and request Two's offcuts of 47,999 or 48,001
  pub unfolding-full : unfold_answer job_a 1 1 (counts_a 8184) (sevens 8192) (sevens 32768) (sevens 36000) (sevens 48000) ≡ given (2 ∷ 5 ∷ 3 ∷ [])
  pub unfolding-plates : unfold_answer job_a 1 1 (counts_a 8184) (sevens 8191) (sevens 32768) (sevens 36000) (sevens 48000) ≡ refused 5 1
  pub unfolding-cuts : unfold_answer job_a 1 1 (counts_a 8184) (sevens 8192) (sevens 32767) (sevens 36000) (sevens 48000) ≡ refused 5 2
  pub unfolding-counts : unfold_answer job_a 1 1 (counts_a 8183) (sevens 8192) (sevens 32768) (sevens 36000) (sevens 48000) ≡ refused 5 3
  pub unfolding-placements : unfold_answer job_a 1 1 (counts_a 8184) (sevens 8192) (sevens 32768) (sevens 35999) (sevens 48000) ≡ refused 5 4
  pub unfolding-offcuts : unfold_answer job_a 1 1 (counts_a 8184) (sevens 8192) (sevens 32768) (sevens 36000) (sevens 47999) ≡ refused 5 5
  -- the same of the folding, whose counts are lent
  pub folding-full : fold_answer job_a lines_a (sevens 8192) (sevens 32768) (sevens 8192) ≡ given (2 ∷ 2 ∷ [])
  pub folding-plates : fold_answer job_a lines_a (sevens 8191) (sevens 32768) (sevens 8192) ≡ refused 5 1
  pub folding-cuts : fold_answer job_a lines_a (sevens 8192) (sevens 32767) (sevens 8192) ≡ refused 5 2
  pub folding-counts : fold_answer job_a lines_a (sevens 8192) (sevens 32768) (sevens 8191) ≡ refused 5 3
  -- counts past their full size that are not read: word 8,193 is 8 too
  pub past-size : unfold_answer job_a 1 1 (replicate 8192 0 ++ (1 ∷ [])) (sevens 8192) (sevens 32768) (sevens 36000) (sevens 48000) ≡ refused 8 8193
  -- "after success unused words are 0": a buffer that is longer and keeps a word past its full size
  pub longer-plates : drop 8191 (plates_end (list_verdict job_a (sevens 8193) (sevens 32768)) job_a (sevens 8193)) ≡ (0 ∷ 0 ∷ [])
  pub longer-cuts : drop 32767 (cuts_end (list_verdict job_a (sevens 8192) (sevens 32769)) job_a (sevens 32769)) ≡ (0 ∷ 0 ∷ [])
  pub longer-placements :
      drop 35999 (placements_end (unfold_verdict job_a 1 1 (counts_a 8184) (sevens 8192) (sevens 32768) (sevens 36001) (sevens 48000)) job_a (counts_a 8184) (sevens 36001)) ≡ (0 ∷ 0 ∷ [])
  pub longer-offcuts :
      drop 47999 (offcuts_end (unfold_verdict job_a 1 1 (counts_a 8184) (sevens 8192) (sevens 32768) (sevens 36000) (sevens 48001)) job_a 1 1 (counts_a 8184) (sevens 48001)) ≡ (0 ∷ 0 ∷ [])
  pub longer-counts :
      drop 8191 (counts_end (fold_verdict job_a lines_a (sevens 8192) (sevens 32768) (sevens 8193)) job_a lines_a (sevens 8193)) ≡ (0 ∷ 0 ∷ [])
