-- The five calls on buffers of full size that hold other words beforehand: what is answered, and every word that is left.
use Prim.Native.Nat.{ℕ}
use mathlib.Core.List.{List, []}
use Rattle.std.specs.Prelude.{replicate}
use Rattle.job.specs.Buffers.{Answer, given, refused, filled, plates_size, cuts_size, counts_size, placements_size, offcuts_size}
use Rattle.listing.specs.ListCall.{list_verdict, list_answer, plates_end, cuts_end}
use Rattle.plan.specs.PlanCall.{plan_verdict, plan_answer}
use Rattle.plan.specs.PriceCall.{price_verdict, price_answer}
use Rattle.layouts.specs.UnfoldCall.{unfold_verdict, unfold_answer, placements_end}
use Rattle.layouts.specs.FoldCall.{fold_verdict, fold_answer, counts_end}

-- what a call answers, and the lent plates, cuts and, where there is one, third buffer when it ends
pub record Outcome : Type 0 where
  pub answer : Answer
  pub plates : List ℕ
  pub cuts : List ℕ
  pub third : List ℕ

-- the lent buffers beforehand: full size, every word a 7
unfoldable pub plates : List ℕ
plates = replicate plates_size 7

unfoldable pub cuts : List ℕ
cuts = replicate cuts_size 7

unfoldable pub counts : List ℕ
counts = replicate counts_size 7

unfoldable pub placements : List ℕ
placements = replicate placements_size 7

unfoldable pub offcuts : List ℕ
offcuts = replicate offcuts_size 7

-- the calls; counts that are passed in are filled up with zeros to their full size
unfoldable pub listing : List ℕ → Outcome
listing ws =
    let v = list_verdict ws plates cuts in
    record { answer = list_answer ws plates cuts; plates = plates_end v ws plates; cuts = cuts_end v ws cuts; third = [] }

unfoldable pub plan : List ℕ → List ℕ → Outcome
plan ws ns =
    let ms = filled counts_size ns in
    let v = plan_verdict ws ms plates cuts in
    record { answer = plan_answer ws ms plates cuts; plates = plates_end v ws plates; cuts = cuts_end v ws cuts; third = [] }

unfoldable pub prices : List ℕ → List ℕ → Outcome
prices ws ps =
    let v = price_verdict ws ps plates cuts in
    record { answer = price_answer ws ps plates cuts; plates = plates_end v ws plates; cuts = cuts_end v ws cuts; third = [] }

-- with two lengths of 1 (request Two); the offcuts as they end are in `Offcuts`
unfoldable pub unfolding' : List ℕ → List ℕ → Outcome
unfolding' ws ns =
    let ms = filled counts_size ns in
    let v = unfold_verdict ws 1 1 ms plates cuts placements offcuts in
    record {
      answer = unfold_answer ws 1 1 ms plates cuts placements offcuts;
      plates = plates_end v ws plates;
      cuts = cuts_end v ws cuts;
      third = placements_end v ws ms placements;
    }

unfoldable pub folding : List ℕ → List ℕ → Outcome
folding ws ls =
    let v = fold_verdict ws ls plates cuts counts in
    record {
      answer = fold_answer ws ls plates cuts counts;
      plates = plates_end v ws plates;
      cuts = cuts_end v ws cuts;
      third = counts_end v ws ls counts;
    }

-- a call that succeeds: its results, and the words that the buffers hold before their zeros
unfoldable pub succeeds : List ℕ → List ℕ → List ℕ → List ℕ → Outcome
succeeds results ps cs third =
    record { answer = given results; plates = filled plates_size ps; cuts = filled cuts_size cs; third = third }

-- a call that is refused: every word of every lent buffer is 0
unfoldable pub refuses : ℕ → ℕ → List ℕ → Outcome
refuses number place third =
    record { answer = refused number place; plates = replicate plates_size 0; cuts = replicate cuts_size 0; third = third }
