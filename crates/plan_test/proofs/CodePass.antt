-- The pass over the cuts that adds up their counts: each turn has room in its words, and the last has the sums of all cuts.
use mathlib.Core.Path.{◌≡◌}
use Prim.Native.Nat.{ℕ, ◌+◌, ◌≤◌, ◌<◌}
use mathlib.Core.Bool.{Bool}
use mathlib.Core.List.{List, [], ◌∷◌, ◌++◌}
use native.Mathlib.Omega.{arith}
use native.Mathlib.Numerals.{add-one}
use lib.ListN.{length, get_or, take}
use lib.Seq.{length-take-le, take-length}
use Rattle.job.specs.Sizes.{max_types, max_pieces, max_plates}
use Rattle.job.specs.Job.{type_of}
use Rattle.listing.specs.Listing.{Cut}
use Rattle.plan.specs.Plan.{count_of, of_item, on_plate, leaves_plate, total}
use Rattle.listing.specs.CutRead.{cut_read, cuts_read, InRange, Sound}
use Rattle.plan_test.specs.Sums.{Fit, SumsOf, Sums, SumRoom}
use Rattle.listing.proofs.CodeCuts.{length-cuts_from, cut-sound, cuts-take}
use Rattle.plan_test.proofs.CodeSums.{room}

-- a word that holds a sum of the first cuts has room for the count of the next one
fit : (test : ℕ → Cut → Bool) (cs : List Cut) (ns s : List ℕ) (k j n : ℕ) → length cs < k → k ≤ length ns → total (take k ns) ≤ max_pieces → get_or ns (length cs) 0 ≡ n → SumsOf test cs ns s → j < length s → Fit s j n
fit test cs ns s k j n h l t v r p =
    let e : get_or s j 0 ≡ count_of (test j) cs ns = r j p in
    let f : count_of (test j) cs ns + get_or ns (length cs) 0 ≤ total (take k ns) = room (test j) cs ns k h l in
    record { inside = p; small = omega arith }

-- words that are as many as before have the room that those had
pub sum_room : {items on left items' on' left' : List ℕ} → SumRoom items on left → length items' ≡ length items → length on' ≡ length on → length left' ≡ length left → SumRoom items' on' left'
sum_room r a b d = record { for-items = omega arith; for-plates = omega arith; for-residuals = omega arith }

-- cut c of k, whose words are read, stands behind the c cuts whose counts are added up
module _ (cuts ns items on left : List ℕ) (k c : ℕ) (h : c < k) (l : k ≤ length ns) (s : Sums (take c (cuts_read k cuts)) ns items on left) where
  behind : length (take c (cuts_read k cuts)) ≡ c
  behind = length-take-le c (cuts_read k cuts) (rw length-cuts_from (omega arith))

  -- its four words have room
  pub turn-fits : total (take k ns) ≤ max_pieces → Sound max_plates max_types (cuts_read k cuts) → SumRoom items on left → (cut : Cut) → cut ≡ cut_read cuts c → (Fit items (type_of cut.item) (get_or ns c 0)) × ((Fit on cut.plate (get_or ns c 0)) × ((Fit left cut.top (get_or ns c 0)) × (Fit left cut.right (get_or ns c 0))))
  turn-fits t sound r cut e =
      let g : InRange max_plates max_types cut = rw e (cut-sound max_plates max_types k c cuts sound h) in
      let b : length (take c (cuts_read k cuts)) ≡ c = behind in
      let v : get_or ns (length (take c (cuts_read k cuts))) 0 ≡ get_or ns c 0 = rw behind in
      (fit of_item (take c (cuts_read k cuts)) ns items k _ _ (omega arith) l t v s.by-item (omega arith), (fit on_plate (take c (cuts_read k cuts)) ns on k _ _ (omega arith) l t v s.by-plate (omega arith), (fit leaves_plate (take c (cuts_read k cuts)) ns left k _ _ (omega arith) l t v s.by-residual (omega arith), fit leaves_plate (take c (cuts_read k cuts)) ns left k _ _ (omega arith) l t v s.by-residual (omega arith))))

  -- its count added, the sums are those of one cut more
  pub turn-sums : (cut : Cut) → cut ≡ cut_read cuts c → {items' on' left' : List ℕ} → ((cs : List Cut) (ms : List ℕ) → length cs < length ms → get_or ms (length cs) 0 ≡ get_or ns c 0 → Sums cs ms items on left → Sums (cs ++ cut ∷ []) ms items' on' left') → Sums (take (c + 1) (cuts_read k cuts)) ns items' on' left'
  turn-sums cut e f =
      let b : length (take c (cuts_read k cuts)) ≡ c = behind in
      rw (add-one, cuts-take k c cuts h, ← e) (f (take c (cuts_read k cuts)) ns (omega arith) (rw behind) s)

-- after all k turns the sums are those of the k cuts
pub turns-end : (cuts ns items on left : List ℕ) (k c : ℕ) → c ≤ k → k ≤ c → Sums (take c (cuts_read k cuts)) ns items on left → Sums (cuts_read k cuts) ns items on left
turns-end cuts ns items on left k c h l s =
    let e : c ≡ length (cuts_read k cuts) = rw length-cuts_from (omega arith) in
    let z : take c (cuts_read k cuts) ≡ cuts_read k cuts = rw e (take-length (cuts_read k cuts)) in
    rw z at s
