-- Where the cuts of each plate type begin, on plain values: what the words written so far say, and the part of the counts that two of them bound.
use Prim.Native.Nat.{ℕ, suc, ◌+◌, ◌-◌, ◌≤◌, ◌<◌}
use native.Mathlib.Numerals.{add-one}
use native.Mathlib.Omega.{arith}
use mathlib.Core.Path.{◌≡◌, sym, ◌∙◌, ap}
use mathlib.Core.Logic.{◌⊎◌, inl, inr}
use mathlib.Core.Bool.{Bool, true, false, ◌&&◌}
use mathlib.Core.List.{List}
use mathlib.Core.Option.{none, some}
use lib.Dec.{ltb}
use lib.ListN.{length, get_or, set, take, drop, length-take, length-drop}
use lib.Seq.{drop-cons, get_or-drop, get_or-set_same, get_or-set_other}
use borrow.Author.Tests.{ltb-true, ltb-false, lt-ltb}
use Rattle.job.specs.Job.{Job}
use Rattle.job.proofs.Tests.{equal_or_not, and_left, and_right}
use Rattle.listing.specs.Listing.{Cut, Listing, cut_at, no_cut}
use Rattle.listing.specs.Model.{Model}
use Rattle.listing.specs.Records.{cut_words}
use Rattle.listing.specs.Holds.{Holds}
use Rattle.listing.specs.CutRead.{cut_read}
use Rattle.listing.proofs.CodeCuts.{held_cut}
use Rattle.listing.proofs.ModelLaws.{plates-rise}
use Rattle.plan.specs.Plan.{boards_of, total}
use Rattle.layouts.specs.Unfold.{search}
use Rattle.layouts.specs.OwnCuts.{begin_of, own_part, first_left, part_search}
use Rattle.layouts.proofs.machine.OwnCuts.{begin-past, begin-none, own-part}
use Rattle.std.specs.Prelude.{Option as CodeOption, Some, None}
use Rattle.unfold_waiting.specs.Begins.{Begins, PartIn}
use Rattle.unfold_waiting.specs.Meaning.{left_means}
use Rattle.unfold_waiting.proofs.CodeSearch.{left-shifted, left-none, left-among}

-- of c cuts it is known that they come before the plate types from j on begin
abbrev pub Passed : List Cut → ℕ → ℕ → Type 0
Passed cs c j = (i : ℕ) → j ≤ i → begin_of cs i ≡ c + begin_of (drop c cs) i

-- the words of the plate types below j are written
abbrev pub Written : List Cut → List ℕ → ℕ → Type 0
Written cs bs j = (i : ℕ) → i < j → get_or bs i 0 ≡ begin_of cs i

-- what the code tells of a cut: where it says so, the cut is there and is on a plate type below; else, if it is there, it is not
module _ {r : Bool} (buffer : List ℕ) (k c j : ℕ) (e : r ≡ (ltb c k && ltb (cut_read buffer c).plate j)) where
  pub below-there : r ≡ true → c < k
  below-there t = ltb-true c k (and_left (ltb c k) (ltb (cut_read buffer c).plate j) (sym e ∙ t))

  pub below-so : (cs : List Cut) → Holds buffer (cut_words cs) → r ≡ true → (get_or cs c no_cut).plate < j
  below-so cs h t =
      rw (← held_cut cs h c) (ltb-true (cut_read buffer c).plate j (and_right (ltb c k) (ltb (cut_read buffer c).plate j) (sym e ∙ t)))

  pub not-below : (cs : List Cut) → Holds buffer (cut_words cs) → r ≡ false → c < k → j ≤ (get_or cs c no_cut).plate
  not-below cs h t p =
      let f : ltb (cut_read buffer c).plate j ≡ false = rw (lt-ltb c k p) at (sym e ∙ t) in
      rw (← held_cut cs h c) (ltb-false (cut_read buffer c).plate j f)

module _ (cs : List Cut) (c j : ℕ) (passed : Passed cs c j) where
  -- a cut on a plate type below j is passed
  pub pass-cut : c < length cs → (get_or cs c no_cut).plate < j → Passed cs (c + 1) j
  pass-cut h g i p =
      let e : begin_of (drop c cs) i ≡ suc (begin_of (drop (suc c) cs) i) = rw (drop-cons cs c no_cut h) (begin-past (get_or cs c no_cut) (drop (suc c) cs) i (omega arith)) in
      rw add-one (omega (arith, passed i p, e))

  -- no other comes before j begins
  pub begins-at : ((a b : ℕ) → a ≤ b → b < length cs → (get_or cs a no_cut).plate ≤ (get_or cs b no_cut).plate) → (c < length cs → j ≤ (get_or cs c no_cut).plate) → c ≡ begin_of cs j
  begins-at rises h =
      let z : begin_of (drop c cs) j ≡ 0 = begin-none (drop c cs) j past in
      omega (arith, passed j (omega arith))
    where
      past : (d : ℕ) → d < length (drop c cs) → j ≤ (get_or (drop c cs) d no_cut).plate
      past d p =
          let n : length (drop c cs) ≡ length cs - c = length-drop c cs in
          rw (get_or-drop c cs d no_cut) (omega (arith, h (omega arith), rises c (c + d) (omega arith) (omega arith)))

  -- the word of j is written
  pub write-begin : (bs : List ℕ) → j < length bs → c ≡ begin_of cs j → Written cs bs j → Written cs (set bs j c) (j + 1)
  write-begin bs h e w i p = by (equal_or_not i j)
    where
      by : (i ≡ j) ⊎ (i ≡ j → ⊥) → get_or (set bs j c) i 0 ≡ begin_of cs i
      by (inl q) = rw (q, get_or-set_same bs j c 0 h) e
      by (inr q) = get_or-set_other bs j i c 0 q ∙ w i (omega arith)

-- the plate types of a listing's cuts do not fall
pub plates-rising : (job : Job) (l : Listing) → Model job l → (a b : ℕ) → a ≤ b → b < length l.cuts → (get_or l.cuts a no_cut).plate ≤ (get_or l.cuts b no_cut).plate
unfolding cut_at
plates-rising job l m = plates-rise job l m

-- the part of the counts that the words of plate type j and the next bound
abbrev pub part_by : List ℕ → List ℕ → ℕ → List ℕ
part_by bs ns j = take (get_or bs (j + 1) 0 - get_or bs j 0) (drop (get_or bs j 0) ns)

-- as many counts as the words of plate type j and the next are apart; what is found among them is numbered below the next type's
module _ (bs ns : List ℕ) (j : ℕ) where
  pub part-few : length (part_by bs ns j) ≤ get_or bs (j + 1) 0 - get_or bs j 0
  part-few = simp length-take (omega arith)

  pub number-below : PartIn bs ns j → {r : CodeOption ℕ} → left_means r ≡ first_left 0 (part_by bs ns j) → (i : ℕ) → r ≡ Some i → get_or bs j 0 + i + 1 ≤ get_or bs (j + 1) 0
  number-below p e i f = omega (arith, part-few, left-among 0 (part_by bs ns j) i (sym e ∙ ap left_means f), p.ordered)

-- the part that they bound is the type's own
module _ (job : Job) (l : Listing) (m : Model job l) (bs ns : List ℕ) (j : ℕ) (p : PartIn bs ns j) (b : Begins l.cuts bs) where
  here : get_or bs j 0 ≡ begin_of l.cuts j
  here = b.each j (omega (arith, p.there))

  part-is : part_by bs ns j ≡ own_part l j ns
  unfolding own_part
  part-is = rw (here, b.each (j + 1) p.there, add-one)

  pub boards-here : total (part_by bs ns j) ≡ boards_of l j ns
  boards-here = ap total part-is ∙ (own-part job l m j).same-boards ns

  whole : first_left (suc (get_or bs j 0)) (part_by bs ns j) ≡ search j 1 l.cuts ns
  unfolding part_search
  whole = rw (part-is, here) ((own-part job l m j).same-cut ns)

  module _ {r : CodeOption ℕ} (e : left_means r ≡ first_left 0 (part_by bs ns j)) where
    pub found_here : (i : ℕ) → r ≡ Some i → some (get_or bs j 0 + i + 1) ≡ search j 1 l.cuts ns
    found_here i g =
        let f : get_or bs j 0 + i + 1 ≡ suc (get_or bs j 0) + i = omega arith in
        rw f (sym (left-shifted (suc (get_or bs j 0)) i (part_by bs ns j) (sym e ∙ ap left_means g)) ∙ whole)

    pub found_nowhere : r ≡ None → none ≡ search j 1 l.cuts ns
    found_nowhere g = sym (left-none 0 (suc (get_or bs j 0)) (part_by bs ns j) (sym e ∙ ap left_means g)) ∙ whole
