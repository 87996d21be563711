-- The loop over the stacks of a three-stage strip, on plain values: the stack that comes to the front, and how far the others are cut.
use Prim.Native.Nat.{ℕ, ◌+◌, ◌-◌, ◌*◌, ◌≤◌, ◌<◌}
use native.Mathlib.Omega.{arith}
use mathlib.Core.Path.{◌≡◌, refl, sym, ap, ◌∙◌}
use mathlib.Core.Bool.{Bool, true, false, cond, ◌&&◌}
use mathlib.Core.List.{List, [], ◌∷◌, ◌++◌, append_assoc, append-nil}
use lib.Dec.{eqb}
use lib.ListN.{length, drop, length-append}
use Rattle.job.specs.Sizes.{words_of_placement}
use Rattle.job.specs.Lists.{any, tally}
use Rattle.job.proofs.Lists.{any_next}
use Rattle.job.specs.Job.{Job}
use Rattle.listing.specs.Listing.{Listing}
use Rattle.listing.specs.Holds.{Holds}
use Rattle.layouts.specs.Layout.{Stack, Strip, width_of, full_stack}
use Rattle.layouts.specs.Placement.{Placement}
use Rattle.layouts.specs.Lines.{begun, rows_of}
use Rattle.layouts.specs.Rules.{Filled}
use Rattle.layouts.specs.Fold.{falling, first_of, without, strip_cuts}
use Rattle.layouts.proofs.lists.Sort.{length-falling}
use Rattle.placement.specs.PlacementRead.{placement_at}
use Rattle.placement.proofs.Rows.{rows-from}
use Rattle.layouts_strips.specs.declared.stack.StackMeasure.{StackMeasure}
use Rattle.layouts_strips.specs.Begun.{begins_stack}
use Rattle.layouts_strips.specs.First.{stack_of, strip_of}
use Rattle.layouts_strips.specs.Measures.{StackIs, StackSmall}
use Rattle.layouts_strips.proofs.CodeFirst.{when_on, stack-items}
use Rattle.layouts_strips.proofs.CodeBegun.{line-inside}
use Rattle.layouts_strips.proofs.CodeStrips.{stacks_left, left-more, left-none, strip-line}
use Rattle.fold_counts.specs.Lent.{Counting}
use Rattle.fold_counts.specs.Key.{key_of, items_in}
use Rattle.fold_counts.specs.Strip.{others, turn_cuts, turn_next}
use Rattle.fold_counts.proofs.Chaining.{cuts-length}
use Rattle.fold_counts.proofs.StackLines.{stack-types, stack-filled}
use Rattle.fold_counts.proofs.Fronts.{measured-full, full-one, front-here, front-next, others-turn}

-- and after some have been counted
pub counting-after : {counts counts' : List ℕ} {k n : ℕ} (m : ℕ) (g : Counting counts k n) (ms : List ℕ) → length ms + m ≤ n → length counts' ≡ length counts → Holds counts' (tally k 1 (g.so_far ++ ms)) → Counting counts' k m
counting-after m g ms h e held =
    record { so_far = g.so_far ++ ms; held = held; few = omega (arith, length-append g.so_far ms, g.few); room = omega (arith, g.room) }

-- the stack that begins behind p lines, full or not
module _ (job : Job) (h : ℕ) (ws : List ℕ) (lines p : ℕ) (m : StackMeasure) (words : length ws ≡ words_of_placement * lines) (inside : p < lines) (s : StackIs job p (stack_of (drop p (rows_of ws))) m) where
  one-item : (rs : List Placement) (r : Placement) (rs' : List Placement) → rs ≡ r ∷ rs' → full_stack job h (stack_of rs) ≡ true → stack_of rs ≡ r.item ∷ []
  one-item rs r rs' q t =
      rw q
      (let f : full_stack job h (r.item ∷ when_on (begun rs') (stack_of rs')) ≡ true = rw (q, stack-items r rs') at t in
      stack-items r rs' ∙ ap (λ (is : Stack). r.item ∷ is) (full-one job h r.item (when_on (begun rs') (stack_of rs')) f))

  pub front-found : full_stack job h (stack_of (drop p (rows_of ws))) ≡ true → first_of (full_stack job h) (strip_of (drop p (rows_of ws))) ≡ ((placement_at ws p).item ∷ []) ∷ []
  front-found t =
      ap (first_of (full_stack job h)) (strip-line job ws lines p words inside s)
      ∙ front-here job h (stack_of (drop p (rows_of ws))) (stacks_left ws m.end) t
      ∙ ap (λ (k : Stack). k ∷ []) (one-item (drop p (rows_of ws)) (placement_at ws p) (drop (p + 1) (rows_of ws)) (rows-from ws lines p words inside) t)

  module _ (some : any (full_stack job h) (strip_of (drop p (rows_of ws))) ≡ true) (t : full_stack job h (stack_of (drop p (rows_of ws))) ≡ false) where
    some_left : any (full_stack job h) (stacks_left ws m.end) ≡ true
    some_left =
        sym (any_next (full_stack job h) (stack_of (drop p (rows_of ws))) (stacks_left ws m.end) t)
        ∙ (rw (strip-line job ws lines p words inside s) at some)

    goes_on : begins_stack (begun (drop m.end (rows_of ws))) ≡ true
    unfolding any
    goes_on = go (begins_stack (begun (drop m.end (rows_of ws)))) refl
      where
        go : (b : Bool) → begins_stack (begun (drop m.end (rows_of ws))) ≡ b → b ≡ true
        go true e = refl
        go false e = rw (left-none ws m.end (sym e) refl) at some_left

    pub front-inside : m.end < lines
    front-inside = line-inside begins_stack ws lines m.end refl words (sym goes_on) refl

    pub front-some : any (full_stack job h) (strip_of (drop m.end (rows_of ws))) ≡ true
    front-some = rw (left-more ws m.end (sym goes_on) refl) at some_left

    pub front-left : first_of (full_stack job h) (strip_of (drop p (rows_of ws))) ≡ first_of (full_stack job h) (strip_of (drop m.end (rows_of ws)))
    front-left =
        ap (first_of (full_stack job h)) (strip-line job ws lines p words inside s)
        ∙ front-next job h (stack_of (drop p (rows_of ws))) (stacks_left ws m.end) t
        ∙ ap (first_of (full_stack job h)) (left-more ws m.end (sym goes_on) refl)

-- `whole` are the cuts of all the others; those done, counted behind what the counts had at `start`, and those of the stacks that are left make the whole
pub record OthersAt (job : Job) (l : Listing) (h k : ℕ) (start whole : List ℕ) (j : ℕ) (passed : Bool) (left : Strip) (n : ℕ) (counts : List ℕ) : Type 0 where
  pub done : List ℕ
  pub held : (ks : List ℕ) → Holds start (tally k 1 ks) → Holds counts (tally k 1 (ks ++ done))
  pub rest : done ++ strip_cuts l j (others job h passed left) ≡ whole
  -- as many as the items so far, at most
  pub few : length done ≤ n
  pub same : length counts ≡ length start

module _ (job : Job) (l : Listing) (h k : ℕ) where
  turn-length : (front : Bool) (j : ℕ) (xs : List ℕ) → length (turn_cuts l front j xs) ≤ length xs
  turn-length true j xs = omega arith
  turn-length false j xs = omega (arith, cuts-length l true j xs)

  pub others-step :
      {start whole : List ℕ} {j : ℕ} {passed : Bool} (s : Stack) (left : Strip) {n : ℕ} (n' : ℕ) {counts : List ℕ} (counts' : List ℕ) {j' : ℕ} {passed' : Bool} (front : Bool) (xs : List ℕ)
      → OthersAt job l h k start whole j passed (s ∷ left) n counts
      → Filled s
      → front ≡ cond passed false (full_stack job h s)
      → xs ≡ falling (width_of job) s
      → j' ≡ turn_next l front j xs
      → passed' ≡ cond front true passed
      → ((ks : List ℕ) → Holds counts (tally k 1 ks) → Holds counts' (tally k 1 (ks ++ turn_cuts l front j xs)))
      → length counts' ≡ length counts
      → n + length s ≤ n'
      → OthersAt job l h k start whole j' passed' left n' counts'
  others-step {whole = whole} {j = j} {passed = passed} s left n' counts' front xs at f a b c d more e g =
      let t = others-turn job h l j s left passed front f a in
      let u : strip_cuts l j (others job h passed (s ∷ left)) ≡ turn_cuts l front j xs ++ strip_cuts l (turn_next l front j xs) (others job h (cond front true passed) left) = rw b t in
      record {
        done = at.done ++ turn_cuts l front j xs;
        held = λ ks r. rw (← append_assoc ks at.done (turn_cuts l front j xs)) (more (ks ++ at.done) (at.held ks r));
        rest = rw (c, d) (append_assoc at.done (turn_cuts l front j xs) (strip_cuts l (turn_next l front j xs) (others job h (cond front true passed) left)) ∙ ap (λ (ms : List ℕ). at.done ++ ms) (sym u) ∙ at.rest);
        few = omega (arith, length-append at.done (turn_cuts l front j xs), turn-length front j xs, ap length b, length-falling (width_of job) s, at.few);
        same = e ∙ at.same;
      }

  none_left : (j : ℕ) (passed : Bool) → strip_cuts l j (others job h passed []) ≡ []
  unfolding strip_cuts without
  none_left j true = refl
  none_left j false = refl

  pub others-end : {start whole : List ℕ} {j : ℕ} {passed : Bool} {left : Strip} {n : ℕ} {counts : List ℕ} → OthersAt job l h k start whole j passed left n counts → left ≡ [] → (ks : List ℕ) → Holds start (tally k 1 ks) → Holds counts (tally k 1 (ks ++ whole))
  others-end {whole = whole} {j = j} {passed = passed} at e ks r =
      let z : at.done ≡ whole = sym (append-nil at.done) ∙ ap (λ (ms : List ℕ). at.done ++ ms) (sym (none_left j passed)) ∙ (rw e at at.rest) in
      rw (← z) (at.held ks r)

-- the stack that begins behind p lines is cut, or comes to the front; the stacks behind it are left
module _ (job : Job) (l : Listing) (h k : ℕ) (ws : List ℕ) {lines p : ℕ} {m : StackMeasure} (words : length ws ≡ words_of_placement * lines) (inside : p < lines) (s : StackIs job p (stack_of (drop p (rows_of ws))) m) (small : StackSmall p lines m) where
  pub others-next :
      {start whole : List ℕ} {j : ℕ} {passed : Bool} {a : ℕ} {counts : List ℕ} (counts' : List ℕ) {j' : ℕ} {passed' front : Bool}
      → a ≤ p
      → OthersAt job l h k start whole j passed (strip_of (drop p (rows_of ws))) (p - a) counts
      → front ≡ cond passed false (eqb m.end (p + 1) && eqb m.height h)
      → j' ≡ turn_next l front j (falling (key_of job true) (items_in p (m.end - p) (rows_of ws)))
      → passed' ≡ cond front true passed
      → ((ks : List ℕ) → Holds counts (tally k 1 ks) → Holds counts' (tally k 1 (ks ++ turn_cuts l front j (falling (key_of job true) (items_in p (m.end - p) (rows_of ws))))))
      → length counts' ≡ length counts
      → OthersAt job l h k start whole j' passed' (stacks_left ws m.end) (m.end - a) counts'
  others-next {passed = passed} {a = a} counts' {front = front} from at f c d more e =
      let stack = stack_of (drop p (rows_of ws)) in
      let xs : falling (key_of job true) (items_in p (m.end - p) (rows_of ws)) ≡ falling (width_of job) stack = ap (falling (key_of job true)) (stack-types job ws p m s) in
      let full : front ≡ cond passed false (full_stack job h stack) = f ∙ ap (λ (b : Bool). cond passed false b) (measured-full job h p stack m s refl) in
      others-step job l h k stack (stacks_left ws m.end) (m.end - a) counts' front _ (rw (strip-line job ws lines p words inside s) at at) (stack-filled job p lines stack m s small) full xs c d more e (omega (arith, s.ended, small.begun))
