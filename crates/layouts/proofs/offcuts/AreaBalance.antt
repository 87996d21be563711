-- Requests Two and Four: for every accepted plan and every board, item areas, offcuts, waste and the blade's swath make the W×H of its size (request Six); what
-- is left over of a type; the number of offcuts.
use Prim.Native.Nat.{ℕ, zero, suc, ◌+◌, ◌*◌, ◌-◌, ◌≤◌, ◌<◌}
use native.Mathlib.Omega.{arith}
use mathlib.Core.Path.{◌≡◌, refl, sym, ◌∙◌, ap, subst}
use mathlib.Core.Logic.{inl, inr}
use mathlib.Core.Bool.{Bool, true, false, cond}
use mathlib.Core.List.{List, [], ◌∷◌, map}
use lib.Dec.{ltb, eqb}
use lib.ListN.{length, get_or}
use borrow.Author.Tests.{eq-eqb, ne_eqb, lt-ltb}
use Rattle.job.specs.Lists.{sum_of, occurs}
use Rattle.job.specs.Sizes.{words_of_offcut, max_offcuts, offcuts_size}
use Rattle.job.specs.Job.{Job}
use Rattle.job.specs.Admitted.{Sided}
use Rattle.job.proofs.Sums.{bit, bit-diff, occurs-cons}
use Rattle.job.proofs.Records.{words-length}
use Rattle.listing.specs.declared.plate.Plate.{Plate}
use Rattle.listing.specs.Listing.{Cut, Listing, plate_at, cut_at}
use Rattle.listing.specs.Model.{Model, Numbered, item_of, left_by}
use Rattle.listing.specs.Waste.{area, item_area, waste_of, swath_of}
use Rattle.listing.proofs.Waste.{kept_area, cut-balance}
use Rattle.plan.specs.Plan.{count_of, on_plate, on_size, leaves_plate, boards, total}
use Rattle.plan.specs.Feasible.{Feasible, NonePast}
use Rattle.layouts.specs.Placement.{Opened, opened}
use Rattle.layouts.specs.Rules.{Every}
use Rattle.layouts.specs.Unfold.{Piece, Waiting, State, steps_for, start_of, unfolded}
use Rattle.layouts.specs.Offcuts.{Event, did, over, events_of, placed_in, cuts_in, cuts_on, types_over, Offcut, offcut, offcuts_in, offcut_words}
use Rattle.layouts.specs.Balance.{on_board, items_on, offcuts_on, size_on, size_area, waste_by, swath_by, keeps_top, keeps_right, AreaBalance}
use Rattle.layouts.proofs.lists.Every.{every-at}
use Rattle.layouts.proofs.trees.WeightedSums.{wsum, wsum-none, wsum-at, weight, total-wsum, count_of-wsum}
use Rattle.layouts.proofs.trees.Cuts.{IsCut, plate_of, cut_fits, top-number, right-number, leaves-once}
use Rattle.layouts.proofs.machine.MachineEnds.{unfolds}
use Rattle.layouts.proofs.offcuts.Events.{Runs, stays, leaves as leaves_over, cuts, opens, waits, same-items, run-follows}
use Rattle.layouts.proofs.offcuts.Flow.{did_sum, over_sum, wait_sum, if_kept, opened_sum, opened_in, did_sum-le, did_sum-add, did_sum-none, runs-sum, flow}
use Rattle.layouts.proofs.offcuts.Sized.{opened-sized, size-met, none_over}

-- the boards opened, of which one is board b
opened-below : (b k : ℕ) (zs : List ℕ) (f : ℕ → ℕ) → b ≤ k → opened_sum (λ c j. on_board b c (f j)) k zs ≡ 0
opened-below b k [] f h = refl
opened-below b k (z ∷ zs) f h =
    let e : eqb (suc k) b ≡ false = ne_eqb (suc k) b (λ (q : suc k ≡ b). omega arith) in
    rw e (omega (arith, opened-below b (suc k) zs f (omega arith)))

opened-at : (b k i : ℕ) (zs : List ℕ) (f : ℕ → ℕ) → b ≡ suc (k + i) → i < length zs → opened_sum (λ c j. on_board b c (f j)) k zs ≡ f (get_or zs i 0)
opened-at b k i [] f e h = absurd (omega arith)
opened-at b k zero (z ∷ zs) f e h = rw (eq-eqb (suc k) b (omega arith)) (omega (arith, opened-below b (suc k) zs f (omega arith)))
opened-at b k (suc i) (z ∷ zs) f e h =
    rw (ne_eqb (suc k) b (λ (q : suc k ≡ b). omega arith)) (omega (arith, opened-at b (suc k) i zs f (omega arith) (omega arith)))

-- how often a cut is done
did-often : (k : ℕ) (es : List Event) → did_sum (λ _ c. bit (eqb c k)) es ≡ occurs k (cuts_in es)
unfolding cuts_in occurs sum_of
did-often k [] = refl
did-often k (did c p ∷ es) = omega (arith, did-often k es, occurs-cons k c (cuts_in es))
did-often k (over b p ∷ es) = did-often k es

-- the pieces left over of a type, and their areas
over-types : (j : ℕ) (es : List Event) → over_sum (λ _ i. bit (eqb i j)) es ≡ occurs j (types_over es)
unfolding types_over occurs sum_of
over-types j [] = refl
over-types j (did c p ∷ es) = over-types j es
over-types j (over b p ∷ es) = omega (arith, over-types j es, occurs-cons j p.plate (types_over es))

over-areas : (l : Listing) (b : ℕ) (es : List Event) → over_sum (λ c i. on_board b c (area (plate_at l i))) es ≡ offcuts_on b (offcuts_in l es)
unfolding offcuts_on offcuts_in offcut sum_of
over-areas l b [] = refl
over-areas l b (did c p ∷ es) = over-areas l b es
over-areas l b (over c p ∷ es) = omega (arith, over-areas l b es)

over-number : (l : Listing) (es : List Event) → over_sum (λ _ _. 1) es ≡ length (offcuts_in l es)
unfolding offcuts_in
over-number l [] = refl
over-number l (did c p ∷ es) = over-number l es
over-number l (over c p ∷ es) = omega (arith, over-number l es)

-- boards that count for k each
opened-count : (f : ℕ → ℕ → ℕ) (P : ℕ → Type 0) (k : ℕ) → ((b j : ℕ) → P j → f b j ≡ k) → (b : ℕ) (zs : List ℕ) → Every P zs → opened_sum f b zs ≡ length zs * k
opened-count f P k h b [] q = omega arith
opened-count f P k h b (z ∷ zs) q = omega (arith, h (suc b) z q.0, opened-count f P k h (suc b) zs q.1)

module _ (job : Job) (l : Listing) where
  -- the waste and the swath of one cut
  abbrev wastes : ℕ → ℕ
  wastes c = waste_of job (item_of job (cut_at l c)) (plate_of l c)

  abbrev sawn : ℕ → ℕ
  sawn c = swath_of job (item_of job (cut_at l c)) (plate_of l c)

  -- what is done on board b: the items placed, the waste and the swath
  done_on : (b : ℕ) {ps qs : List Piece} {a a' : Opened} {ns ns' : List ℕ} {es : List Event} → Runs job l ps a ns es a' ns' qs
      → did_sum (λ d c. on_board b d (item_area (item_of job (cut_at l c)) + wastes c + sawn c)) es
      ≡ items_on job b (placed_in es) + waste_by job l (cuts_on b es) + swath_by job l (cuts_on b es)
  unfolding items_on waste_by swath_by placed_in cuts_on sum_of
  done_on b stays = refl
  done_on b (leaves_over e r) = done_on b r
  done_on b (opens z e r) = done_on b r
  done_on b (cuts {c = c} {b = d} {es = es} e r) = go (eqb d.number b) (done_on b r)
    where
      go : (t : Bool)
          → did_sum (λ d c. on_board b d (item_area (item_of job (cut_at l c)) + wastes c + sawn c)) es ≡ items_on job b (placed_in es) + waste_by job l (cuts_on b es) + swath_by job l (cuts_on b es)
          → cond t (item_area (item_of job (cut_at l c)) + wastes c + sawn c) 0 + did_sum (λ d c. on_board b d (item_area (item_of job (cut_at l c)) + wastes c + sawn c)) es
          ≡ cond t (item_area (item_of job (cut_at l c))) 0 + items_on job b (placed_in es) + waste_by job l (elim t [ true ↦ c ∷ cuts_on b es | false ↦ cuts_on b es ]) + swath_by job l (elim t [ true ↦ c ∷ cuts_on b es | false ↦ cuts_on b es ])
      go true rec = omega arith
      go false rec = omega arith

  -- each item placed is that of its cut
  items-of-cuts : {ps qs : List Piece} {a a' : Opened} {ns ns' : List ℕ} {es : List Event} → Runs job l ps a ns es a' ns' qs → map (λ k. (cut_at l k).item) (cuts_in es) ≡ map (λ p. p.item) (placed_in es)
  unfolding cuts_in placed_in
  items-of-cuts stays = refl
  items-of-cuts (leaves_over e r) = items-of-cuts r
  items-of-cuts (cuts {c = c} e r) = ap (λ (is : List ℕ). (cut_at l c).item ∷ is) (items-of-cuts r)
  items-of-cuts (opens z e r) = items-of-cuts r

module _ (job : Job) (l : Listing) (m : Model job l) where
  -- the area of a residual that is kept is that of its plate type
  numbered-area : (q : Plate) (r : ℕ) → Numbered job l q r → kept_area job q ≡ if_kept (λ j. area (plate_at l j)) r
  numbered-area q zero (inl z) = rw z.0
  numbered-area q (suc r) (inl z) = absurd (omega (arith, z.1))
  numbered-area q zero (inr z) = absurd (omega (arith, z.1))
  numbered-area q (suc r) (inr z) = rw (z.0, z.3)

  -- the law of one cut of the model
  cut-areas : (c : ℕ) → IsCut l c → area (plate_of l c) ≡ item_area (item_of job (cut_at l c)) + wastes job l c + sawn job l c
      + (if_kept (λ j. area (plate_at l j)) (cut_at l c).top + if_kept (λ j. area (plate_at l j)) (cut_at l c).right)
  cut-areas c i =
      omega (
        arith,
        cut-balance job (item_of job (cut_at l c)) (plate_of l c) (cut_fits job l m c i).allowed,
        numbered-area (left_by job l (cut_at l c)).top (cut_at l c).top (top-number job l m c i),
        numbered-area (left_by job l (cut_at l c)).right (cut_at l c).right (right-number job l m c i),
      )

  -- the same on one board, and nothing on the others
  areas-on : (b d c : ℕ) → IsCut l c → on_board b d (area (plate_of l c)) + 0 ≡ on_board b d (item_area (item_of job (cut_at l c)) + wastes job l c + sawn job l c)
      + (if_kept (λ j. on_board b d (area (plate_at l j))) (cut_at l c).top + if_kept (λ j. on_board b d (area (plate_at l j))) (cut_at l c).right)
  areas-on b d c i = go (eqb d b)
    where
      none : (j : ℕ) → if_kept (λ _. 0) j ≡ 0
      none zero = refl
      none (suc j) = refl

      go : (t : Bool) → cond t (area (plate_of l c)) 0 + 0 ≡ cond t (item_area (item_of job (cut_at l c)) + wastes job l c + sawn job l c) 0
          + (if_kept (λ j. cond t (area (plate_at l j)) 0) (cut_at l c).top + if_kept (λ j. cond t (area (plate_at l j)) 0) (cut_at l c).right)
      go true = omega (arith, cut-areas c i)
      go false = omega (arith, none (cut_at l c).top, none (cut_at l c).right)

  -- the pieces of a type that a cut takes and leaves
  type-law : (k : ℕ) → 0 < k → (b c : ℕ) → IsCut l c → bit (eqb (cut_at l c).plate k) + bit (leaves_plate k (cut_at l c)) ≡ bit (on_plate k (cut_at l c))
      + (if_kept (λ j. bit (eqb j k)) (cut_at l c).top + if_kept (λ j. bit (eqb j k)) (cut_at l c).right)
  unfolding on_plate
  type-law k p b c i = omega (arith, leaves-once job l m k p c i, numbered (cut_at l c).top, numbered (cut_at l c).right, swapped (eqb (plate_of l c).stage 2))
    where
      numbered : (j : ℕ) → if_kept (λ j. bit (eqb j k)) j ≡ bit (eqb j k)
      numbered zero = sym (bit-diff {a = 0} {b = k} (λ (e : 0 ≡ k). omega arith))
      numbered (suc j) = refl

      swapped : (t : Bool) → bit (eqb (cut_at l c).top k) + bit (eqb (cut_at l c).right k)
          ≡ bit (eqb (cond t (cut_at l c).top (cut_at l c).right) k) + bit (eqb (cond t (cut_at l c).right (cut_at l c).top) k)
      swapped true = refl
      swapped false = omega arith

  -- In any run from its beginning: of a residual type, what is left over, what is cut and what waits still is what arose.
  type-flow : (k : ℕ) → l.sizes ≤ k → {qs : List Piece} {b : Opened} {ns ns' : List ℕ} {es : List Event} → Runs job l [] (opened 0 0) ns es b ns' qs
      → occurs k (types_over es) + did_sum (λ _ c. weight (on_plate k) l c) es + wait_sum (λ _ j. bit (eqb j k)) b.number qs ≡ did_sum (λ _ c. weight (leaves_plate k) l c) es
  unfolding sum_of
  type-flow k p {es = es} r =
      let (d, s) = flow job l (λ _ j. bit (eqb j k)) (λ _ c. weight (leaves_plate k) l c) (λ _ c. weight (on_plate k) l c) (type-law k (omega (arith, m.sized, m.some_size))) r in
      let none : (b j : ℕ) → j < length job.sizes → bit (eqb j k) ≡ 0 = λ b j h. bit-diff (λ (e : j ≡ k). omega (arith, m.sized)) in
      omega (arith, over-types k es, opened-count (λ _ j. bit (eqb j k)) (λ j. j < length job.sizes) 0 none 0 (opened_in job l r) (opened-sized job l r))

  module _ (sided : Sided job) (ns : List ℕ) (past : NonePast l ns) (a : Feasible job l ns) where
    abbrev last : State
    last = (unfolded job l ns).last

    -- the unfolding as a run: it opens the plan's boards, and nothing waits in the end
    runs : Runs job l [] (opened 0 0) ns (events_of job l ns) last.turn.board last.counts []
    unfolding events_of unfolded
    runs =
        subst (λ (w : Waiting). Runs job l [] (opened 0 0) ns (events_of job l ns) last.turn.board last.counts (waits job l (record { counts = last.counts; waiting = w; turn = last.turn }))) (unfolds job l m sided ns past a).none_left
        (run-follows job l m sided (steps_for ns) ns)

    last-number : last.turn.board.number ≡ boards l ns
    last-number = (unfolds job l m sided ns past a).last-board ∙ (unfolds job l m sided ns past a).opens

    -- the sizes of the boards opened
    sizes : List ℕ
    sizes = opened_in job l runs

    -- the area of a board is that of its size
    size-area : (i : ℕ) → i < length sizes → area (plate_at l (get_or sizes i 0)) ≡ size_area job (get_or sizes i 0)
    unfolding size_area sizes
    size-area i h = ap area (m.first (get_or sizes i 0) (every-at (λ z. z < length job.sizes) sizes (opened-sized job l runs) 0 i h))

    -- each cut is done as often as it is counted
    each-done : (f : ℕ → ℕ) → did_sum (λ _ c. f c) (events_of job l ns) ≡ wsum f 1 ns
    each-done f = omega (arith, runs-sum job l runs f, wsum-none f 1 last.counts (λ c _. (unfolds job l m sided ns past a).all-0 c))

    cuts-done : (c : ℕ) → occurs (suc c) (cuts_in (events_of job l ns)) ≡ get_or ns c 0
    cuts-done c =
        let e : 1 + c ≡ suc c = omega arith in
        sym (did-often (suc c) (events_of job l ns)) ∙ each-done (λ d. bit (eqb d (suc c))) ∙ rw e at (wsum-at 1 ns c)

    same : placed_in (events_of job l ns) ≡ (unfolded job l ns).placements
    unfolding events_of unfolded
    same = same-items (steps_for ns) job l (start_of ns)

    -- items, offcuts, waste and the swath of the job's blade make the board
    each-board : (b : ℕ) → 1 ≤ b → b ≤ boards l ns
        → items_on job b (unfolded job l ns).placements + offcuts_on b (offcuts_in l (events_of job l ns)) + waste_by job l (cuts_on b (events_of job l ns)) + swath_by job l (cuts_on b (events_of job l ns)) ≡ size_area job (size_on b (unfolded job l ns).placements)
    unfolding sum_of sizes
    each-board b p q =
        let es : List Event = events_of job l ns in
        let (d, s) = flow job l (λ d j. on_board b d (area (plate_at l j))) (λ _ _. 0) (λ d c. on_board b d (item_area (item_of job (cut_at l c)) + wastes job l c + sawn job l c)) (λ d c i. areas-on b d c i) runs in
        let below : b - 1 < length sizes = omega (arith, last-number) in
        let o : opened_sum (λ d j. on_board b d (area (plate_at l j))) 0 sizes ≡ area (plate_at l (get_or sizes (b - 1) 0)) = opened-at b 0 (b - 1) sizes (λ j. area (plate_at l j)) (omega arith) below in
        let named : size_on b (placed_in es) ≡ get_or sizes (b - 1) 0 = size-met job l runs (b - 1) b (omega arith) below in
        omega (
          arith,
          done_on job l b runs,
          over-areas l b es,
          did_sum-none es,
          ap (items_on job b) same,
          size-area (b - 1) below,
          ap (size_area job) (sym named ∙ ap (size_on b) same),
        )

    left_over : (j : ℕ) → l.sizes ≤ j → occurs j (types_over (events_of job l ns)) + count_of (on_plate j) l.cuts ns ≡ count_of (leaves_plate j) l.cuts ns
    unfolding sum_of
    left_over j p =
        omega (
          arith,
          type-flow j p runs,
          each-done (weight (on_plate j) l),
          each-done (weight (leaves_plate j) l),
          count_of-wsum (on_plate j) l ns past,
          count_of-wsum (leaves_plate j) l ns past,
        )

    no-board-over : (j : ℕ) → j < l.sizes → occurs j (types_over (events_of job l ns)) ≡ 0
    no-board-over = none_over job l m runs

    -- a residual counts as one, if it is kept
    kept-one : (j : ℕ) → if_kept (λ _. 1) j ≡ bit (ltb 0 j)
    kept-one zero = refl
    kept-one (suc j) = rw (lt-ltb 0 (suc j) (omega arith))

    -- left over: boards and kept residuals less cuts
    offcuts-number : length (offcuts_in l (events_of job l ns)) + total ns ≡ boards l ns + count_of keeps_top l.cuts ns + count_of keeps_right l.cuts ns
    unfolding sum_of
    offcuts-number =
        let es : List Event = events_of job l ns in
        let keeps : ℕ → ℕ → ℕ = λ _ c. weight keeps_top l c + weight keeps_right l c in
        let (d, s) = flow job l (λ _ _. 1) keeps (λ _ _. 1) (λ b c i. omega (arith, kept-one (cut_at l c).top, kept-one (cut_at l c).right)) runs in
        omega (
          arith,
          over-number l es,
          opened-count (λ _ _. 1) (λ j. j < length job.sizes) 1 (λ _ _ _. refl) 0 (opened_in job l runs) (opened-sized job l runs),
          last-number,
          did_sum-add (λ _ c. weight keeps_top l c) (λ _ c. weight keeps_right l c) es,
          each-done (weight keeps_top l),
          each-done (weight keeps_right l),
          count_of-wsum keeps_top l ns past,
          count_of-wsum keeps_right l ns past,
          each-done (λ _. 1),
          total-wsum 1 ns,
        )

    -- counts of cuts of some kind, at most all of them
    of-all : (test : Cut → Bool) → count_of test l.cuts ns ≤ total ns
    of-all test =
        let es : List Event = events_of job l ns in
        let w : did_sum (λ _ c. weight test l c) es ≤ did_sum (λ _ _. 1) es = did_sum-le (λ _ c. weight test l c) (λ _ _. 1) (λ _ c. one (test (cut_at l c))) es in
        omega (arith, count_of-wsum test l ns past, each-done (weight test l), each-done (λ _. 1), total-wsum 1 ns)
      where
        one : (t : Bool) → bit t ≤ 1
        one true = omega arith
        one false = omega arith

    few-offcuts : length (offcuts_in l (events_of job l ns)) ≤ max_offcuts
    unfolding boards
    few-offcuts = omega (arith, offcuts-number, of-all keeps_top, of-all keeps_right, of-all (on_size l.sizes), a.few)

    -- six words for each
    pub offcuts-room : (first second : ℕ) → length (offcut_words first second (offcuts_in l (events_of job l ns))) ≤ offcuts_size
    unfolding offcut_words
    offcuts-room first second =
        let os : List Offcut = offcuts_in l (events_of job l ns) in
        let e : length (offcut_words first second os) ≡ words_of_offcut * length os = words-length _ words_of_offcut (λ o. refl) os in
        omega (arith, few-offcuts)

    -- the area balance of an accepted plan
    pub area-balance : AreaBalance job l ns (unfolded job l ns).placements (events_of job l ns)
    area-balance =
        record {
          same-items = same;
          cut-items = items-of-cuts job l runs ∙ ap (map (λ p. p.item)) same;
          cuts-done = cuts-done;
          each-board = each-board;
          left_over = left_over;
          no-board-over = no-board-over;
          offcuts-number = offcuts-number;
          few-offcuts = few-offcuts;
        }
