-- A cut that is done, on plain values: its words are there, its sums stay small, and what the code makes is the step that document 01 names.
use Prim.Native.Nat.{ℕ, zero, suc, ◌+◌, ◌*◌, ◌-◌, ◌≤◌, ◌<◌}
use native.Mathlib.Omega.{arith}
use mathlib.Core.Path.{◌≡◌, ◌∙◌, ap}
use mathlib.Core.Logic.{◌⊎◌, inl, inr}
use mathlib.Core.List.{List}
use lib.ListN.{length, get_or, length-append, length-replicate, get_or-eq_default}
use Rattle.job.specs.declared.item.Position.{Position}
use Rattle.job.specs.Sizes.{max_side, max_blade, words_of_plate, words_of_cut, job_size, RecordIn}
use Rattle.job.specs.Buffers.{filled}
use Rattle.job.specs.Job.{Job, no_size, size_at, type_of, position_at, job_of}
use Rattle.job.specs.Admitted.{Admitted}
use Rattle.job.proofs.Positions.{permitted-type}
use Rattle.job.proofs.Tests.{at-most-or-above}
use Rattle.listing.specs.declared.cut.CutRecord.{CutRecord}
use Rattle.listing.specs.Listing.{Cut, Listing, cut_at, no_cut, listing_of}
use Rattle.listing.specs.Holds.{Holds}
use Rattle.listing.specs.CutRead.{cut_in, cut_read}
use Rattle.listing.proofs.CodeCuts.{held_cut}
use Rattle.listing.proofs.ModelLaws.{numbered_below}
use Rattle.listing.proofs.Plates.{may-cut}
use Rattle.listing.proofs.RecordWords.{plate-words-length, cut-words-length}
use Rattle.plan.specs.Plan.{on_plate, boards_of}
use Rattle.layouts.specs.Placement.{Turn}
use Rattle.layouts.specs.Unfold.{Piece, Waiting, taken, spent, wait, next_turn, placed, done}
use Rattle.layouts.proofs.trees.Cuts.{IsCut, plate_of, cut_fits, top-number, right-number}
use Rattle.unfold_waiting.proofs.CodeSearch.{count-falls, spent-at}
use Rattle.unfold_step.specs.Meaning.{spends}
use Rattle.unfold_step.specs.Ready.{JobLent, Cuttable}
use Rattle.unfold_step.proofs.Inside.{item-across, item-up}

-- a buffer that holds words has room for them
held-room : {buffer ws : List ℕ} → Holds buffer ws → length ws ≤ length buffer
unfolding filled
held-room {buffer} {ws} h =
    let e : length buffer ≡ length ws + (length buffer - length ws) = ap length h.words ∙ simp (length-append, length-replicate) in
    omega arith

-- cut c stands at place c - 1
cut-place : (l : Listing) (c : ℕ) → 1 ≤ c → get_or l.cuts (c - 1) no_cut ≡ cut_at l c
unfolding cut_at
cut-place l zero h = absurd (omega arith)
cut-place l (suc c) h = let e : suc c - 1 ≡ c = omega arith in rw e

-- the sides of a size are at most 10,000; one that the job has not has none
sides-small : (job : Job) → Admitted job → (j : ℕ) → ((size_at job j).width ≤ max_side) × ((size_at job j).height ≤ max_side)
unfolding size_at
sides-small job a j = by (at-most-or-above (length job.sizes) j)
  where
    by : (length job.sizes ≤ j) ⊎ (j < length job.sizes) → ((size_at job j).width ≤ max_side) × ((size_at job j).height ≤ max_side)
    by (inl h) = let e : size_at job j ≡ no_size = get_or-eq_default job.sizes no_size h in rw e (omega arith, omega arith)
    by (inr h) = let s = a.each-size j h in (s.width-limits.1, s.height-limits.1)

module _ (ws plates cuts : List ℕ) (lent : JobLent ws plates cuts) where
  abbrev job : Job
  job = job_of ws

  abbrev l : Listing
  l = listing_of (job_of ws)

  -- the words of all cuts are there
  pub cuts-there : words_of_cut * length l.cuts ≤ length cuts
  cuts-there = omega (arith, held-room lent.cuts-held, cut-words-length l.cuts)

  -- and those of a plate type
  pub plate-there : (j : ℕ) → j < length l.plates → RecordIn words_of_plate j plates
  plate-there j h = omega (arith, held-room lent.plates-held, plate-words-length job l.plates)

  -- there is one
  some-plate : 0 < length l.plates
  some-plate = omega (arith, lent.model.some_size, lent.model.size-plates)

  module _ (ns : List ℕ) (c : ℕ) (p : Piece) (able : Cuttable job l ns c p) where
    is_cut : IsCut l c
    is_cut = (able.from_one, able.to_last)

    -- the words of the cut are there, and they are the cut
    pub cut-there : (1 ≤ c) × (words_of_cut * c ≤ length cuts)
    cut-there = (able.from_one, omega (arith, cuts-there, able.to_last))

    pub cut-is : (r : CutRecord) → cut_in r ≡ cut_read cuts (c - 1) → cut_in r ≡ cut_at l c
    cut-is r e = e ∙ held_cut l.cuts lent.cuts-held (c - 1) ∙ cut-place l c able.from_one

    -- the words of the type of its item, and of the plate types of its residuals, are there
    module _ (r : CutRecord) (e : cut_in r ≡ cut_read cuts (c - 1)) where
      pub item-there : (1 ≤ type_of r.item.0) × (job_size (get_or ws 2 0) (type_of r.item.0) ≤ length ws)
      item-there =
          let f = cut_fits job l lent.model c is_cut in
          let t = permitted-type job (cut_at l c).item (may-cut job.mode (position_at job (cut_at l c).item) (plate_of l c) f.allowed).allowed in
          let i : r.item.0 ≡ (cut_at l c).item = ap (λ (x : Cut). x.item) (cut-is r e) in
          rw i (t.0, omega (arith, t.1, lent.words))

      pub top-there : RecordIn words_of_plate r.top.0 plates
      top-there =
          let i : r.top.0 ≡ (cut_at l c).top = ap (λ (x : Cut). x.top) (cut-is r e) in
          plate-there r.top.0 (rw i (numbered_below job l _ (cut_at l c).top some-plate (top-number job l lent.model c is_cut)))

      pub right_there : RecordIn words_of_plate r.right.0 plates
      right_there =
          let i : r.right.0 ≡ (cut_at l c).right = ap (λ (x : Cut). x.right) (cut-is r e) in
          plate-there r.right.0 (rw i (numbered_below job l _ (cut_at l c).right some-plate (right-number job l lent.model c is_cut)))

      -- the boards left of a size fall by one where the cut is on that size
      pub boards-fall : {ns' : List ℕ} → ns' ≡ spent ns c → (z : ℕ) → boards_of l z ns ≡ spends z r.plate.0 + boards_of l z ns'
      unfolding boards_of on_plate
      boards-fall n z =
          let i : r.plate.0 ≡ (cut_at l c).plate = ap (λ (x : Cut). x.plate) (cut-is r e) in
          rw (n, i, ← cut-place l c able.from_one, spent-at ns c able.from_one) (count-falls (on_plate z) l.cuts ns (c - 1) (omega (arith, able.from_one, able.to_last)) able.left)

      module _ (item : Position) (f : item ≡ position_at job r.item.0) (blade : ℕ) (b : blade ≡ job.blade) where
        item-is : item ≡ position_at job (cut_at l c).item
        item-is = f ∙ ap (λ (x : Cut). position_at job x.item) (cut-is r e)

        -- the item ends inside the board, and the blade past it at most 20 behind its edge
        pub across-small : p.x + item.width + blade ≤ max_side + max_blade
        across-small = omega (arith, rw (← item-is) at (item-across job l lent.model (size_at job able.size) c is_cut p able.on able.in-board), (sides-small job lent.admitted able.size).0, lent.admitted.blade-limits.1)

        pub up_small : p.y + item.height + blade ≤ max_side + max_blade
        up_small = omega (arith, rw (← item-is) at (item-up job l lent.model (size_at job able.size) c is_cut p able.on able.in-board), (sides-small job lent.admitted able.size).1, lent.admitted.blade-limits.1)

        -- what the code makes is the step
        pub done-so :
            {ns' : List ℕ} {here : Turn} {beside both : Waiting} (stage : ℕ) (turn : Turn) (first w : Waiting)
            → ns' ≡ spent ns c
            → here ≡ next_turn stage turn
            → beside ≡ wait l r.right.0 (p.x + item.width + blade) p.y first
            → both ≡ wait l r.top.0 p.x (p.y + item.height + blade) beside
            → placed (record { turn = here; item = r.item.0; x = p.x; y = p.y }) (record { counts = ns'; waiting = both; turn = here })
            ≡ done job l (record { counts = ns; waiting = w; turn = turn }) (taken p stage first) c
        unfolding done
        done-so stage turn first w n t right top = rw (n, t, top, right, b, f, ← cut-is r e)
