-- Request Two: a run as a relation between the pieces that wait, of the highest stage first, and what is done with them.
use Prim.Native.Nat.{ℕ, zero, suc, ◌+◌, ◌<◌}
use native.Mathlib.Omega.{arith}
use mathlib.Core.Path.{◌≡◌, refl, sym, ap, subst}
use mathlib.Core.Bool.{cond}
use mathlib.Core.List.{List, [], ◌∷◌, ◌++◌, append-nil, append_assoc}
use mathlib.Core.Option.{Option, none, some}
use lib.Dec.{eqb}
use lib.ListN.{length}
use Rattle.job.specs.Job.{Job}
use Rattle.job.specs.Admitted.{Sided}
use Rattle.listing.specs.declared.plate.Plate.{Plate}
use Rattle.listing.specs.Listing.{Listing, plate_at, cut_at}
use Rattle.listing.specs.Model.{Model}
use Rattle.plan.specs.Plan.{boards_of}
use Rattle.layouts.specs.Layout.{width_of, height_of}
use Rattle.layouts.specs.Placement.{Opened, opened, Turn, turn, Placement}
use Rattle.layouts.specs.Unfold.{Piece, State, spent, highest, Step, placed, left_over, idle, step, next_size, open_board, placing, run, start_of}
use Rattle.layouts.specs.Offcuts.{Event, did, over, chosen, events, placed_in}
use Rattle.layouts.proofs.trees.Cuts.{plate_of}
use Rattle.layouts.proofs.trees.Stages.{cut-stage, top-1, right-1, top-2, right-2, top-3, right-3}
use Rattle.layouts.proofs.machine.Search.{found-cut}
use Rattle.layouts.proofs.machine.NextSize.{next-open}
use Rattle.layouts.proofs.machine.Greedy.{pick}
use Rattle.layouts.proofs.machine.MachineSteps.{state, piece, slot, placement, over-1, over-2, over-3, cut-1, cut-2, cut-3, none-waits}

-- the events' items are the run's placements
pub same-items : (fuel : ℕ) (job : Job) (l : Listing) (st : State) → placed_in (events fuel job l st) ≡ (run fuel job l st).placements
unfolding events run placing placed_in
same-items zero job l st = refl
same-items (suc fuel) job l st = go (step job l st) refl (next_size (length job.sizes) 0 l st.counts) refl (λ s. same-items fuel job l s)
  where
    go : (s : Step) → step job l st ≡ s → (t : Option ℕ) → next_size (length job.sizes) 0 l st.counts ≡ t → ((s : State) → placed_in (events fuel job l s) ≡ (run fuel job l s).placements)
        → placed_in (events (suc fuel) job l st) ≡ (run (suc fuel) job l st).placements
    go (placed p st') e t f rec = rw (e, events, run, placed_in) (ap (λ (qs : List Placement). p ∷ qs) (rec st'))
    go (left_over p st') e t f rec = rw (e, events, run, placed_in) (rec st')
    go idle e (some j) f rec = rw (e, f, events, run) (rec (open_board j st))
    go idle e none f rec = rw (e, f, events, run, placed_in) refl

-- a piece that waits, or none
abbrev pub maybe : Option Piece → List Piece
maybe none = []
maybe (some p) = p ∷ []

-- the pieces that wait, of the highest stage first
abbrev pub queue : Option Piece → Option Piece → Option Piece → List Piece
queue a b c = maybe c ++ (maybe b ++ maybe a)

-- what cut c leaves of a piece at (x, y): top and right, where they are kept
abbrev pub top_at : Job → Listing → ℕ → ℕ → ℕ → List Piece
top_at job l c x y = maybe (slot (cut_at l c).top x (y + height_of job (cut_at l c).item + job.blade))

abbrev pub right_at : Job → Listing → ℕ → ℕ → ℕ → List Piece
right_at job l c x y = maybe (slot (cut_at l c).right (x + width_of job (cut_at l c).item + job.blade) y)

-- that of the higher stage first
abbrev pub kids : Job → Listing → ℕ → ℕ → ℕ → List Piece
kids job l c x y = cond (eqb (plate_of l c).stage 1) (right_at job l c x y ++ top_at job l c x y) (top_at job l c x y ++ right_at job l c x y)

module _ (job : Job) (l : Listing) where
  -- From the pieces that wait, the board and the counts, the events lead to a board, counts and pieces that wait still.
  pub data Runs : List Piece → Opened → List ℕ → List Event → Opened → List ℕ → List Piece → Type 0 where
    stays : {ps : List Piece} {b : Opened} {ns : List ℕ} → Runs ps b ns [] b ns ps
    leaves : {j x y : ℕ} {b b' : Opened} {ps qs : List Piece} {ns ns' : List ℕ} {es : List Event} → pick l j ns ≡ none
        → Runs ps b ns es b' ns' qs → Runs (piece j x y ∷ ps) b ns (over b (piece j x y) ∷ es) b' ns' qs
    cuts : {j x y c s k p : ℕ} {b b' : Opened} {ps qs : List Piece} {ns ns' : List ℕ} {es : List Event} → pick l j ns ≡ some c
        → Runs (kids job l c x y ++ ps) b (spent ns c) es b' ns' qs
        → Runs (piece j x y ∷ ps) b ns (did c (placement (turn b s k p) (cut_at l c).item x y) ∷ es) b' ns' qs
    opens : {j : ℕ} {b b' : Opened} {qs : List Piece} {ns ns' : List ℕ} {es : List Event} → j < length job.sizes → 0 < boards_of l j ns
        → Runs (piece j 0 0 ∷ []) (opened (suc b.number) j) ns es b' ns' qs → Runs [] b ns es b' ns' qs

  from-same : {b b' : Opened} {ps ps' qs : List Piece} {ns ns' : List ℕ} {es : List Event} → ps ≡ ps' → Runs ps' b ns es b' ns' qs → Runs ps b ns es b' ns' qs
  from-same {b} {b'} {ps} {ps'} {qs} {ns} {ns'} {es} e r = subst (λ (z : List Piece). Runs z b ns es b' ns' qs) (sym e) r

  -- what a cut leaves, by its stage
  kids-3 : (c x y : ℕ) (ps : List Piece) → (plate_of l c).stage ≡ 3 → (cut_at l c).right ≡ 0 → kids job l c x y ++ ps ≡ top_at job l c x y ++ ps
  kids-3 c x y ps e f = rw (e, f, append-nil)

  kids-2 : (c x y : ℕ) (ps : List Piece) → (plate_of l c).stage ≡ 2 → kids job l c x y ++ ps ≡ top_at job l c x y ++ (right_at job l c x y ++ ps)
  kids-2 c x y ps e = rw (e, append_assoc)

  kids-1 : (c x y : ℕ) → (plate_of l c).stage ≡ 1 → kids job l c x y ++ [] ≡ right_at job l c x y ++ top_at job l c x y
  kids-1 c x y e = rw (e, append-nil)

  -- the pieces that wait in a state
  abbrev pub waits : State → List Piece
  waits st = queue st.waiting.first st.waiting.second st.waiting.third

-- a piece of stage s, or none
abbrev AtStage : Listing → ℕ → Option Piece → Type 0
AtStage l s none = Unit {0}
AtStage l s (some p) = (plate_at l p.plate).stage ≡ s

slot-stage : (l : Listing) (s j x y : ℕ) → (0 < j → (plate_at l j).stage ≡ s) → AtStage l s (slot j x y)
slot-stage l s zero x y h = tt
slot-stage l s (suc j) x y h = h (omega arith)

module _ (job : Job) (l : Listing) (m : Model job l) (sided : Sided job) where
  -- the events of a run, and the state in which it ends
  abbrev pub Follows : ℕ → State → Type 0
  Follows fuel st =
      Runs job l (waits job l st) st.turn.board st.counts (events fuel job l st) (run fuel job l st).last.turn.board (run fuel job l st).last.counts (waits job l (run fuel job l st).last)

  -- the cut that is done
  module _ (a b : Option Piece) (j x y : ℕ) (t : Turn) (ns : List ℕ) (c : ℕ) (found : pick l j ns ≡ some c) where
    chosen-3 : chosen l (state a b (some (piece j x y)) t ns) ≡ c
    unfolding chosen highest
    chosen-3 = rw (found, chosen)

    chosen-2 : chosen l (state a (some (piece j x y)) none t ns) ≡ c
    unfolding chosen highest
    chosen-2 = rw (found, chosen)

    chosen-1 : chosen l (state (some (piece j x y)) none none t ns) ≡ c
    unfolding chosen highest
    chosen-1 = rw (found, chosen)

  follows : (fuel : ℕ) (a b c : Option Piece) (bd : Opened) (s k p : ℕ) (ns : List ℕ) → AtStage l 1 a → AtStage l 2 b → AtStage l 3 c → Follows fuel (state a b c (turn bd s k p) ns)
  unfolding events run placing open_board
  follows zero a b c bd s k p ns f g h = stays
  follows (suc fuel) a b (some q) bd s k p ns f g h = go (pick l q.plate ns) refl (λ u w bd s k p ms f g h. follows fuel u b w bd s k p ms f g h)
    where
      go : (o : Option ℕ) → pick l q.plate ns ≡ o → ((u w : Option Piece) (bd : Opened) (s k p : ℕ) (ms : List ℕ) → AtStage l 1 u → AtStage l 2 b → AtStage l 3 w → Follows fuel (state u b w (turn bd s k p) ms))
          → Follows (suc fuel) (state a b (some q) (turn bd s k p) ns)
      go none e rec =
          rw (over-3 job l a b q.plate q.x q.y (turn bd s k p) ns e, events, run)
          (leaves e (rec a none bd s k p ns f g tt))
      go (some c) e rec =
          let (i, on) = found-cut l q.plate ns c e in
          let st : (plate_of l c).stage ≡ 3 = cut-stage l c q.plate 3 on h in
          let top = top-3 job l m sided c i st in
          let r0 : (cut_at l c).right ≡ 0 = right-3 job l m sided c i st in
          rw (cut-3 job l a b q.plate q.x q.y bd s k p ns c e top r0, chosen-3 a b q.plate q.x q.y (turn bd s k p) ns c e, events, run)
          (cuts e
          (from-same job l (kids-3 job l c q.x q.y (maybe b ++ maybe a) st r0)
          (rec a (slot (cut_at l c).top q.x (q.y + height_of job (cut_at l c).item + job.blade)) bd s k (suc p) (spent ns c) f g (slot-stage l 3 (cut_at l c).top _ _ top))))
  follows (suc fuel) a (some q) none bd s k p ns f g h = go (pick l q.plate ns) refl (λ u v w bd s k p ms f g h. follows fuel u v w bd s k p ms f g h)
    where
      go : (o : Option ℕ) → pick l q.plate ns ≡ o → ((u v w : Option Piece) (bd : Opened) (s k p : ℕ) (ms : List ℕ) → AtStage l 1 u → AtStage l 2 v → AtStage l 3 w → Follows fuel (state u v w (turn bd s k p) ms))
          → Follows (suc fuel) (state a (some q) none (turn bd s k p) ns)
      go none e rec =
          rw (over-2 job l a none q.plate q.x q.y (turn bd s k p) ns e, events, run)
          (leaves e (rec a none none bd s k p ns f tt tt))
      go (some c) e rec =
          let (i, on) = found-cut l q.plate ns c e in
          let st : (plate_of l c).stage ≡ 2 = cut-stage l c q.plate 2 on g in
          let top = top-2 job l m sided c i st in
          let right = right-2 job l m sided c i st in
          rw (cut-2 job l a none q.plate q.x q.y bd s k p ns c e top right, chosen-2 a none q.plate q.x q.y (turn bd s k p) ns c e, events, run)
          (cuts e
          (from-same job l (kids-2 job l c q.x q.y (maybe a) st)
          (rec a (slot (cut_at l c).right (q.x + width_of job (cut_at l c).item + job.blade) q.y) (slot (cut_at l c).top q.x (q.y + height_of job (cut_at l c).item + job.blade)) bd s (suc k) 1 (spent ns c) f (slot-stage l 2 (cut_at l c).right _ _ right) (slot-stage l 3 (cut_at l c).top _ _ top))))
  follows (suc fuel) (some q) none none bd s k p ns f g h = go (pick l q.plate ns) refl (λ u v w bd s k p ms f g h. follows fuel u v w bd s k p ms f g h)
    where
      go : (o : Option ℕ) → pick l q.plate ns ≡ o → ((u v w : Option Piece) (bd : Opened) (s k p : ℕ) (ms : List ℕ) → AtStage l 1 u → AtStage l 2 v → AtStage l 3 w → Follows fuel (state u v w (turn bd s k p) ms))
          → Follows (suc fuel) (state (some q) none none (turn bd s k p) ns)
      go none e rec =
          rw (over-1 job l none none q.plate q.x q.y (turn bd s k p) ns e, events, run)
          (leaves e (rec none none none bd s k p ns tt tt tt))
      go (some c) e rec =
          let (i, on) = found-cut l q.plate ns c e in
          let st : (plate_of l c).stage ≡ 1 = cut-stage l c q.plate 1 on f in
          let top = top-1 job l m sided c i st in
          let right = right-1 job l m sided c i st in
          rw (cut-1 job l none none q.plate q.x q.y bd s k p ns c e top right, chosen-1 none none q.plate q.x q.y (turn bd s k p) ns c e, events, run)
          (cuts e
          (from-same job l (kids-1 job l c q.x q.y st)
          (rec (slot (cut_at l c).top q.x (q.y + height_of job (cut_at l c).item + job.blade)) (slot (cut_at l c).right (q.x + width_of job (cut_at l c).item + job.blade) q.y) none bd (suc s) 1 1 (spent ns c) (slot-stage l 1 (cut_at l c).top _ _ top) (slot-stage l 2 (cut_at l c).right _ _ right) tt)))
  follows (suc fuel) none none none bd s k p ns f g h =
      go (next_size (length job.sizes) 0 l ns) refl
      (λ j e. follows fuel (some (piece j 0 0)) none none (opened (suc bd.number) j) 0 0 0 ns e tt tt)
    where
      go : (o : Option ℕ) → next_size (length job.sizes) 0 l ns ≡ o
          → ((j : ℕ) → (plate_at l j).stage ≡ 1 → Follows fuel (state (some (piece j 0 0)) none none (turn (opened (suc bd.number) j) 0 0 0) ns))
          → Follows (suc fuel) (state none none none (turn bd s k p) ns)
      go (some j) e rec =
          let (_, below, left) = next-open l (length job.sizes) 0 j ns e in
          let size : j < length job.sizes = omega arith in
          rw (none-waits job l (turn bd s k p) ns, e, events, run) (opens size left (rec j (ap (λ (q : Plate). q.stage) (m.first j size))))
      go none e rec = rw (none-waits job l (turn bd s k p) ns, e, events, run) stays

  -- the run of any counts from its beginning
  pub run-follows : (fuel : ℕ) (ns : List ℕ) → Follows fuel (start_of ns)
  run-follows fuel ns = follows fuel none none none (opened 0 0) 0 0 0 ns tt tt tt
