-- Request Seven, "Only the plate's own cuts": a cut is on a plate type exactly where its count is in the type's part, and what is found there is what is
-- found by reading all.
use Prim.Native.Nat.{ℕ, zero, suc, ◌+◌, ◌-◌, ◌≤◌, ◌<◌}
use native.Mathlib.Omega.{arith}
use mathlib.Core.Path.{◌≡◌, refl, ap, ◌∙◌}
use mathlib.Core.Logic.{◌⊎◌, inl, inr}
use mathlib.Core.Bool.{Bool, true, false}
use mathlib.Core.List.{List, [], ◌∷◌}
use mathlib.Core.Option.{Option, none, some}
use lib.Dec.{ltb}
use lib.ListN.{length, get_or, take, drop}
use lib.Seq.{take-nil, drop-nil}
use borrow.Author.Tests.{lt-ltb, le-ltb, eq-eqb, ne_eqb}
use Rattle.job.specs.Job.{Job}
use Rattle.job.specs.Lists.{sum_of}
use Rattle.job.proofs.Tests.{at-most-or-above}
use Rattle.listing.specs.Listing.{Cut, Listing, cut_at, no_cut}
use Rattle.listing.specs.Model.{Model}
use Rattle.listing.proofs.ModelLaws.{plates-rise, in_a_row}
use Rattle.plan.specs.Plan.{count_of, on_plate, boards_of, total}
use Rattle.layouts.specs.Unfold.{State, search, Taken, highest, Step, placed, left_over, idle, step, next_size, open_board, placing, run}
use Rattle.layouts.specs.Offcuts.{Event, did, over, chosen, events}
use Rattle.layouts.specs.OwnCuts.{begin_of, own_part, first_left, part_search, part_step, part_size, part_run, part_chosen, part_events, OwnPart, OwnCuts}

-- plate types of cuts do not fall
abbrev Rises : List Cut → Type 0
Rises cs = (c d : ℕ) → c ≤ d → d < length cs → (get_or cs c no_cut).plate ≤ (get_or cs d no_cut).plate

-- the part of plate type j of some cuts
abbrev part : ℕ → List Cut → List ℕ → List ℕ
part j cs ns = take (begin_of cs (suc j) - begin_of cs j) (drop (begin_of cs j) ns)

module _ (c : Cut) (cs : List Cut) (j : ℕ) where
  pub begin-past : c.plate < j → begin_of (c ∷ cs) j ≡ suc (begin_of cs j)
  unfolding begin_of
  begin-past h = rw (lt-ltb c.plate j h) (omega arith)

  begin-here : j ≤ c.plate → begin_of (c ∷ cs) j ≡ begin_of cs j
  unfolding begin_of
  begin-here h = rw (le-ltb c.plate j h) (omega arith)

  begin-more : begin_of cs j ≤ begin_of (c ∷ cs) j
  unfolding begin_of
  begin-more = omega arith

-- no cut of a plate type below j comes before it
pub begin-none : (cs : List Cut) (j : ℕ) → ((c : ℕ) → c < length cs → j ≤ (get_or cs c no_cut).plate) → begin_of cs j ≡ 0
unfolding begin_of
begin-none [] j h = refl
begin-none (c ∷ cs) j h = begin-here c cs j (h 0 (omega arith)) ∙ begin-none cs j (λ d p. h (suc d) (omega arith))

-- the cuts begin within the listing, and those of the next type no earlier
pub begin-few : (cs : List Cut) (j : ℕ) → begin_of cs j ≤ length cs
unfolding begin_of
begin-few [] j = omega arith
begin-few (c ∷ cs) j = by (at-most-or-above j c.plate) (begin-few cs j)
  where
    by : (j ≤ c.plate) ⊎ (c.plate < j) → begin_of cs j ≤ length cs → begin_of (c ∷ cs) j ≤ length (c ∷ cs)
    by (inl h) r = omega (arith, begin-here c cs j h)
    by (inr h) r = omega (arith, begin-past c cs j h)

pub begin-rises : (cs : List Cut) (j : ℕ) → begin_of cs j ≤ begin_of cs (suc j)
unfolding begin_of
begin-rises [] j = omega arith
begin-rises (c ∷ cs) j = by (at-most-or-above j c.plate) (begin-rises cs j)
  where
    by : (j ≤ c.plate) ⊎ (c.plate < j) → begin_of cs j ≤ begin_of cs (suc j) → begin_of (c ∷ cs) j ≤ begin_of (c ∷ cs) (suc j)
    by (inl h) r = omega (arith, begin-here c cs j h, begin-more c cs (suc j))
    by (inr h) r = omega (arith, begin-past c cs j h, begin-past c cs (suc j) (omega arith))

-- the others of cuts that rise
rises-on : (c : Cut) (cs : List Cut) → Rises (c ∷ cs) → Rises cs
rises-on c cs r a b p q = r (suc a) (suc b) (omega arith) (omega arith)

-- where the first of them is on a plate type from j on, all are
none_below : (c : Cut) (cs : List Cut) (j : ℕ) → Rises (c ∷ cs) → j ≤ c.plate → begin_of cs j ≡ 0
none_below c cs j r h = begin-none cs j (λ d p. omega (arith, r 0 (suc d) (omega arith) (omega arith)))

-- a cut on a plate type below j comes before j begins, and no other does
pub before-begin : (cs : List Cut) → Rises cs → (j c : ℕ) → c < length cs → (get_or cs c no_cut).plate < j → c < begin_of cs j
before-begin [] r j c p h = absurd (omega arith)
before-begin (a ∷ cs) r j zero p h = omega (arith, begin-past a cs j h)
before-begin (a ∷ cs) r j (suc c) p h =
    omega (arith, begin-past a cs j (omega (arith, r 0 (suc c) (omega arith) p)), before-begin cs (rises-on a cs r) j c (omega arith) h)

pub from-begin : (cs : List Cut) → Rises cs → (j c : ℕ) → c < length cs → j ≤ (get_or cs c no_cut).plate → begin_of cs j ≤ c
from-begin [] r j c p h = absurd (omega arith)
from-begin (a ∷ cs) r j zero p h = omega (arith, begin-here a cs j h, none_below a cs j r h)
from-begin (a ∷ cs) r j (suc c) p h = by (at-most-or-above j a.plate) (from-begin cs (rises-on a cs r) j c (omega arith) h)
  where
    by : (j ≤ a.plate) ⊎ (a.plate < j) → begin_of cs j ≤ c → begin_of (a ∷ cs) j ≤ suc c
    by (inl g) i = omega (arith, begin-here a cs j g)
    by (inr g) i = omega (arith, begin-past a cs j g)

-- what is found in the part, and the counts of the part
module _ (j : ℕ) where
  -- where all cuts are past plate type j its part is empty
  part_none : (cs : List Cut) (ns : List ℕ) → begin_of cs (suc j) ≡ 0 → part j cs ns ≡ []
  part_none cs ns e =
      let z : begin_of cs (suc j) - begin_of cs j ≡ 0 = omega arith in
      rw z

  part-empty : (cs : List Cut) → part j cs [] ≡ []
  part-empty cs = rw (drop-nil, take-nil)

  -- the first cut is on a plate type below
  part-past : (c : Cut) (cs : List Cut) (n : ℕ) (ns : List ℕ) → c.plate < j → part j (c ∷ cs) (n ∷ ns) ≡ part j cs ns
  part-past c cs n ns h =
      let e : begin_of (c ∷ cs) (suc j) - suc (begin_of cs j) ≡ begin_of cs (suc j) - begin_of cs j = omega (arith, begin-past c cs (suc j) (omega arith)) in
      rw (begin-past c cs j h, e)

  -- the first cut is on it
  part-own : (c : Cut) (cs : List Cut) (n : ℕ) (ns : List ℕ) → Rises (c ∷ cs) → c.plate ≡ j → part j (c ∷ cs) (n ∷ ns) ≡ n ∷ part j cs ns
  part-own c cs n ns r h =
      let z : begin_of cs j ≡ 0 = none_below c cs j r (omega arith) in
      let e : begin_of (c ∷ cs) (suc j) - 0 ≡ suc (begin_of cs (suc j) - 0) = omega (arith, begin-past c cs (suc j) (omega arith)) in
      rw (begin-here c cs j (omega arith), z, e)

  -- a cut on another plate type is passed by the search and by the sum
  search-other : (k : ℕ) (c : Cut) (cs : List Cut) (n : ℕ) (ns : List ℕ) → (c.plate ≡ j → ⊥) → search j k (c ∷ cs) (n ∷ ns) ≡ search j (suc k) cs ns
  unfolding search on_plate
  search-other k c cs n ns h = rw (ne_eqb c.plate j h, search)

  count-other : (c : Cut) (cs : List Cut) (n : ℕ) (ns : List ℕ) → (c.plate ≡ j → ⊥) → count_of (on_plate j) (c ∷ cs) (n ∷ ns) ≡ count_of (on_plate j) cs ns
  unfolding count_of on_plate
  count-other c cs n ns h = rw (ne_eqb c.plate j h) (omega arith)

  -- one on it is found where its count is left, and is added
  search-own : (k : ℕ) (c : Cut) (cs : List Cut) (n : ℕ) (ns ms : List ℕ) → c.plate ≡ j → first_left (suc k) ms ≡ search j (suc k) cs ns → first_left k (n ∷ ms) ≡ search j k (c ∷ cs) (n ∷ ns)
  unfolding search on_plate first_left
  search-own k c cs n ns ms h e = go (ltb 0 n) refl
    where
      go : (t : Bool) → ltb 0 n ≡ t → first_left k (n ∷ ms) ≡ search j k (c ∷ cs) (n ∷ ns)
      go true t = rw (eq-eqb c.plate j h, t, search, first_left)
      go false t = rw (eq-eqb c.plate j h, t, search, first_left) e

  count-own : (c : Cut) (cs : List Cut) (n : ℕ) (ns ms : List ℕ) → c.plate ≡ j → total ms ≡ count_of (on_plate j) cs ns → total (n ∷ ms) ≡ count_of (on_plate j) (c ∷ cs) (n ∷ ns)
  unfolding count_of on_plate total sum_of
  count-own c cs n ns ms h e = rw (eq-eqb c.plate j h) (omega arith)

  -- of some cuts that rise, numbered from k
  record Same (k : ℕ) (cs : List Cut) (ns : List ℕ) : Type 0 where
    found : first_left (k + begin_of cs j) (part j cs ns) ≡ search j k cs ns
    added : total (part j cs ns) ≡ count_of (on_plate j) cs ns

  same : (cs : List Cut) → Rises cs → (k : ℕ) (ns : List ℕ) → Same k cs ns
  unfolding search count_of first_left total sum_of begin_of
  same [] r k ns = record { found = refl; added = refl }
  same (c ∷ cs) r k [] =
      record { found = rw (part-empty (c ∷ cs), first_left); added = rw (part-empty (c ∷ cs), total) }
  same (c ∷ cs) r k (n ∷ ns) = by (at-most-or-above j c.plate) (at-most-or-above c.plate j) (same cs (rises-on c cs r) (suc k) ns)
    where
      by : (j ≤ c.plate) ⊎ (c.plate < j) → (c.plate ≤ j) ⊎ (j < c.plate) → Same (suc k) cs ns → Same k (c ∷ cs) (n ∷ ns)
      by (inr h) o s =
          let e : k + suc (begin_of cs j) ≡ suc k + begin_of cs j = omega arith in
          record {
            found = rw (part-past c cs n ns h, begin-past c cs j h, e, search-other k c cs n ns (λ q. omega arith)) s.found;
            added = rw (part-past c cs n ns h, count-other c cs n ns (λ q. omega arith)) s.added;
          }
      by (inl h) (inl g) s =
          let on : c.plate ≡ j = omega arith in
          let z : begin_of cs j ≡ 0 = none_below c cs j r h in
          let e : suc k + begin_of cs j ≡ suc k = omega arith in
          let f : k + begin_of (c ∷ cs) j ≡ k = omega (arith, begin-here c cs j h) in
          record {
            found = rw (part-own c cs n ns r on, f) (search-own k c cs n ns (part j cs ns) on (rw e at s.found));
            added = rw (part-own c cs n ns r on) (count-own c cs n ns (part j cs ns) on s.added);
          }
      by (inl h) (inr g) s =
          let z : begin_of cs (suc j) ≡ 0 = none_below c cs (suc j) r (omega arith) in
          let y : begin_of (c ∷ cs) (suc j) ≡ 0 = begin-here c cs (suc j) (omega arith) ∙ z in
          let e : part j (c ∷ cs) (n ∷ ns) ≡ [] = part_none (c ∷ cs) (n ∷ ns) y in
          let f : part j cs ns ≡ [] = part_none cs ns z in
          record {
            found = rw (e, search-other k c cs n ns (λ q. omega arith)) (rw (f, first_left) at s.found);
            added = rw (e, count-other c cs n ns (λ q. omega arith)) (rw f at s.added);
          }

-- request Seven, of every plate type of a model
pub own-part : (job : Job) (l : Listing) → Model job l → (j : ℕ) → OwnPart l j
unfolding cut_at own_part part_search boards_of
own-part job l m j =
    record {
      in_a_row = in_a_row job l m j;
      every = λ c p h. (from-begin l.cuts rises j c p (omega arith), before-begin l.cuts rises (suc j) c p (omega arith));
      no_other = no_other;
      same-cut = λ ns. let e : suc (begin_of l.cuts j) ≡ 1 + begin_of l.cuts j = omega arith in rw e (same j l.cuts rises 1 ns).found;
      same-boards = λ ns. (same j l.cuts rises 1 ns).added;
    }
  where
    rises : Rises l.cuts
    rises = plates-rise job l m

    no_other : (c : ℕ) → begin_of l.cuts j ≤ c → c < begin_of l.cuts (suc j) → (c < length l.cuts) × ((cut_at l (suc c)).plate ≡ j)
    no_other c p q = (listed, on (at-most-or-above j (get_or l.cuts c no_cut).plate) (at-most-or-above (suc j) (get_or l.cuts c no_cut).plate))
      where
        listed : c < length l.cuts
        listed = omega (arith, begin-few l.cuts (suc j))

        on : (j ≤ (get_or l.cuts c no_cut).plate) ⊎ ((get_or l.cuts c no_cut).plate < j) → (suc j ≤ (get_or l.cuts c no_cut).plate) ⊎ ((get_or l.cuts c no_cut).plate < suc j) → (get_or l.cuts c no_cut).plate ≡ j
        on (inr h) g = absurd (omega (arith, before-begin l.cuts rises j c listed h))
        on (inl h) (inl g) = absurd (omega (arith, from-begin l.cuts rises (suc j) c listed g))
        on (inl h) (inr g) = omega arith

-- the unfolding by parts, piece by piece
module _ (job : Job) (l : Listing) (own : (j : ℕ) → OwnPart l j) where
  step_same : (st : State) → part_step job l st ≡ step job l st
  unfolding part_step step
  step_same st = by (highest st.waiting) refl
    where
      by : (o : Option Taken) → highest st.waiting ≡ o → part_step job l st ≡ step job l st
      by none e = rw (e, part_step, step)
      by (some t) e = rw (e, part_step, step, (own t.piece.plate).same-cut st.counts)

  chosen-same : (st : State) → part_chosen l st ≡ chosen l st
  unfolding part_chosen chosen
  chosen-same st = by (highest st.waiting) refl
    where
      by : (o : Option Taken) → highest st.waiting ≡ o → part_chosen l st ≡ chosen l st
      by none e = rw (e, part_chosen, chosen)
      by (some t) e = rw (e, part_chosen, chosen, (own t.piece.plate).same-cut st.counts)

  size_same : (n j : ℕ) (ns : List ℕ) → part_size n j l ns ≡ next_size n j l ns
  unfolding part_size next_size
  size_same zero j ns = refl
  size_same (suc n) j ns = by (ltb 0 (boards_of l j ns)) refl (size_same n (suc j) ns)
    where
      by : (t : Bool) → ltb 0 (boards_of l j ns) ≡ t → part_size n (suc j) l ns ≡ next_size n (suc j) l ns → part_size (suc n) j l ns ≡ next_size (suc n) j l ns
      by true e r = rw ((own j).same-boards ns, e, part_size, next_size)
      by false e r = rw ((own j).same-boards ns, e, part_size, next_size) r

  run-same : (fuel : ℕ) (st : State) → part_run fuel job l st ≡ run fuel job l st
  unfolding part_run run
  run-same zero st = refl
  run-same (suc fuel) st = by (step job l st) refl (run-same fuel)
    where
      by : (s : Step) → step job l st ≡ s → ((st' : State) → part_run fuel job l st' ≡ run fuel job l st') → part_run (suc fuel) job l st ≡ run (suc fuel) job l st
      by (placed p st') e r = rw (step_same st, e, part_run, run) (ap (placing p) (r st'))
      by (left_over p st') e r = rw (step_same st, e, part_run, run) (r st')
      by idle e r = opened (next_size (length job.sizes) 0 l st.counts) refl
        where
          opened : (o : Option ℕ) → next_size (length job.sizes) 0 l st.counts ≡ o → part_run (suc fuel) job l st ≡ run (suc fuel) job l st
          opened (some j) f = rw (step_same st, e, size_same (length job.sizes) 0 st.counts, f, part_run, run) (r (open_board j st))
          opened none f = rw (step_same st, e, size_same (length job.sizes) 0 st.counts, f, part_run, run)

  events-same : (fuel : ℕ) (st : State) → part_events fuel job l st ≡ events fuel job l st
  unfolding part_events events
  events-same zero st = refl
  events-same (suc fuel) st = by (step job l st) refl (events-same fuel)
    where
      by : (s : Step) → step job l st ≡ s → ((st' : State) → part_events fuel job l st' ≡ events fuel job l st') → part_events (suc fuel) job l st ≡ events (suc fuel) job l st
      by (placed p st') e r = rw (step_same st, e, chosen-same st, part_events, events) (ap (λ (es : List Event). did (chosen l st) p ∷ es) (r st'))
      by (left_over p st') e r = rw (step_same st, e, part_events, events) (ap (λ (es : List Event). over st.turn.board p ∷ es) (r st'))
      by idle e r = opened (next_size (length job.sizes) 0 l st.counts) refl
        where
          opened : (o : Option ℕ) → next_size (length job.sizes) 0 l st.counts ≡ o → part_events (suc fuel) job l st ≡ events (suc fuel) job l st
          opened (some j) f = rw (step_same st, e, size_same (length job.sizes) 0 st.counts, f, part_events, events) (r (open_board j st))
          opened none f = rw (step_same st, e, size_same (length job.sizes) 0 st.counts, f, part_events, events)

-- request Seven, whole
pub own-cuts : (job : Job) (l : Listing) → Model job l → OwnCuts job l
own-cuts job l m = let own = own-part job l m in record { parts = own; same-run = run-same job l own; same-events = events-same job l own }
