-- What is kept of a saw text with one line more: a line refused, lines 1, 10, 2 and 3.
use Prim.Native.Nat.{ℕ, suc, ◌+◌, ◌≤◌}
use native.Mathlib.Numerals.{add-one}
use native.Mathlib.Omega.{arith}
use mathlib.Core.Path.{◌≡◌, refl, sym, ap, ap₂, ◌∙◌}
use mathlib.Core.List.{List, [], ◌∷◌, ◌++◌}
use mathlib.Core.Option.{Option, none}
use lib.ListN.{length, get_or, take, drop, length-append, length-drop, get_or-append}
use lib.Seq.{length-take-le, get_or-take}
use Rattle.job.specs.declared.counters.ItemType.{ItemType}
use Rattle.job.specs.declared.counters.PlateType.{PlateType}
use Rattle.job.specs.Sizes.{max_sizes, max_types, words_of_head, words_before, job_size, word_of_type, cuts_size, counts_size}
use Rattle.job.specs.Job.{job_of}
use Rattle.job.specs.declared.refused.Refusal.{Refusal}
use Rattle.job.specs.Refused.{number_of}
use Rattle.std.specs.Prelude.{Ok, Err}
use Rattle.listing.specs.Listing.{listing_of}
use Rattle.listing.specs.Holds.{Holds}
use Rattle.listing.proofs.CodeHolds.{held_word}
use Rattle.saw_text_body.specs.declared.model.Model.{Model}
use Rattle.saw_text_body.specs.declared.model.Model.TheVariants.{Listed, Refused}
use Rattle.listing.proofs.CodeCuts.{length-cuts_from}
use Rattle.texts.specs.Shape.{job_line, size_line, item_line, plan_line, numbers_row}
use Rattle.texts.specs.JobLines.{first, sizes, types, body, board_sizes, types_of, body_line}
use Rattle.texts.specs.SawText.{Counted, PriceLines, Saw, counted_in, saw_admits, saw_after}
use Rattle.texts.proofs.ShapeLaws.{shape-groups}
use Rattle.texts_reading.specs.declared.text.Place.{Place}
use Rattle.texts_reading.specs.declared.text.Place.TheVariants.{Sizes, Types, Body}
use Rattle.texts_reading.specs.Judged.{line_verdict}
use Rattle.texts_reading.specs.JobRead.{FirstRead, SizeRead, ItemRead}
use Rattle.texts_reading.specs.Standing.{place_of}
use Rattle.texts_reading.proofs.CodeJobLines.{of-shape, passed, refusal-number}
use Rattle.texts_reading.proofs.JobKept.{held-take}
use Rattle.saw_text_body.specs.declared.plan_lines.PlanLines.{PlanLines}
use Rattle.saw_text_body.specs.declared.price_lines.PriceLines.{PriceLines as CodePrices}
use Rattle.saw_text_body.specs.ModelRead.{ModelKept}
use Rattle.saw_text_body.proofs.PlanSteps.{no_lines}
use Rattle.saw_text_body.proofs.ModelLaws.{modelled}
use Rattle.saw_text_body.proofs.BodyRows.{admits-first, admits-size, admits-item, row-plan, after_first, after-some-sizes, after-all-sizes, after-some, after-all, after-plan}
use Rattle.saw_text_lines.specs.declared.held.SawHeld.{SawHeld}
use Rattle.saw_text_lines.specs.SawKept.{Lent, lent, FewSizes, WholeJob, SizesTo, JobTo, NoPlan, Unlisted, PlanHeld, ListedJob, NoPrices, HeldAs, TakenAs}

-- ---- a line that is refused, and one that is admitted

module _ (s : Saw) (lines r : ℕ) (ns : List ℕ) (h : SawHeld) (b : Lent) (row : line_verdict r (suc lines) ≡ numbers_row (suc lines) (saw_admits s) ns) where
  pub taken_refused : (x : Refusal) → r ≡ number_of x → HeldAs s lines h b → TakenAs s lines ns h (Err x) b
  taken_refused x e kept = record { row = rw e at row; to = kept }

  pub taken-admitted :
      (p : Place) (h' : SawHeld)
      → r ≡ 0
      → place_of p ≡ (saw_after s ns).place
      → HeldAs (saw_after s ns) (suc lines) h' b
      → TakenAs s lines ns h (Ok (record { place = p; held = h' })) b
  taken-admitted p h' e next kept = record { row = rw e at row; to = (next, kept) }

-- a refusal has a number
some-number : {r : ℕ} (x : Refusal) → r ≡ number_of x → r ≡ 0 → ⊥
some-number x e z = refusal-number x (sym e ∙ z)

-- ---- what does not change

unlisted-again : (h : SawHeld) (rs : List Counted) (job job' plates cuts counts prices : List ℕ) → Unlisted h rs (lent job plates cuts counts prices) → Unlisted h [] (lent job' plates cuts counts prices)
unlisted-again h rs job job' plates cuts counts prices u =
    record { model = u.model; plates = u.plates; cuts = u.cuts; no-plan = u.no-plan; counts = u.counts; no_lines = refl }

no-prices-again : {o : Option PriceLines} {p : CodePrices} {buffer : List ℕ} → NoPrices o p buffer → NoPrices none p buffer
no-prices-again n = record { none_is = refl; given = n.given; types = n.types; residuals = n.residuals; words = n.words }

-- ---- line 1

module _ (s : Saw) (lines r : ℕ) (ns job job' plates cuts counts prices : List ℕ) (h : SawHeld) (e : s.place ≡ first) (read : FirstRead ns job job' r) (kept : HeldAs s lines h (lent job plates cuts counts prices)) where
  first_to : r ≡ 0 → Holds job' (drop 1 ns) → SizesTo 0 (drop 1 ns)
  first_to z held =
      let o = of-shape 1 job_line ns (passed 1 z (read.row 1)) in
      let u = read.sizes z in
      let t = read.types z in
      let v = held_word (drop 1 ns) held 2 in
      let w = held_word (drop 1 ns) held 3 in
      record {
        head = record { some-type = omega (arith, t, w); few-types = omega (arith, t, w); few-sizes = omega (arith, u, v) };
        to = omega (arith, u, v);
        size = rw length-drop (omega (arith, shape-groups job_line ns o));
      }

  first-row : line_verdict r (suc lines) ≡ numbers_row (suc lines) (saw_admits s) ns
  first-row = rw (admits-first s e) (read.row (suc lines))

  pub first_refused : (x : Refusal) → r ≡ number_of x → TakenAs s lines ns h (Err x) (lent job' plates cuts counts prices)
  first_refused x n =
      taken_refused s lines r ns h (lent job' plates cuts counts prices) first-row x n (rw (read.unchanged (some-number x n)) kept)

  pub first_taken : r ≡ 0 → TakenAs s lines ns h (Ok (record { place = Sizes (record { 0 = 0 }); held = h })) (lent job' plates cuts counts prices)
  first_taken z =
      let of-job = rw e at kept.of-job in
      let empty : Holds job [] = rw of-job.0 at kept.words in
      taken-admitted s lines r ns h (lent job' plates cuts counts prices) first-row (Sizes (record { 0 = 0 })) h z (rw (after_first s ns e))
      (rw (after_first s ns e)
      (record {
        words = read.read z empty;
        of-job = (first_to z (read.read z empty), unlisted-again h s.plan job job' plates cuts counts prices of-job.1);
        of-prices = no-prices-again (rw e at kept.of-prices);
        of-lines = omega (arith, rw e at kept.of-lines);
      }))

-- ---- line 10

module _ (s : Saw) (lines r : ℕ) (j : PlateType) (ns job job' plates cuts counts prices : List ℕ) (h : SawHeld) (e : s.place ≡ sizes j.0) (read : SizeRead j.0 ns job job' r) (kept : HeldAs s lines h (lent job plates cuts counts prices)) where
  sizes-to : SizesTo j.0 s.job
  sizes-to = (rw e at kept.of-job).0

  size-unlisted : Unlisted h s.plan (lent job plates cuts counts prices)
  size-unlisted = (rw e at kept.of-job).1

  size-row : line_verdict r (suc lines) ≡ numbers_row (suc lines) (saw_admits s) ns
  size-row = rw (admits-size s j.0 e) (read.row (suc lines))

  pub size-refused : (x : Refusal) → r ≡ number_of x → TakenAs s lines ns h (Err x) (lent job' plates cuts counts prices)
  size-refused x n =
      taken_refused s lines r ns h (lent job' plates cuts counts prices) size-row x n (rw (read.unchanged (some-number x n)) kept)

  module _ (z : r ≡ 0) where
    size-words : Holds job' (s.job ++ drop 2 ns)
    size-words = read.read z s.job sizes-to.size kept.words

    -- the numbers of sizes and of types stay
    size-stays : (board_sizes (s.job ++ drop 2 ns) ≡ board_sizes s.job) × (types_of (s.job ++ drop 2 ns) ≡ types_of s.job)
    size-stays = (
      get_or-append s.job (drop 2 ns) 0 2 (omega (arith, sizes-to.size)),
      get_or-append s.job (drop 2 ns) 0 3 (omega (arith, sizes-to.size)),
    )

    size_few : FewSizes (s.job ++ drop 2 ns)
    size_few =
        record {
          some-type = omega (arith, size-stays.1, sizes-to.head.some-type);
          few-types = omega (arith, size-stays.1, sizes-to.head.few-types);
          few-sizes = omega (arith, size-stays.0, sizes-to.head.few-sizes);
        }

    size-sized : length (s.job ++ drop 2 ns) ≡ words_before (suc j.0)
    size-sized =
        let o = of-shape 1 (size_line j.0) ns (passed 1 z (read.row 1)) in
        simp (length-append, length-drop) (omega (arith, sizes-to.size, shape-groups (size_line j.0) ns o))

    -- the number of sizes that the code reads
    size-read : (t : ℕ) → t ≡ board_sizes job' → t ≡ board_sizes s.job
    size-read t read-t = read-t ∙ held_word (s.job ++ drop 2 ns) size-words 2 ∙ size-stays.0

    pub size-some :
        (t : ℕ)
        → t ≡ board_sizes job'
        → (t ≡ j.0 + 1 → ⊥)
        → TakenAs s lines ns h (Ok (record { place = Sizes (record { 0 = j.0 + 1 }); held = h })) (lent job' plates cuts counts prices)
    size-some t read-t other =
        let more : suc j.0 ≡ board_sizes s.job → ⊥ = λ q. other (size-read t read-t ∙ sym q ∙ sym (add-one j.0)) in
        taken-admitted s lines r ns h (lent job' plates cuts counts prices) size-row (Sizes (record { 0 = j.0 + 1 })) h z (rw (after-some-sizes s ns j.0 e more, add-one))
        (rw (after-some-sizes s ns j.0 e more)
        (record {
          words = size-words;
          of-job = (
            record { head = size_few; to = omega (arith, size-stays.0, sizes-to.to, more); size = size-sized },
            unlisted-again h s.plan job job' plates cuts counts prices size-unlisted,
          );
          of-prices = no-prices-again (rw e at kept.of-prices);
          of-lines = ap suc (rw e at kept.of-lines);
        }))

    pub size-all :
        (t : ℕ)
        → t ≡ board_sizes job'
        → t ≡ j.0 + 1
        → TakenAs s lines ns h (Ok (record { place = Types (record { 0 = 1 }); held = h })) (lent job' plates cuts counts prices)
    size-all t read-t same =
        let all : suc j.0 ≡ board_sizes s.job = sym (add-one j.0) ∙ sym same ∙ size-read t read-t in
        taken-admitted s lines r ns h (lent job' plates cuts counts prices) size-row (Types (record { 0 = 1 })) h z (rw (after-all-sizes s ns j.0 e all))
        (rw (after-all-sizes s ns j.0 e all)
        (record {
          words = size-words;
          of-job = (
            record { head = size_few; from = omega arith; to = size_few.some-type; size = omega (arith, size-sized, size-stays.0, all) },
            unlisted-again h s.plan job job' plates cuts counts prices size-unlisted,
          );
          of-prices = no-prices-again (rw e at kept.of-prices);
          of-lines = omega (arith, size-stays.0, all, rw e at kept.of-lines);
        }))

-- ---- line 2

-- no line 3 yet, by the model
plan-none :
    (ws plates cuts counts : List ℕ) (a : Model) (p : PlanLines)
    → cuts_size ≤ length cuts
    → counts_size ≤ length counts
    → ModelKept ws a plates cuts
    → NoPlan p
    → Holds counts []
    → PlanHeld ws a [] p counts
plan-none ws plates cuts counts (Listed m k) p c n kept without held =
    let ready = (modelled ws plates cuts m.0 k.0 c kept.sizes-listed kept.says kept.cuts_are).is-ready in
    let size : length (listing_of (job_of ws)).cuts ≡ k.0 = ap length ready.listed ∙ length-cuts_from k.0 0 cuts in
    no_lines (listing_of (job_of ws)) (body_line ws) p (omega (arith, size, ready.lent.few-cuts)) without.unnamed without.misshown without.fallen without.last held
plan-none ws plates cuts counts (Refused number place) p c n kept without held = (without, held)

module _ (s : Saw) (lines r : ℕ) (i : ItemType) (ns job job' plates cuts counts prices : List ℕ) (h : SawHeld) (e : s.place ≡ types i.0) (read : ItemRead i.0 ns job job' r) (kept : HeldAs s lines h (lent job plates cuts counts prices)) where
  to : JobTo i.0 s.job
  to = (rw e at kept.of-job).0

  unlisted : Unlisted h s.plan (lent job plates cuts counts prices)
  unlisted = (rw e at kept.of-job).1

  row : line_verdict r (suc lines) ≡ numbers_row (suc lines) (saw_admits s) ns
  row = rw (admits-item s i.0 e) (read.row (suc lines))

  pub item_refused : (x : Refusal) → r ≡ number_of x → TakenAs s lines ns h (Err x) (lent job' plates cuts counts prices)
  item_refused x n =
      taken_refused s lines r ns h (lent job' plates cuts counts prices) row x n (rw (read.unchanged (some-number x n)) kept)

  module _ (z : r ≡ 0) where
    words : Holds job' (s.job ++ drop 2 ns)
    words = read.read z s.job (to.size ∙ ap (λ (t : ℕ). word_of_type t i.0) (sym (held_word s.job kept.words 2))) kept.words

    -- the numbers of sizes and of types stay
    sizes-stay : board_sizes (s.job ++ drop 2 ns) ≡ board_sizes s.job
    sizes-stay = get_or-append s.job (drop 2 ns) 0 2 (omega (arith, to.size, to.from))

    types-stay : types_of (s.job ++ drop 2 ns) ≡ types_of s.job
    types-stay = get_or-append s.job (drop 2 ns) 0 3 (omega (arith, to.size, to.from))

    -- those that the code reads
    sizes-read : board_sizes job ≡ board_sizes s.job
    sizes-read = held_word s.job kept.words 2

    types-read : types_of job ≡ types_of s.job
    types-read = held_word s.job kept.words 3

    few : FewSizes (s.job ++ drop 2 ns)
    few =
        record {
          some-type = omega (arith, types-stay, to.head.some-type);
          few-types = omega (arith, types-stay, to.head.few-types);
          few-sizes = omega (arith, sizes-stay, to.head.few-sizes);
        }

    sized : length (s.job ++ drop 2 ns) ≡ job_size (board_sizes s.job) i.0
    sized =
        let o = of-shape 1 (item_line i.0) ns (passed 1 z (read.row 1)) in
        simp (length-append, length-drop) (omega (arith, to.from, to.size, shape-groups (item_line i.0) ns o))

    pub item-some :
        (n : ℕ)
        → n ≡ types_of job
        → (i.0 ≡ n → ⊥)
        → TakenAs s lines ns h (Ok (record { place = Types (record { 0 = i.0 + 1 }); held = h })) (lent job' plates cuts counts prices)
    item-some n read-n other =
        let more : i.0 ≡ types_of s.job → ⊥ = λ q. other (q ∙ sym (read-n ∙ types-read)) in
        taken-admitted s lines r ns h (lent job' plates cuts counts prices) row (Types (record { 0 = i.0 + 1 })) h z (rw (after-some s ns i.0 e more, add-one))
        (rw (after-some s ns i.0 e more)
        (record {
          words = words;
          of-job = (
            record {
              head = few;
              from = omega arith;
              to = omega (arith, types-stay, to.to, more);
              size = omega (arith, sized, sizes-stay);
            },
            unlisted-again h s.plan job job' plates cuts counts prices unlisted,
          );
          of-prices = no-prices-again (rw e at kept.of-prices);
          of-lines = omega (arith, sizes-stay, rw e at kept.of-lines);
        }))

    pub item-all :
        (a : Model) (plates' cuts' : List ℕ) (t n : ℕ)
        → t ≡ board_sizes job
        → n ≡ types_of job
        → i.0 ≡ n
        → cuts_size ≤ length cuts'
        → counts_size ≤ length counts
        → ((ws : List ℕ) → length ws ≡ job_size t n → Holds job' ws → ModelKept ws a plates' cuts')
        → TakenAs s lines ns h (Ok (record { place = Body; held = record { model = a; plan = h.plan; prices = h.prices } })) (lent job' plates' cuts' counts prices)
    item-all a plates' cuts' t n read-t read-n same c k model =
        let all : i.0 ≡ types_of s.job = same ∙ read-n ∙ types-read in
        let ws : List ℕ = s.job ++ drop 2 ns in
        let kept-model : ModelKept ws a plates' cuts' = model ws (omega (arith, sized, same, read-t, sizes-read)) words in
        let h' : SawHeld = record { model = a; plan = h.plan; prices = h.prices } in
        taken-admitted s lines r ns h (lent job' plates' cuts' counts prices) row Body h' z (rw (after-all s ns i.0 e all))
        (rw (after-all s ns i.0 e all)
        (record {
          words = words;
          of-job = record {
            whole = record { head = few; size = omega (arith, sized, sizes-stay, types-stay, all) };
            model = kept-model;
            plan = plan-none ws plates' cuts' counts a h.plan c k kept-model unlisted.no-plan unlisted.counts;
          };
          of-prices = no-prices-again (rw e at kept.of-prices);
          of-lines = omega (arith, sizes-stay, types-stay, all, rw e at kept.of-lines);
        }))

-- ---- the job's words in the body

module _ (s : Saw) (lines : ℕ) (h : SawHeld) (b : Lent) (t n : ℕ) (sizes-are : t ≡ board_sizes b.job) (types_are : n ≡ types_of b.job) (e : s.place ≡ body) (kept : HeldAs s lines h b) where
  whole : WholeJob s.job
  whole = (rw e at kept.of-job).whole

  sizes-kept : t ≡ board_sizes s.job
  sizes-kept = sizes-are ∙ held_word s.job kept.words 2

  types-kept : n ≡ types_of s.job
  types-kept = types_are ∙ held_word s.job kept.words 3

  pub body-few : (t ≤ max_sizes) × (n ≤ max_types)
  body-few = omega (arith, sizes-kept, types-kept, whole.head.few-sizes, whole.head.few-types)

  -- they are the first of the buffer
  pub body-words : take (job_size t n) b.job ≡ s.job
  body-words = held-take (job_size t n) (whole.size ∙ ap₂ job_size (sym sizes-kept) (sym types-kept)) kept.words

-- the first words of a buffer have its head
pub part-head : (t n : ℕ) (job : List ℕ) → job_size t n ≤ length job → (words_of_head ≤ length (take (job_size t n) job)) × (types_of (take (job_size t n) job) ≡ types_of job)
part-head t n job h = (rw (length-take-le (job_size t n) job h) (omega arith), get_or-take (job_size t n) job 3 0 (omega arith))

-- ---- a line 3

module _ (s : Saw) (lines r : ℕ) (ws ns job plates cuts counts prices : List ℕ) (h : SawHeld) (e : s.place ≡ body) (not4 : get_or ns 0 0 ≡ 4 → ⊥) (words_are : ws ≡ s.job) (judged : (line : ℕ) → line_verdict r line ≡ numbers_row line (plan_line ws ∷ []) ns) (kept : HeldAs s lines h (lent job plates cuts counts prices)) where
  plan-row : line_verdict r (suc lines) ≡ numbers_row (suc lines) (saw_admits s) ns
  plan-row = rw (row-plan s (suc lines) ns e not4, ← words_are) (judged (suc lines))

  pub plan-refused : (x : Refusal) → r ≡ number_of x → TakenAs s lines ns h (Err x) (lent job plates cuts counts prices)
  plan-refused x n = taken_refused s lines r ns h (lent job plates cuts counts prices) plan-row x n kept

  pub plan-taken :
      (p : PlanLines) (counts' : List ℕ)
      → r ≡ 0
      → get_or ns 0 0 ≡ 3
      → ((ws : List ℕ) (rs : List Counted) → ModelKept ws h.model plates cuts → body_line ws + length rs ≡ suc lines → PlanHeld ws h.model rs h.plan counts → PlanHeld ws h.model (rs ++ counted_in ns ∷ []) p counts')
      → TakenAs s lines ns h (Ok (record { place = Body; held = record { model = h.model; plan = p; prices = h.prices } })) (lent job plates cuts counts' prices)
  plan-taken p counts' z kind more =
      let h' : SawHeld = record { model = h.model; plan = p; prices = h.prices } in
      let listed : ListedJob h s.job s.plan (lent job plates cuts counts prices) = rw e at kept.of-job in
      let here : body_line s.job + length s.plan ≡ suc lines = rw e at kept.of-lines in
      let after = after-plan s ns e kind in
      taken-admitted s lines r ns h (lent job plates cuts counts' prices) plan-row Body h' z (rw after)
      (rw after
      (record {
        words = kept.words;
        of-job = record { whole = listed.whole; model = listed.model; plan = more s.job s.plan listed.model here listed.plan };
        of-prices = no-prices-again (rw e at kept.of-prices);
        of-lines = rw length-append (omega (arith, here));
      }))
