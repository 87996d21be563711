-- A run of cuts with one item more.
use Prim.Native.Nat.{ℕ, suc, ◌+◌, ◌≤◌}
use native.Mathlib.Omega.{arith}
use mathlib.Core.Path.{◌≡◌, refl, sym, ap, ◌∙◌}
use mathlib.Core.Bool.{Bool, true, false}
use mathlib.Core.List.{List, [], ◌∷◌, ◌++◌, append_assoc}
use lib.ListN.{length, length-append}
use Rattle.std.specs.Prelude.{Option, None, Some, is_some}
use Rattle.std.specs.Option.{option_or}
use Rattle.job.specs.declared.counters.PlateType.{PlateType}
use Rattle.job.specs.Lists.{tally, non_empty}
use Rattle.listing.specs.Listing.{Listing, cut_at}
use Rattle.listing.specs.Holds.{Holds}
use Rattle.layouts.specs.Fold.{cut_of}
use Rattle.fold_counts.specs.declared.count.Left.{Left}
use Rattle.fold_counts.specs.declared.chain.Chain.{Chain}
use Rattle.fold_counts.specs.Lent.{Counting}
use Rattle.fold_counts.specs.Chain.{own, other, LeftBy, rest_of, chain_cuts, chain_plate, chain_rest, Chained, ChainGoing}

module _ (l : Listing) (three : Bool) where
  cuts-snoc : (j : ℕ) (xs : List ℕ) (i : ℕ) → chain_cuts l three j (xs ++ i ∷ []) ≡ chain_cuts l three j xs ++ cut_of l (chain_plate l three j xs) i ∷ []
  unfolding chain_cuts chain_plate
  cuts-snoc j [] i = refl
  cuts-snoc j (x ∷ xs) i = ap (λ (ks : List ℕ). cut_of l j x ∷ ks) (cuts-snoc (own three (cut_at l (cut_of l j x))) xs i)

  plate-snoc : (j : ℕ) (xs : List ℕ) (i : ℕ) → chain_plate l three j (xs ++ i ∷ []) ≡ own three (cut_at l (cut_of l (chain_plate l three j xs) i))
  unfolding chain_plate
  plate-snoc j [] i = refl
  plate-snoc j (x ∷ xs) i = plate-snoc (own three (cut_at l (cut_of l j x))) xs i

  rest-first : (j : ℕ) (xs : List ℕ) (i : ℕ) → false ≡ non_empty xs → chain_rest l three j (xs ++ i ∷ []) ≡ other three (cut_at l (cut_of l (chain_plate l three j xs) i))
  unfolding chain_rest chain_plate
  rest-first j [] i e = refl
  rest-first j (x ∷ xs) i e = absurd (mathlib.Core.Bool.false≢true e)

  rest-further : (j : ℕ) (xs : List ℕ) (i : ℕ) → true ≡ non_empty xs → chain_rest l three j (xs ++ i ∷ []) ≡ chain_rest l three j xs
  unfolding chain_rest
  rest-further j [] i e = absurd (mathlib.Core.Bool.false≢true (sym e))
  rest-further j (x ∷ xs) i e = refl

  some-snoc : (xs : List ℕ) (i : ℕ) → true ≡ non_empty (xs ++ i ∷ [])
  some-snoc [] i = refl
  some-snoc (x ∷ xs) i = refl

  pub cuts-length : (j : ℕ) (xs : List ℕ) → length (chain_cuts l three j xs) ≡ length xs
  unfolding chain_cuts
  cuts-length j [] = refl
  cuts-length j (x ∷ xs) = ap suc (cuts-length (own three (cut_at l (cut_of l j x))) xs)

  -- a run at its beginning
  pub chain-start : {s : Chain} {counts : List ℕ} (j k : ℕ) (ks : List ℕ) → s.plate.0 ≡ j → s.rest ≡ None → Holds counts (tally k 1 ks) → Chained l three j k ks [] s counts
  unfolding chain_cuts chain_plate chain_rest
  chain-start j k ks a b h = record { on = a; beside = rw b; some = rw b; counted = rw (mathlib.Core.List.append-nil ks) h }

  -- the next item: its cut is counted, and what it leaves is known
  module _ (s t : Chain) {before after : List ℕ} (r : Left) (j k : ℕ) (ks xs : List ℕ) (i : ℕ) (c : Chained l three j k ks xs s before) (left : LeftBy three (cut_at l (cut_of l s.plate.0 i)) r) (more : (ms : List ℕ) → Holds before (tally k 1 ms) → Holds after (tally k 1 (ms ++ cut_of l s.plate.0 i ∷ []))) (on : t.plate.0 ≡ r.own.0) (rest : t.rest ≡ option_or s.rest (Some r.other)) where
    held : Holds after (tally k 1 (ks ++ chain_cuts l three j (xs ++ i ∷ [])))
    held = rw (cuts-snoc j xs i, ← append_assoc ks (chain_cuts l three j xs) (cut_of l (chain_plate l three j xs) i ∷ []), ← c.on) (more (ks ++ chain_cuts l three j xs) c.counted)

    on-next : t.plate.0 ≡ chain_plate l three j (xs ++ i ∷ [])
    on-next = on ∙ left.own-left ∙ rw (plate-snoc j xs i, ← c.on)

    beside-next : (rest : Option PlateType) → rest_of rest ≡ chain_rest l three j xs → is_some rest ≡ non_empty xs → rest_of (option_or rest (Some r.other)) ≡ chain_rest l three j (xs ++ i ∷ [])
    beside-next None b e = left.other-left ∙ rw (rest-first j xs i e, ← c.on)
    beside-next (Some p) b e = b ∙ sym (rest-further j xs i e)

    some-next : (rest : Option PlateType) → is_some (option_or rest (Some r.other)) ≡ non_empty (xs ++ i ∷ [])
    some-next None = some-snoc xs i
    some-next (Some p) = some-snoc xs i

    pub chain-next : Chained l three j k ks (xs ++ i ∷ []) t after
    chain-next =
        record {
          on = on-next;
          beside = rw rest (beside-next s.rest c.beside c.some);
          some = rw rest (some-next s.rest);
          counted = held;
        }

  -- a run that goes on can count its items
  pub going-counting : {s : Chain} {counts : List ℕ} {k : ℕ} {n : ℕ} → ChainGoing l three k s counts n → Counting counts k n
  going-counting g =
      let e : length (g.before ++ chain_cuts l three g.from g.past) ≡ length g.before + length (chain_cuts l three g.from g.past) = length-append g.before (chain_cuts l three g.from g.past) in
      let f : length (chain_cuts l three g.from g.past) ≡ length g.past = cuts-length g.from g.past in
      record { so_far = g.before ++ chain_cuts l three g.from g.past; held = g.chained.counted; few = omega (arith, g.few); room = g.room }

  -- a run that has gone on by some items goes on
  pub going_on : {s : Chain} (t : Chain) {counts counts' : List ℕ} {k n : ℕ} (m : ℕ) (g : ChainGoing l three k s counts n) (ys : List ℕ) → length ys + m ≤ n → length counts' ≡ length counts → Chained l three g.from k g.before (g.past ++ ys) t counts' → ChainGoing l three k t counts' m
  going_on t m g ys h e c =
      let f : length (g.past ++ ys) ≡ length g.past + length ys = length-append g.past ys in
      record { from = g.from; before = g.before; past = g.past ++ ys; chained = c; few = omega (arith, g.few); room = omega (arith, g.room) }
