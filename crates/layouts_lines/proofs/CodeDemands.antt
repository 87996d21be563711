-- The lines of each item type, counted in words, on plain values: each turn has room in its word, and the last has the sums of all lines.
use mathlib.Core.Path.{◌≡◌, sym, ap, ◌∙◌}
use Prim.Native.Nat.{ℕ, ◌+◌, ◌*◌, ◌^◌, ◌≤◌, ◌<◌}
use mathlib.Core.List.{List, [], ◌∷◌, ◌++◌, map-append}
use mathlib.Core.Logic.{⊎_elim}
use native.Mathlib.Omega.{arith}
use lib.Dec.{ltb}
use lib.ListN.{length, get_or, set, take, replicate, length-set, length-map, length-replicate, get_or-replicate}
use lib.Seq.{get_or-set_same, get_or-set_other, length-take-le, take-length}
use Rattle.job.specs.Sizes.{max_types, max_pieces, words_of_placement}
use Rattle.job.specs.Lists.{occurs, sum_of}
use Rattle.job.specs.Verdict.{Verdict, pass, lowest}
use Rattle.job.specs.Job.{Job, type_of}
use Rattle.job.proofs.Positions.{type-of}
use Rattle.job.proofs.Tests.{equal_or_not}
use Rattle.job.proofs.Sums.{occurs-here, occurs-other, occurs-append, occurs-length}
use Rattle.layouts.specs.Placement.{Placement}
use Rattle.layouts.specs.Lines.{Line, rows_of, layout_words}
use Rattle.layouts.specs.LayoutsRow.{lacks}
use Rattle.job.proofs.CodeLowest.{lowest-agree}
use Rattle.placement.specs.PlacementRead.{types_placed, placement_at, line_at}
use Rattle.layouts_lines.specs.LineSums.{OfTypes, SumsOf}
use Rattle.placement.proofs.Rows.{whole-rows, rows_take}
use Rattle.layouts_lines.proofs.CodeLimits.{passed-typed}

-- before the first line every sum is 0
pub sums_none : (n : ℕ) → SumsOf [] (replicate n 0)
unfolding occurs sum_of
sums_none n = record { each = λ j h. get_or-replicate n j 0 0 (rw length-replicate at h) }

-- one line more
items_more : (rs : List Placement) (r : Placement) (j : ℕ) → occurs j (types_placed (rs ++ r ∷ [])) ≡ occurs j (types_placed rs) + occurs j (type_of r.item ∷ [])
items_more rs r j = ap (occurs j) (map-append (λ p. type_of p.item) rs (r ∷ [])) ∙ occurs-append j (types_placed rs) (type_of r.item ∷ [])

sums-more : (rs : List Placement) (r : Placement) (sums : List ℕ) (i : ℕ) → SumsOf rs sums → type_of r.item ≡ i → i < length sums → SumsOf (rs ++ r ∷ []) (set sums i (get_or sums i 0 + 1))
sums-more rs r sums i s is h = record { each = λ j l. let p : j < length sums = rw length-set at l in ⊎_elim (same j p) (other j p) (equal_or_not i j) }
  where
    none : (j : ℕ) → occurs j [] ≡ 0
    none j = let e : occurs j [] ≤ 0 = occurs-length j [] in omega arith

    more : (j : ℕ) → occurs j (types_placed (rs ++ r ∷ [])) ≡ occurs j (types_placed rs) + occurs j (i ∷ [])
    more j = rw is at (items_more rs r j)

    same : (j : ℕ) → j < length sums → i ≡ j → get_or (set sums i (get_or sums i 0 + 1)) j 0 ≡ occurs j (types_placed (rs ++ r ∷ []))
    same j p e =
        let a : get_or (set sums i (get_or sums i 0 + 1)) i 0 ≡ get_or sums i 0 + 1 = get_or-set_same sums i (get_or sums i 0 + 1) 0 h in
        rw (← e) (omega (arith, more i, occurs-here i [], none i, s.each i h))

    other : (j : ℕ) → j < length sums → (i ≡ j → ⊥) → get_or (set sums i (get_or sums i 0 + 1)) j 0 ≡ occurs j (types_placed (rs ++ r ∷ []))
    other j p d =
        let a : get_or (set sums i (get_or sums i 0 + 1)) j 0 ≡ get_or sums j 0 = get_or-set_other sums i j (get_or sums i 0 + 1) 0 (λ e. d (sym e)) in
        omega (arith, more j, occurs-other j i [] d, none j, s.each j p)

-- the line behind c others, where the sums are those of these c
module _ (ws sums : List ℕ) (lines c : ℕ) (whole : length ws ≡ words_of_placement * lines) (h : c < lines) (types : OfTypes max_types lines ws) (room : max_types < length sums) (s : SumsOf (take c (rows_of ws)) sums) {l : Line} (e : l ≡ line_at ws c) where
  -- its type ..
  type-is : type_of (placement_at ws c).item ≡ l.type
  type-is = type-of (line_at ws c).type (line_at ws c).turned (types.each c h).turn ∙ ap (λ (k : Line). k.type) (sym e)

  -- .. has its word ..
  pub word-inside : l.type < length sums
  word-inside = rw e (omega (arith, (types.each c h).to_last))

  -- .. which has room for one more
  pub word_small : lines ≤ max_pieces → get_or sums l.type 0 + 1 < 2 ^ 16
  word_small few =
      let a : get_or sums l.type 0 ≡ occurs l.type (types_placed (take c (rows_of ws))) = s.each l.type word-inside in
      let b : occurs l.type (types_placed (take c (rows_of ws))) ≤ length (types_placed (take c (rows_of ws))) = occurs-length l.type (types_placed (take c (rows_of ws))) in
      let d : length (types_placed (take c (rows_of ws))) ≡ c = length-map (take c (rows_of ws)) (λ p. type_of p.item) ∙ length-take-le c (rows_of ws) (rw (whole-rows ws lines whole) (omega arith)) in
      omega arith

  -- counted, the sums are those of one line more
  pub word-counted : SumsOf (take (c + 1) (rows_of ws)) (set sums l.type (get_or sums l.type 0 + 1))
  word-counted = rw (rows_take ws lines c whole h) (sums-more (take c (rows_of ws)) (placement_at ws c) sums l.type s type-is word-inside)

-- after all lines the sums are those of the lines
pub sums-end : (ws sums : List ℕ) (lines c : ℕ) → length ws ≡ words_of_placement * lines → c ≤ lines → lines ≤ c → SumsOf (take c (rows_of ws)) sums → SumsOf (rows_of ws) sums
sums-end ws sums lines c whole h l s =
    let e : c ≡ length (rows_of ws) = rw (whole-rows ws lines whole) (omega arith) in
    let z : take c (rows_of ws) ≡ rows_of ws = rw e (take-length (rows_of ws)) in
    rw z at s

-- lines of words that passed are of at most 40 item types
pub passed-types : (job : Job) (ws : List ℕ) (lines : ℕ) → layout_words job ws ≡ pass → length job.items ≤ max_types → length ws ≡ words_of_placement * lines → OfTypes max_types lines ws
passed-types job ws lines p few whole =
    record {
      each = λ c h.
          let o = (passed-typed job ws lines p whole).each c h in
          record { from_one = o.from_one; to_last = omega (arith, o.to_last); turn = o.turn };
    }

-- what the sums say of the demands the lines say
pub lacking-said : (job : Job) (ws sums : List ℕ) → SumsOf (rows_of ws) sums → length job.items < length sums → {v : Verdict} → v ≡ lowest 11 (λ i item. ltb (get_or sums i 0) item.demand) 1 job.items → v ≡ lowest 11 (lacks (rows_of ws)) 1 job.items
unfolding lacks
lacking-said job ws sums s room e =
    e ∙ lowest-agree 11 (λ i item. ltb (get_or sums i 0) item.demand) (lacks (rows_of ws)) 1 job.items (λ i item p q. let z : get_or sums i 0 ≡ occurs i (types_placed (rows_of ws)) = s.each i (omega arith) in rw z)
