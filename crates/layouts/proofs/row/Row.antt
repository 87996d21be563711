-- The layouts row, both ways: the lines of a set that demand 3 names pass it, and lines that pass it are those of such a set.
use Prim.Native.Nat.{ℕ, ◌≤◌, ◌<◌}
use native.Mathlib.Omega.{arith}
use mathlib.Core.Path.{◌≡◌, ap, ◌∙◌}
use mathlib.Core.Logic.{◌↔◌}
use mathlib.Core.Bool.{true}
use mathlib.Core.List.{List, [], ◌∷◌, map}
use lib.ListN.{length}
use Rattle.job.specs.Verdict.{pass}
use Rattle.job.specs.Job.{Job, size_at, type_of, max_pieces}
use Rattle.job.proofs.Decides.{passes-self, passes_then, passes-limit}
use Rattle.layouts.specs.Layout.{Sheet, sheet, sheet_size, strips_of, stage_rule, layout_rules}
use Rattle.layouts.specs.Placement.{Placement, lines_of, items_of_set, types_of_set, meets_from, meets_demands}
use Rattle.layouts.specs.Lines.{turns, grouped}
use Rattle.layouts.specs.LayoutsRow.{positioned, layouts_row}
use Rattle.layouts.specs.Rules.{Every, OfJob, StripOk, SheetOk, SetOk}
use Rattle.layouts.proofs.lists.Every.{every_map, every-of-map}
use Rattle.layouts.proofs.rules.RulesExact.{stage-exact, strips-ok, set-exact}
use Rattle.layouts.proofs.row.Grouping.{FullStrip, FullSet, ok-full, lines-grouped}
use Rattle.layouts.proofs.row.RowTurns.{lines-turns}
use Rattle.layouts.proofs.row.RowLines.{items_every, lines-items, lines-types, lines-length}
use Rattle.layouts.proofs.row.RowRules.{WithinBoard, stage-pass, past-pass, demands-row}
use Rattle.layouts.proofs.row.RowBack.{positioned-self, grouped-full, grouped-sizes, rows-lines}

module _ (job : Job) where
  -- the row over some lines passes exactly if each of its checks does: 10, 15, 16, 17, 18, 11
  pub record Passed (k : ℕ) (rs : List Placement) : Type 0 where
    pub few : length rs ≤ max_pieces
    pub turned : turns k rs ≡ pass
    pub staged : Every (λ b. Every (λ s. stage_rule job s ≡ true) (strips_of b)) (grouped rs)
    pub fitting : Every (WithinBoard job) (grouped rs)
    pub placed : positioned k rs (lines_of job (grouped rs)) ≡ pass
    pub enough : meets_from 1 job.items (map (λ r. type_of r.item) rs) ≡ true

  pub row-exact : (k : ℕ) (rs : List Placement) → (layouts_row k job rs ≡ pass) ↔ Passed k rs
  unfolding layouts_row
  row-exact k rs = (
    λ e.
        let q = each.0 e in
        let r = q.1.1 in
        record { few = q.0; turned = q.1.0; staged = r.0; fitting = r.1.0; placed = r.1.1.0; enough = r.1.1.1 },
    λ h. each.1 (h.few, (h.turned, (h.staged, (h.fitting, (h.placed, h.enough))))),
  )
    where
      each :
          (layouts_row k job rs ≡ pass)
          ↔ ((length rs ≤ max_pieces)
          × ((turns k rs ≡ pass)
          × (Every (λ b. Every (λ s. stage_rule job s ≡ true) (strips_of b)) (grouped rs)
          × (Every (WithinBoard job) (grouped rs)
          × ((positioned k rs (lines_of job (grouped rs)) ≡ pass) × (meets_from 1 job.items (map (λ r. type_of r.item) rs) ≡ true))))))
      each =
          passes_then (passes-limit max_pieces (length rs) 10 0)
          (passes_then (passes-self (turns k rs))
          (passes_then (stage-pass job k (grouped rs))
          (passes_then (past-pass job k (grouped rs))
          (passes_then (passes-self (positioned k rs (lines_of job (grouped rs)))) (demands-row rs 1 job.items)))))

  -- the lines of a set of layouts that keeps the rules and meets the demands, within 4,000 pieces, pass
  pub set-row :
      (k : ℕ) (bs : List Sheet)
      → layout_rules job bs ≡ true
      → meets_demands job bs ≡ true
      → length (items_of_set bs) ≤ max_pieces
      → layouts_row k job (lines_of job bs) ≡ pass
  unfolding meets_demands
  set-row k bs rules demands few =
      let ok : SetOk job bs = (set-exact job bs).0 rules in
      let full : FullSet bs = ok-full job bs ok in
      let e : grouped (lines_of job bs) ≡ bs = lines-grouped job bs full in
      (row-exact k (lines_of job bs)).1
      (record {
        few = omega (arith, lines-length job bs);
        turned = lines-turns job k bs full;
        staged =
            rw e
            (every_map (λ b (h : SheetOk job b).
            every_map (λ s (q : StripOk job (size_at job (sheet_size b)) s). (stage-exact job s).1 q.staged) (strips_of b) h.1.strips)
            bs ok);
        fitting =
            rw e
            (every_map (λ b (h : SheetOk job b).
            (every_map (λ s (q : StripOk job (size_at job (sheet_size b)) s). q.across) (strips_of b) h.1.strips, h.1.up))
            bs ok);
        placed = rw e (positioned-self k (lines_of job bs));
        enough = rw (lines-types job bs) demands;
      })

  -- boards of which nothing is empty, with the rules of 16 and 17 and items of the job, keep the rules
  boards-ok :
      (bs : List Sheet)
      → FullSet bs
      → Every (λ b. Every (Every (Every (OfJob job))) (strips_of b)) bs
      → Every (λ b. Every (λ s. stage_rule job s ≡ true) (strips_of b)) bs
      → Every (WithinBoard job) bs
      → Every (λ b. sheet_size b < length job.sizes) bs
      → SetOk job bs
  boards-ok [] f t s a z = tt
  boards-ok (sheet j b ∷ bs) f t s a z = (
    (
      z.0,
      record {
        filled = f.0.0;
        strips =
            strips-ok job (size_at job j) b (every_map (λ c (q : FullStrip c). q.0) b f.0.1) (every_map (λ c (q : FullStrip c). q.1) b f.0.1) t.0
            (every_map (λ c (q : stage_rule job c ≡ true). (stage-exact job c).0 q) b s.0) a.0.0;
        up = a.0.1;
      },
    ),
    boards-ok bs f.1 t.1 s.1 a.1 z.1,
  )

  -- lines that are those of the set that they make have its items
  row-items : (rs : List Placement) → rs ≡ lines_of job (grouped rs) → map (λ r. r.item) rs ≡ items_of_set (grouped rs)
  row-items rs e = ap (map (λ (r : Placement). r.item)) e ∙ lines-items job (grouped rs)

  row-types : (rs : List Placement) → rs ≡ lines_of job (grouped rs) → map (λ r. type_of r.item) rs ≡ types_of_set (grouped rs)
  row-types rs e = ap (map (λ (r : Placement). type_of r.item)) e ∙ lines-types job (grouped rs)

  -- what lines of the job's items that pass are: the lines of a set that keeps the rules and meets the demands, at most 4,000
  pub record SetOfRows (rs : List Placement) : Type 0 where
    pub lines : rs ≡ lines_of job (grouped rs)
    pub rules : layout_rules job (grouped rs) ≡ true
    pub demands : meets_demands job (grouped rs) ≡ true
    pub few : length rs ≤ max_pieces

  pub row-set : (k : ℕ) (rs : List Placement) → Every (λ r. OfJob job r.item) rs → Every (λ r. r.turn.board.size < length job.sizes) rs → layouts_row k job rs ≡ pass → SetOfRows rs
  unfolding meets_demands
  row-set k rs types sizes e =
      let h = (row-exact k rs).0 e in
      let same : rs ≡ lines_of job (grouped rs) = rows-lines job k rs h.turned h.placed in
      let items : map (λ r. r.item) rs ≡ items_of_set (grouped rs) = row-items rs same in
      record {
        lines = same;
        rules =
            (set-exact job (grouped rs)).1
            (boards-ok (grouped rs) (grouped-full rs)
            ((items_every (OfJob job) (grouped rs)).0 (rw items at (every-of-map (OfJob job) (λ (r : Placement). r.item) rs types)))
            h.staged h.fitting (grouped-sizes (λ j. j < length job.sizes) rs sizes));
        demands = rw (← row-types rs same) h.enough;
        few = h.few;
      }
