-- The stage rule of a strip, stack by stack: what has been seen, and the stacks that are left.
use mathlib.Core.Path.{◌≡◌, refl, sym, ap, ◌∙◌}
use Prim.Native.Nat.{ℕ, suc, ◌+◌, ◌*◌, ◌<◌}
use mathlib.Core.Bool.{Bool, true, false, cond, not, ◌&&◌, ◌||◌}
use mathlib.Core.List.{List, [], ◌∷◌}
use native.Mathlib.Omega.{arith}
use borrow.Author.Tests.{eq-eqb, ne_eqb}
use lib.Dec.{eqb}
use lib.ListN.{length, drop}
use Rattle.job.specs.Sizes.{words_of_placement}
use Rattle.job.specs.declared.mode.Mode.{Mode}
use Rattle.job.specs.Lists.{any, all}
use Rattle.job.specs.Mode.{three, exact}
use Rattle.job.specs.Job.{Job}
use Rattle.job.proofs.Lists.{any-cons, all_cons}
use Rattle.layouts.specs.Layout.{Stack, Strip, stack_height, strip_height, single, full_stack, same_heights, same_widths, stage_rule}
use Rattle.layouts.specs.Lines.{begun, rows_of}
use Rattle.layouts_strips.specs.declared.stack.StackMeasure.{StackMeasure}
use Rattle.layouts_strips.specs.Begun.{begins_stack}
use Rattle.layouts_strips.specs.First.{stack_of, strip_of}
use Rattle.layouts_strips.specs.Measures.{StackIs}
use Rattle.layouts_strips.specs.Staged.{stack_kept, full_enough}
use Rattle.layouts_strips.proofs.CodeStacks.{and-true}
use Rattle.layouts_strips.proofs.CodeStrips.{stacks_left, strip-line, left-more, left-none}

-- two tests of every element, one after the other or at once
four : (a b c d : Bool) → ((a && b) && (c && d)) ≡ ((a && c) && (b && d))
four false b c d = refl
four true true c d = refl
four true false true d = refl
four true false false d = refl

module _ {A : Type 0} where
  all_true : (as' : List A) → all (λ _. true) as' ≡ true
  unfolding all
  all_true [] = refl
  all_true (a ∷ as') = all_true as'

  all_both : (p q : A → Bool) (as' : List A) → all (λ a. p a && q a) as' ≡ (all p as' && all q as')
  unfolding all
  all_both p q [] = refl
  all_both p q (a ∷ as') =
      all_cons (λ b. p b && q b) a as'
      ∙ ap (λ (t : Bool). (p a && q a) && t) (all_both p q as')
      ∙ four (p a) (q a) (all p as') (all q as')
      ∙ rw (← all_cons p a as', ← all_cons q a as')

-- the stage rule, by the mode's two tests: of the strip as a whole, and of each stack
by_mode :
    (t e some : Bool) (p q w : Stack → Bool) (s : Strip)
    → cond t (some && (not e || all w s)) (all p s && (not e || all q s))
    ≡ ((not t || some) && all (λ k. cond t (not e || w k) (p k && (not e || q k))) s)
by_mode true true some p q w s = refl
by_mode true false some p q w s = ap (λ (x : Bool). some && x) (sym (all_true s))
by_mode false true some p q w s = sym (all_both p q s)
by_mode false false some p q w s = ap (λ (x : Bool). all p s && x) (sym (all_true s)) ∙ sym (all_both p (λ _. true) s)

module _ (job : Job) (h : ℕ) where
  -- what a stack has to keep in a strip of height h
  abbrev pub kept : Stack → Bool
  kept k = stack_kept job.mode (single k) (same_widths job k) (eqb (stack_height job k) h)

  pub stage-rule : (s : Strip) → h ≡ strip_height job s → stage_rule job s ≡ (full_enough job.mode (any (full_stack job h) s) && all kept s)
  unfolding stage_rule same_heights full_enough stack_kept
  stage-rule s e =
      rw e (by_mode (three job.mode) (exact job.mode) (any (full_stack job (strip_height job s)) s) single (λ k. eqb (stack_height job k) (strip_height job s)) (same_widths job) s)

-- a stack of one line is a single item
pub single-length : (c : ℕ) (k : Stack) → eqb (c + length k) (c + 1) ≡ single k
unfolding single
single-length c [] = ne_eqb (c + 0) (c + 1) (λ e. omega arith)
single-length c (i ∷ []) = eq-eqb (c + 1) (c + 1) refl
single-length c (i ∷ i' ∷ is) = ne_eqb (c + suc (suc (length is))) (c + 1) (λ e. omega arith)

and_none : (b : Bool) → (b && false) ≡ false
and_none true = refl
and_none false = refl

or-none : (b : Bool) → (b || false) ≡ b
or-none true = refl
or-none false = refl

or_assoc : (a b c : Bool) → (a || (b || c)) ≡ ((a || b) || c)
or_assoc true b c = refl
or_assoc false b c = refl

module _
    (job : Job) (ws : List ℕ) (n c h : ℕ) {x : StackMeasure} (s : Strip) (full : Bool) {kept' : Bool} (m : Mode)
    (l : length ws ≡ words_of_placement * n)
    (inside : c < n)
    (is : StackIs job c (stack_of (drop c (rows_of ws))) x)
    (high : h ≡ strip_height job s)
    (mode : m ≡ job.mode)
    (all_left : all (kept job h) s ≡ all (kept job h) (strip_of (drop c (rows_of ws))))
    (some_left : any (full_stack job h) s ≡ (full || any (full_stack job h) (strip_of (drop c (rows_of ws)))))
    (says : kept' ≡ stack_kept m (eqb x.end (c + 1)) x.even (eqb x.height h))
  where
    alone : eqb x.end (c + 1) ≡ single (stack_of (drop c (rows_of ws)))
    alone = rw is.ended (single-length c (stack_of (drop c (rows_of ws))))

    kept_here : kept' ≡ kept job h (stack_of (drop c (rows_of ws)))
    kept_here = says ∙ rw (alone, is.evenly, is.high, mode)

    all_here : all (kept job h) s ≡ (kept' && all (kept job h) (stacks_left ws x.end))
    all_here =
        all_left
        ∙ ap (all (kept job h)) (strip-line job ws n c l inside is)
        ∙ all_cons (kept job h) (stack_of (drop c (rows_of ws))) (stacks_left ws x.end)
        ∙ rw (← kept_here)

    -- a stack that does not keep the rule breaks it
    pub staged-broken : kept' ≡ false → false ≡ stage_rule job s
    staged-broken f =
        sym (stage-rule job h s high ∙ rw (all_here, f) (and_none (full_enough job.mode (any (full_stack job h) s))))

    module _ {full' : Bool} (t : kept' ≡ true) (sf : full' ≡ (full || (eqb x.end (c + 1) && eqb x.height h))) where
      all-next : all (kept job h) s ≡ all (kept job h) (stacks_left ws x.end)
      all-next = all_here ∙ rw t

      full-here : full' ≡ (full || full_stack job h (stack_of (drop c (rows_of ws))))
      unfolding full_stack
      full-here = sf ∙ rw (alone, is.high)

      some_next : any (full_stack job h) s ≡ (full' || any (full_stack job h) (stacks_left ws x.end))
      some_next =
          some_left
          ∙ ap (λ (r : Strip). full || any (full_stack job h) r) (strip-line job ws n c l inside is)
          ∙ ap (λ (b : Bool). full || b) (any-cons (full_stack job h) (stack_of (drop c (rows_of ws))) (stacks_left ws x.end))
          ∙ or_assoc full (full_stack job h (stack_of (drop c (rows_of ws)))) (any (full_stack job h) (stacks_left ws x.end))
          ∙ rw (← full-here)

      module _ {b : Bool} (begins : b ≡ begins_stack (begun (drop x.end (rows_of ws)))) where
        -- a further stack begins
        pub staged-next : b ≡ true → (all (kept job h) s ≡ all (kept job h) (strip_of (drop x.end (rows_of ws)))) × (any (full_stack job h) s ≡ (full' || any (full_stack job h) (strip_of (drop x.end (rows_of ws)))))
        staged-next u = (rw (left-more ws x.end begins u) at all-next, rw (left-more ws x.end begins u) at some_next)

        -- no stack is left
        pub staged-ends : b ≡ false → {r : Bool} → r ≡ full_enough m full' → r ≡ stage_rule job s
        unfolding all any
        staged-ends u e =
            let a : all (kept job h) s ≡ true = all-next ∙ rw (left-none ws x.end begins u) in
            let o : any (full_stack job h) s ≡ full' = some_next ∙ rw (left-none ws x.end begins u) (or-none full') in
            e ∙ rw mode (sym (stage-rule job h s high ∙ rw (a, o) (sym (and-true (full_enough job.mode full')))))
