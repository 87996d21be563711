-- The table, written position by position.
use mathlib.Core.Path.{◌≡◌, refl, ◌∙◌, ap}
use Prim.Native.Nat.{ℕ, zero, suc, ◌+◌, ◌*◌, ◌≤◌, ◌<◌}
use mathlib.Core.Logic.{◌⊎◌, inl, inr}
use mathlib.Core.Bool.{true, false}
use mathlib.Core.List.{List}
use native.Mathlib.Omega.{arith}
use lib.ListN.{length, get_or, set, length-set}
use lib.Seq.{get_or-set_same, get_or-set_other}
use Rattle.job.specs.declared.mode.Mode.{Mode}
use Rattle.job.specs.declared.item.Position.{Position}
use Rattle.job.specs.Job.{Job, job_of, unturned, type_of, turn_of, positions, position_at, permitted}
use Rattle.job.specs.JobWords.{JobWords}
use Rattle.job.proofs.Tests.{not-both, at-most-or-above}
use Rattle.job.proofs.CodeJobWords.{words-items}
use Rattle.job.proofs.Positions.{type-turn, turn_small, positions-length, position-unturned, permitted-range}
use Rattle.listing.specs.Plate.{plate}
use Rattle.listing_positions.specs.Least.{least_of}
use Rattle.listing_positions.specs.Table.{words_of_position, word_at, Next, Tabled, TableTo, Table}

-- there are two positions for each item type, from 2 on
pub within-last : {ws : List ℕ} {mode : Mode} {t n : ℕ} (q : ℕ) → JobWords ws mode t n → q ≤ 2 * n + 1 → q ≤ length (positions (job_of ws))
within-last {ws} q w h = omega (arith, positions-length (job_of ws), words-items w)

pub past-last : {ws : List ℕ} {mode : Mode} {t n : ℕ} (q : ℕ) → JobWords ws mode t n → 2 * n + 1 < q → length (positions (job_of ws)) < q
past-last {ws} q w h = omega (arith, positions-length (job_of ws), words-items w)

module _ (job : Job) (q : ℕ) where
  -- past the last position
  pub next_past : length (positions job) < q + 1 → Next job q (q + 1)
  next_past h = record { follows = inl refl; allowed = λ l. absurd (omega arith) }

  -- an item type is always permitted unturned
  unturned-allowed : (i : ℕ) → 1 ≤ i → i ≤ length job.items → permitted job (2 * i) ≡ true
  unfolding unturned
  unturned-allowed i a b = ap (λ (p : Position). p.allowed) (position-unturned job i a b)

  -- a position that is not is turned, and the next is of the next type, unturned
  pub next-over : 1 ≤ q → q + 1 ≤ length (positions job) → permitted job (q + 1) ≡ false → Next job q (q + 2)
  next-over a b h = record { follows = inr (refl, h); allowed = λ l. go l (turn_of (q + 1)) refl }
    where
      go : q + 2 ≤ length (positions job) → (t : ℕ) → turn_of (q + 1) ≡ t → permitted job (q + 2) ≡ true
      go l zero e =
          let f : q + 1 ≡ 2 * type_of (q + 1) = omega (arith, type-turn (q + 1)) in
          absurd (not-both (ap (permitted job) f ∙ unturned-allowed (type_of (q + 1)) (omega arith) (omega (arith, positions-length job))) h)
      go l (suc zero) e =
          let f : q + 2 ≡ 2 * (type_of (q + 1) + 1) = omega (arith, type-turn (q + 1)) in
          ap (permitted job) f ∙ unturned-allowed (type_of (q + 1) + 1) (omega arith) (omega (arith, positions-length job))
      go l (suc (suc t)) e = absurd (omega (arith, turn_small (q + 1)))

-- the words of position q have been written, and the others are as they were
pub record Written (job : Job) (q : ℕ) (before after : List ℕ) : Type 0 where
  pub here : Tabled job after q
  pub others : (x w : ℕ) → (x ≡ q → ⊥) → w < words_of_position → word_at after x w ≡ word_at before x w

-- five words of position q are set
module _ (job : Job) (q : ℕ) (table : List ℕ) (room : words_of_position * q + words_of_position ≤ length table) (a b c d e : ℕ) where
  abbrev one : List ℕ
  one = set table (words_of_position * q) a

  abbrev two : List ℕ
  two = set one (words_of_position * q + 1) b

  abbrev three : List ℕ
  three = set two (words_of_position * q + 2) c

  abbrev four : List ℕ
  four = set three (words_of_position * q + 3) d

  abbrev five : List ℕ
  five = set four (words_of_position * q + 4) e

  -- a word that is none of them is as it was
  other_word : (i : ℕ) → (i ≡ words_of_position * q → ⊥) → (i ≡ words_of_position * q + 1 → ⊥) → (i ≡ words_of_position * q + 2 → ⊥) → (i ≡ words_of_position * q + 3 → ⊥) → (i ≡ words_of_position * q + 4 → ⊥) → get_or five i 0 ≡ get_or table i 0
  other_word i v w x y z =
      get_or-set_other four (words_of_position * q + 4) i e 0 z
      ∙ get_or-set_other three (words_of_position * q + 3) i d 0 y
      ∙ get_or-set_other two (words_of_position * q + 2) i c 0 x
      ∙ get_or-set_other one (words_of_position * q + 1) i b 0 w
      ∙ get_or-set_other table (words_of_position * q) i a 0 v

  word-four : word_at five q 4 ≡ e
  word-four = get_or-set_same four (words_of_position * q + 4) e 0 (simp length-set (omega arith))

  word-three : word_at five q 3 ≡ d
  word-three =
      get_or-set_other four (words_of_position * q + 4) (words_of_position * q + 3) e 0 (λ z. omega arith)
      ∙ get_or-set_same three (words_of_position * q + 3) d 0 (simp length-set (omega arith))

  word_two : word_at five q 2 ≡ c
  word_two =
      get_or-set_other four (words_of_position * q + 4) (words_of_position * q + 2) e 0 (λ z. omega arith)
      ∙ get_or-set_other three (words_of_position * q + 3) (words_of_position * q + 2) d 0 (λ z. omega arith)
      ∙ get_or-set_same two (words_of_position * q + 2) c 0 (simp length-set (omega arith))

  word-one : word_at five q 1 ≡ b
  word-one =
      get_or-set_other four (words_of_position * q + 4) (words_of_position * q + 1) e 0 (λ z. omega arith)
      ∙ get_or-set_other three (words_of_position * q + 3) (words_of_position * q + 1) d 0 (λ z. omega arith)
      ∙ get_or-set_other two (words_of_position * q + 2) (words_of_position * q + 1) c 0 (λ z. omega arith)
      ∙ get_or-set_same one (words_of_position * q + 1) b 0 (simp length-set (omega arith))

  word_none : word_at five q 0 ≡ a
  word_none =
      let z : words_of_position * q + 0 ≡ words_of_position * q = omega arith in
      rw z
      (get_or-set_other four (words_of_position * q + 4) (words_of_position * q) e 0 (λ z. omega arith)
      ∙ get_or-set_other three (words_of_position * q + 3) (words_of_position * q) d 0 (λ z. omega arith)
      ∙ get_or-set_other two (words_of_position * q + 2) (words_of_position * q) c 0 (λ z. omega arith)
      ∙ get_or-set_other one (words_of_position * q + 1) (words_of_position * q) b 0 (λ z. omega arith)
      ∙ get_or-set_same table (words_of_position * q) a 0 (omega arith))

  -- by what they are set to, position q is written
  pub five-written :
      a ≡ (position_at job q).width
      → b ≡ (position_at job q).height
      → c ≡ least_of job (plate 0 (position_at job q).height 2)
      → d ≡ least_of job (plate (position_at job q).width 0 3)
      → Next job q e
      → Written job q table five
  five-written ea eb ec ed n =
      record {
        here = record {
          width = word_none ∙ ea;
          height = word-one ∙ eb;
          right = word_two ∙ ec;
          top = word-three ∙ ed;
          next = rw word-four n;
        };
        others = λ x w p h. other_word (words_of_position * x + w) (λ z. p (omega arith)) (λ z. p (omega arith)) (λ z. p (omega arith)) (λ z. p (omega arith)) (λ z. p (omega arith));
      }

module _ (job : Job) where
  -- the words of a position that are as they were
  tabled-kept : (before after : List ℕ) (x : ℕ) → ((w : ℕ) → w < words_of_position → word_at after x w ≡ word_at before x w) → Tabled job before x → Tabled job after x
  tabled-kept before after x f t =
      record {
        width = f 0 (omega arith) ∙ t.width;
        height = f 1 (omega arith) ∙ t.height;
        right = f 2 (omega arith) ∙ t.right;
        top = f 3 (omega arith) ∙ t.top;
        next = rw (f 4 (omega arith)) t.next;
      }

  -- before the first position, which is 2
  pub table-start : (table : List ℕ) → TableTo job 2 table
  table-start table = record { each = λ x a l. absurd (omega (arith, (permitted-range job x a).0)) }

  -- position q is written
  pub table-next : {before after : List ℕ} (q : ℕ) → Written job q before after → TableTo job q before → TableTo job (q + 1) after
  table-next {before} {after} q w t = record { each = λ x a l. go x a (at-most-or-above q x) l }
    where
      go : (x : ℕ) → permitted job x ≡ true → (q ≤ x) ⊎ (x < q) → x < q + 1 → Tabled job after x
      go x a (inl b) l = let z : x ≡ q = omega arith in rw z w.here
      go x a (inr b) l = tabled-kept before after x (λ v k. w.others x v (λ z. omega arith) k) (t.each x a b)

  -- past the last position
  pub table-all : {table : List ℕ} (q : ℕ) → length (positions job) < q → TableTo job q table → Table job table
  table-all q h t = record { each = λ x a. t.each x a (omega (arith, (permitted-range job x a).1)) }
