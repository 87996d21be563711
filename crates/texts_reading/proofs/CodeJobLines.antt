-- Lines whose numbers pass: as many as the shape has, each value a word within its limits; lines 1, 10 and 2 as the job's words.
use Prim.Native.Nat.{ℕ, zero, suc, ◌+◌, ◌-◌, ◌≤◌, ◌<◌}
use mathlib.Core.Path.{◌≡◌, refl, sym, ap, ◌∙◌}
use mathlib.Core.Logic.{◌⊎◌, inl, inr}
use mathlib.Core.List.{List, [], ◌∷◌}
use native.Mathlib.Omega.{arith}
use lib.ListN.{length, get_or, take, drop, length-drop}
use lib.Seq.{drop-append_seam}
use Rattle.job.specs.Sizes.{words_of_head, words_of_size, words_of_item, words_before, job_size, word_of_type}
use Rattle.std.specs.Prelude.{Result, Ok, Err}
use Rattle.job.specs.declared.refused.Refusal.{Refusal}
use Rattle.job.specs.declared.refused.Refusal.TheVariants.{Form, Limits, ItemLarger, Demands, BufferShort, PlatesMany, CutsMany, NoSuchCut, CutOrder, Total, ItemShort, Overdrawn, PricesNumber, CutOverLimit, Turn, Stages, PastBoard, Position, TurnedWithoutLeave, OtherPlate}
use Rattle.job.specs.Refused.{number_of}
use Rattle.job.specs.Verdict.{Verdict, pass}
use Rattle.columns.specs.Group.{put}
use Rattle.texts.specs.Shape.{Limit, ◌to◌, Shape, job_line, size_line, item_line, numbers_row}
use Rattle.texts.specs.JobLines.{board_sizes, types_of}
use Rattle.texts.specs.Admitted.{InLimits, OfShape}
use Rattle.texts.proofs.ShapeLaws.{row-admitted, shape-groups}
use Rattle.texts_reading.specs.Judged.{line_verdict, number_said}
use Rattle.texts_reading.specs.JobRead.{SameHead, FirstRead, SizeRead, ItemRead}
use Rattle.texts_reading.proofs.CodeWords.{put-held, put-before, put-here, part-rest}

-- ---- numbers that pass

-- no refusal has the number 0
pub refusal-number : (r : Refusal) → number_of r ≡ 0 → ⊥
refusal-number Form e = cc
refusal-number Limits e = cc
refusal-number ItemLarger e = cc
refusal-number Demands e = cc
refusal-number BufferShort e = cc
refusal-number PlatesMany e = cc
refusal-number CutsMany e = cc
refusal-number NoSuchCut e = cc
refusal-number CutOrder e = cc
refusal-number Total e = cc
refusal-number ItemShort e = cc
refusal-number Overdrawn e = cc
refusal-number PricesNumber e = cc
refusal-number CutOverLimit e = cc
refusal-number Turn e = cc
refusal-number Stages e = cc
refusal-number PastBoard e = cc
refusal-number Position e = cc
refusal-number TurnedWithoutLeave e = cc
refusal-number OtherPlate e = cc

-- what a check that refuses says is not 0
pub said-refused : {x : Result (Unit {0}) Refusal} {r : Refusal} → x ≡ Err r → number_said x ≡ 0 → ⊥
said-refused {x} {r} e z = refusal-number r (sym (ap number_said e) ∙ z)

pub said-passed : {x : Result (Unit {0}) Refusal} {u : Unit {0}} → x ≡ Ok u → number_said x ≡ 0
said-passed e = ap number_said e

-- no refusal is a pass
pub passed : (line : ℕ) {r : ℕ} {v : Verdict} → r ≡ 0 → line_verdict r line ≡ v → v ≡ pass
passed line e h = sym h ∙ ap (λ (n : ℕ). line_verdict n line) e

-- numbers of one shape
pub of-shape : (line : ℕ) (s : Shape) (ns : List ℕ) → numbers_row line (s ∷ []) ns ≡ pass → OfShape s ns
of-shape line s ns e = go (row-admitted line (s ∷ []) ns e)
  where
    go : OfShape s ns ⊎ ⊥ → OfShape s ns
    go (inl o) = o
    go (inr a) = absurd a

-- each value by its place
pub limit-at : (ls : List Limit) (vs : List ℕ) → InLimits ls vs → (k : ℕ) → k < length ls → ((get_or ls k (0 to 0)).low ≤ get_or vs k 0) × (get_or vs k 0 ≤ (get_or ls k (0 to 0)).high)
limit-at [] vs h k l = absurd (omega arith)
limit-at (l ∷ ls) [] h k q = absurd h
limit-at (l ∷ ls) (v ∷ vs) h zero q = (h.0, h.1)
limit-at (l ∷ ls) (v ∷ vs) h (suc k) q = limit-at ls vs h.2 k (omega arith)

-- limits that are words
abbrev pub WordLimits : List Limit → Type 0
WordLimits [] = Unit {0}
WordLimits (l ∷ ls) = (l.high < 65536) × WordLimits ls

words-in : (ls : List Limit) (vs : List ℕ) → WordLimits ls → InLimits ls vs → (k : ℕ) → k < length vs → get_or vs k 0 < 65536
words-in [] [] w h k l = absurd (omega arith)
words-in [] (v ∷ vs) w h k l = absurd h
words-in (l ∷ ls) [] w h k q = absurd h
words-in (l ∷ ls) (v ∷ vs) w h zero q = omega arith
words-in (l ∷ ls) (v ∷ vs) w h (suc k) q = words-in ls vs w.1 h.2 k (omega arith)

-- the values of a line are its numbers after the kind and the running number
pub shape-values : (s : Shape) (ns : List ℕ) (o : OfShape s ns) → drop (suc (length s.running)) ns ≡ o.others
shape-values s ns o = rw o.numbers (drop-append_seam s.running o.others)

pub shape-words : (s : Shape) (ns : List ℕ) → WordLimits s.limits → OfShape s ns → (k : ℕ) → k < length (drop (suc (length s.running)) ns) → get_or (drop (suc (length s.running)) ns) k 0 < 65536
shape-words s ns w o = rw (shape-values s ns o) (words-in s.limits o.others w o.limits)

-- ---- the part of a line's numbers that is written

module _ (s : Shape) (ns : List ℕ) (a : ℕ) (e : suc (length s.running) ≡ a) (w : WordLimits s.limits) (o : OfShape s ns) where
  pub part-size : length (take (length ns - a) (drop a ns)) ≡ length s.limits
  part-size = rw (part-rest ns a, length-drop) (omega (arith, shape-groups s ns o))

  pub part-words : (k : ℕ) → k < length (take (length ns - a) (drop a ns)) → get_or (take (length ns - a) (drop a ns)) k 0 < 65536
  part-words = rw (part-rest ns a, ← e) (shape-words s ns w o)

-- ---- line 1

module _ (ns job : List ℕ) (r : ℕ) (row : (line : ℕ) → line_verdict r line ≡ numbers_row line (job_line ∷ []) ns) where
  pub first-shape : r ≡ 0 → OfShape job_line ns
  first-shape e = of-shape 1 job_line ns (passed 1 e (row 1))

  pub first_read : {job' : List ℕ} → r ≡ 0 → words_of_head ≤ length job → job' ≡ put job 0 (take (length ns - 1) (drop 1 ns)) → FirstRead ns job job' 0
  first_read {job'} e h q =
      let o = first-shape e in
      let n = shape-groups job_line ns o in
      let p : job' ≡ put job 0 (drop 1 ns) = q ∙ rw (part-rest ns 1) in
      let d : length (drop 1 ns) ≡ words_of_head = rw length-drop (omega arith) in
      let u : board_sizes job' ≡ board_sizes o.others = rw (p, put-here job (drop 1 ns) 2 (omega arith)) (ap board_sizes (shape-values job_line ns o)) in
      let v : types_of job' ≡ types_of o.others = rw (p, put-here job (drop 1 ns) 3 (omega arith)) (ap types_of (shape-values job_line ns o)) in
      record {
        row = λ line. sym (passed line e (row line));
        unchanged = λ z. absurd (z refl);
        read = λ _ held. rw p (put-held [] (drop 1 ns) 0 refl (omega arith) held);
        sizes = λ _. rw u (limit-at job_line.limits o.others o.limits 2 (omega arith));
        types = λ _. rw v (limit-at job_line.limits o.others o.limits 3 (omega arith));
      }

-- words that are put behind the head leave it as it is
put_same : (job xs : List ℕ) (at : ℕ) {job' : List ℕ} → words_of_head ≤ at → at ≤ length job → job' ≡ put job at xs → SameHead job job'
put_same job xs at low high p =
    record {
      sizes = rw p (put-before job at xs 2 (omega arith) (omega arith));
      types = rw p (put-before job at xs 3 (omega arith) (omega arith));
    }

-- ---- line 10

module _ (j : ℕ) (ns job : List ℕ) (r : ℕ) (row : (line : ℕ) → line_verdict r line ≡ numbers_row line (size_line j ∷ []) ns) where
  pub size-shape : r ≡ 0 → OfShape (size_line j) ns
  size-shape e = of-shape 1 (size_line j) ns (passed 1 e (row 1))

  pub size-read : {job' : List ℕ} → r ≡ 0 → words_before (j + 1) ≤ length job → job' ≡ put job (words_before j) (take (length ns - 2) (drop 2 ns)) → SizeRead j ns job job' 0
  size-read {job'} e h q =
      let n = shape-groups (size_line j) ns (size-shape e) in
      let p : job' ≡ put job (words_before j) (drop 2 ns) = q ∙ rw (part-rest ns 2) in
      let d : length (drop 2 ns) ≡ words_of_size = rw length-drop (omega arith) in
      record {
        row = λ line. sym (passed line e (row line));
        unchanged = λ z. absurd (z refl);
        read = λ _ ws s held. rw p (put-held ws (drop 2 ns) (words_before j) s (omega arith) held);
        same = λ _. put_same job (drop 2 ns) (words_before j) (omega arith) (omega arith) p;
      }

-- ---- line 2

module _ (i : ℕ) (ns job : List ℕ) (r : ℕ) (row : (line : ℕ) → line_verdict r line ≡ numbers_row line (item_line i ∷ []) ns) where
  pub item-shape : r ≡ 0 → OfShape (item_line i) ns
  item-shape e = of-shape 1 (item_line i) ns (passed 1 e (row 1))

  abbrev at : ℕ
  at = word_of_type (board_sizes job) i

  pub item-read : {job' : List ℕ} → r ≡ 0 → 1 ≤ i → job_size (board_sizes job) i ≤ length job → job' ≡ put job at (take (length ns - 2) (drop 2 ns)) → ItemRead i ns job job' 0
  item-read {job'} e l h q =
      let n = shape-groups (item_line i) ns (item-shape e) in
      let p : job' ≡ put job at (drop 2 ns) = q ∙ rw (part-rest ns 2) in
      let d : length (drop 2 ns) ≡ words_of_item = rw length-drop (omega arith) in
      record {
        row = λ line. sym (passed line e (row line));
        unchanged = λ z. absurd (z refl);
        read = λ _ ws s held. rw p (put-held ws (drop 2 ns) at s (omega arith) held);
        same = λ _. put_same job (drop 2 ns) at (omega arith) (omega arith) p;
      }
