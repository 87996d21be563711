-- Lines 1, 10 and 2 and the job's words: the words that the lines give pass the words' own line row, and job words that pass it are lines again.
use Prim.Native.Nat.{ℕ, suc, ◌*◌, ◌-◌, ◌≤◌, ◌<◌}
use native.Mathlib.Omega.{arith}
use mathlib.Core.Path.{◌≡◌, refl, ap, ◌∙◌}
use mathlib.Core.Bool.{Bool, true, false, not, ◌&&◌}
use mathlib.Core.List.{List, [], ◌∷◌, ◌++◌}
use lib.Dec.{eqb}
use lib.ListN.{length, get_or, take, drop, length-append, length-drop, drop_of_length-le, get_or-append}
use lib.Seq.{drop-append-le, take-append-le, take_all, length-take-le}
use borrow.Author.Tests.{eqb-true, eq-eqb}
use Rattle.job.specs.Sizes.{max_blade, max_sizes, max_cost, words_of_head, words_of_size, words_of_item, words_before, job_size}
use Rattle.job.specs.declared.size.Size.{Size}
use Rattle.job.specs.declared.item.Item.{Item}
use Rattle.job.specs.Lists.{all}
use Rattle.job.specs.Verdict.{Verdict, pass, ◌then◌, refuse_if, within, lowest}
use Rattle.job.specs.Job.{max_side, max_types, max_pieces, size, sizes_of, item, items_of, job_of, head_right, size_right, board_right, item_right, job_words}
use Rattle.job.proofs.Tests.{and_both, within-limits}
use Rattle.job.proofs.Lists.{all_cons}
use Rattle.job.proofs.CodeEnds.{then-pass}
use Rattle.texts.specs.Shape.{job_line, size_line, item_line}
use Rattle.texts.specs.JobLines.{board_sizes, types_of}
use Rattle.texts.specs.Admitted.{InLimits}
use Rattle.texts.proofs.WordGroups.{Threes, no_size, one_size, threes, Fours, no-type, one_type, fours}
use Rattle.texts.proofs.Basics.{and_parts, within-parts, unless-passed, lowest-more}

-- a type with a word outside its limits
abbrev pub bad_item : ℕ → Item → Bool
bad_item k it = not (item_right it)

-- the job's words after line 1 and j lines 10 (request Six)
pub record SizesSoFar (j : ℕ) (ws : List ℕ) : Type 0 where
  pub size : length ws ≡ words_before j
  pub head : head_right ws ≡ true
  pub sizes : all size_right (sizes_of (drop words_of_head ws)) ≡ true

-- the job's words after line 1, its lines 10 and k lines 2
pub record JobSoFar (k : ℕ) (ws : List ℕ) : Type 0 where
  pub size : length ws ≡ job_size (board_sizes ws) k
  pub board : board_right ws ≡ true
  pub items : lowest 2 bad_item 1 (items_of (drop (words_before (board_sizes ws)) ws)) ≡ pass

-- words with all their types
abbrev pub JobWhole : List ℕ → Type 0
JobWhole ws = JobSoFar (types_of ws) ws

-- ---- the words' own row

-- words with all their types pass
pub job-passes : (ws : List ℕ) → JobWhole ws → job_words ws ≡ pass
unfolding job_words job_of
job-passes ws j = rw (eq-eqb (length ws) (job_size (get_or ws 2 0) (get_or ws 3 0)) j.size, j.board) j.items

-- and words that pass have all their types
pub passes-job : (ws : List ℕ) → job_words ws ≡ pass → JobWhole ws
unfolding job_words job_of
passes-job ws h =
    let whole : Bool = eqb (length ws) (job_size (get_or ws 2 0) (get_or ws 3 0)) in
    let items : Verdict = lowest 2 bad_item 1 (items_of (drop (words_before (get_or ws 2 0)) ws)) in
    let a = then-pass (refuse_if (not whole) 1 0) (refuse_if (not (board_right ws)) 2 0 then items) h in
    let b = then-pass (refuse_if (not (board_right ws)) 2 0) items a.1 in
    record {
      size = eqb-true (length ws) (job_size (get_or ws 2 0) (get_or ws 3 0)) (unless-passed whole 1 0 a.0);
      board = unless-passed (board_right ws) 2 0 b.0;
      items = b.1;
    }

-- ---- line by line

-- one part of the sizes' words after another
sizes-append : {ws : List ℕ} {k : ℕ} → Threes ws k → (us : List ℕ) → sizes_of (ws ++ us) ≡ sizes_of ws ++ sizes_of us
unfolding sizes_of
sizes-append no_size us = refl
sizes-append (one_size {a = a} {b = b} {c = c} t) us = ap (λ (l : List Size). size a b c ∷ l) (sizes-append t us)

-- a size for each three words
sizes-length : {ws : List ℕ} {k : ℕ} → Threes ws k → length (sizes_of ws) ≡ k
unfolding sizes_of
sizes-length no_size = refl
sizes-length (one_size t) = ap suc (sizes-length t)

-- one part of the types' words after another
items-append : {ws : List ℕ} {k : ℕ} → Fours ws k → (us : List ℕ) → items_of (ws ++ us) ≡ items_of ws ++ items_of us
unfolding items_of
items-append no-type us = refl
items-append (one_type {a = a} {b = b} {c = c} {d = d} t) us = ap (λ (l : List Item). item a b c d ∷ l) (items-append t us)

-- a type for each four words
items-length : {ws : List ℕ} {k : ℕ} → Fours ws k → length (items_of ws) ≡ k
unfolding items_of
items-length no-type = refl
items-length (one_type t) = ap suc (items-length t)

-- a test over one size more
all_more : (zs : List Size) (z : Size) → all size_right zs ≡ true → size_right z ≡ true → all size_right (zs ++ (z ∷ [])) ≡ true
unfolding all
all_more [] z h e = rw (e, all)
all_more (y ∷ zs) z h e =
    let p = and_parts (size_right y) (all size_right zs) (rw all_cons at h) in
    rw all_cons (and_both (size_right y) (all size_right (zs ++ (z ∷ []))) p.0 (all_more zs z p.1 e))

-- line 1
pub job-first : (vs : List ℕ) → InLimits job_line.limits vs → SizesSoFar 0 vs
unfolding head_right sizes_of all
job-first [] h = absurd h
job-first (a ∷ []) h = absurd h.2
job-first (a ∷ b ∷ []) h = absurd h.2.2
job-first (a ∷ b ∷ c ∷ []) h = absurd h.2.2.2
job-first (a ∷ b ∷ c ∷ n ∷ []) h = absurd h.2.2.2.2
job-first (a ∷ b ∷ c ∷ n ∷ g ∷ []) h =
    let p = within-limits 2 3 a (omega arith) (omega arith) in
    let q = within-limits 0 1 b (omega arith) (omega arith) in
    let r = within-limits 1 max_sizes c (omega arith) (omega arith) in
    let t = within-limits 1 max_types n (omega arith) (omega arith) in
    let u = within-limits 0 max_blade g (omega arith) (omega arith) in
    record { size = refl; head = rw (p, q, r, t, u); sizes = refl }
job-first (a ∷ b ∷ c ∷ n ∷ g ∷ v ∷ vs) h = absurd h.2.2.2.2.2

-- further words leave the head as it is
pub head-append : (ws us : List ℕ) → words_of_head ≤ length ws → head_right (ws ++ us) ≡ head_right ws
unfolding head_right
head-append ws us h =
    let a : (i : ℕ) → i < words_of_head → get_or (ws ++ us) i 0 ≡ get_or ws i 0 = λ i l. get_or-append ws us 0 i (omega arith) in
    rw (a 0 (omega arith), a 1 (omega arith), a 2 (omega arith), a 3 (omega arith), a 4 (omega arith))

-- and so the numbers of sizes and of types
pub sizes-same : (ws us : List ℕ) → words_of_head ≤ length ws → board_sizes (ws ++ us) ≡ board_sizes ws
sizes-same ws us h = get_or-append ws us 0 2 (omega arith)

pub types-append : (ws us : List ℕ) → words_of_head ≤ length ws → types_of (ws ++ us) ≡ types_of ws
types-append ws us h = get_or-append ws us 0 3 (omega arith)

-- the words of the sizes, among them all
abbrev pub size_words : List ℕ → List ℕ
size_words ws = take (words_of_size * board_sizes ws) (drop words_of_head ws)

-- and those of the types
abbrev pub type_words : List ℕ → List ℕ
type_words ws = drop (words_before (board_sizes ws)) ws

-- words after the sizes leave head and sizes as they are
pub size_words-append : (ws us : List ℕ) → words_before (board_sizes ws) ≤ length ws → size_words (ws ++ us) ≡ size_words ws
size_words-append ws us h =
    let l : length (drop words_of_head ws) ≡ length ws - words_of_head = length-drop words_of_head ws in
    rw (sizes-same ws us (omega arith), drop-append-le words_of_head ws us (omega arith))
    (take-append-le (words_of_size * board_sizes ws) (drop words_of_head ws) us (omega arith))

pub type_words-append : (ws us : List ℕ) → words_before (board_sizes ws) ≤ length ws → type_words (ws ++ us) ≡ type_words ws ++ us
type_words-append ws us h =
    rw (sizes-same ws us (omega arith)) (drop-append-le (words_before (board_sizes ws)) ws us h)

pub board-append : (ws us : List ℕ) → words_before (board_sizes ws) ≤ length ws → board_right (ws ++ us) ≡ board_right ws
unfolding board_right job_of
board-append ws us h =
    rw (head-append ws us (omega arith))
    (ap (λ (l : List ℕ). head_right ws && all size_right (sizes_of l)) (size_words-append ws us h))

-- line 10
pub size-next : (i j : ℕ) (ws vs : List ℕ) → SizesSoFar j ws → InLimits (size_line i).limits vs → SizesSoFar (suc j) (ws ++ vs)
unfolding sizes_of size_right
size-next i j ws [] s h = absurd h
size-next i j ws (a ∷ []) s h = absurd h.2
size-next i j ws (a ∷ b ∷ []) s h = absurd h.2.2
size-next i j ws (a ∷ b ∷ c ∷ []) s h =
    let size' = s.size in
    let l : length (drop words_of_head ws) ≡ words_of_size * j = length-drop words_of_head ws ∙ omega arith in
    let vs : List ℕ = a ∷ b ∷ c ∷ [] in
    let e = ap sizes_of (drop-append-le words_of_head ws vs (omega arith)) ∙ sizes-append (threes j (drop words_of_head ws) l) vs in
    let p = within-limits 1 max_side a (omega arith) (omega arith) in
    let q = within-limits 1 max_side b (omega arith) (omega arith) in
    let r = within-limits 1 max_cost c (omega arith) (omega arith) in
    let good : size_right (size a b c) ≡ true = rw (p, q, r) in
    record {
      size = rw (length-append ws vs) (omega arith);
      head = head-append ws vs (omega arith) ∙ s.head;
      sizes = rw e (all_more (sizes_of (drop words_of_head ws)) (size a b c) s.sizes good);
    }
size-next i j ws (a ∷ b ∷ c ∷ u ∷ vs) s h = absurd h.2.2.2

-- all lines 10
pub sizes-whole : (ws : List ℕ) → SizesSoFar (board_sizes ws) ws → JobSoFar 0 ws
unfolding board_right job_of items_of lowest
sizes-whole ws s =
    let size' = s.size in
    let l : length (drop words_of_head ws) ≡ words_of_size * board_sizes ws = length-drop words_of_head ws ∙ omega arith in
    let t : size_words ws ≡ drop words_of_head ws = take_all (words_of_size * board_sizes ws) (drop words_of_head ws) (omega arith) in
    let d : type_words ws ≡ [] = drop_of_length-le ws {i = words_before (board_sizes ws)} (omega arith) in
    record {
      size = omega arith;
      board = and_both (head_right ws) (all size_right (sizes_of (size_words ws))) s.head (rw t s.sizes);
      items = rw d refl;
    }

-- line 2
pub job-next : (i k : ℕ) (ws vs : List ℕ) → JobSoFar k ws → InLimits (item_line i).limits vs → JobSoFar (suc k) (ws ++ vs)
unfolding items_of item_right
job-next i k ws [] j h = absurd h
job-next i k ws (a ∷ []) j h = absurd h.2
job-next i k ws (a ∷ b ∷ []) j h = absurd h.2.2
job-next i k ws (a ∷ b ∷ d ∷ []) j h = absurd h.2.2.2
job-next i k ws (a ∷ b ∷ d ∷ v ∷ []) j h =
    let size' = j.size in
    let l : length (type_words ws) ≡ words_of_item * k = length-drop (words_before (board_sizes ws)) ws ∙ omega arith in
    let vs : List ℕ = a ∷ b ∷ d ∷ v ∷ [] in
    let e = ap items_of (type_words-append ws vs (omega arith)) ∙ items-append (fours k (type_words ws) l) vs in
    let p = within-limits 1 max_side a (omega arith) (omega arith) in
    let q = within-limits 1 max_side b (omega arith) (omega arith) in
    let r = within-limits 1 max_pieces d (omega arith) (omega arith) in
    let s = within-limits 0 1 v (omega arith) (omega arith) in
    let good : not (item_right (item a b d v)) ≡ false = rw (p, q, r, s) in
    record {
      size = length-append ws vs ∙ omega (arith, sizes-same ws vs (omega arith));
      board = board-append ws vs (omega arith) ∙ j.board;
      items = rw e (lowest-more 2 bad_item 1 (items_of (type_words ws)) (item a b d v) j.items good);
    }
job-next i k ws (a ∷ b ∷ d ∷ v ∷ u ∷ vs) j h = absurd h.2.2.2.2

-- the words hold as many types as they say, 1 to 40
pub job-types : (ws : List ℕ) → JobWhole ws → length (job_of ws).items ≡ types_of ws
unfolding job_of
job-types ws j =
    let size' = j.size in
    items-length (fours (types_of ws) (type_words ws) (length-drop (words_before (board_sizes ws)) ws ∙ omega arith))

-- and as many sizes, 1 to 6
pub job-sizes : (ws : List ℕ) → JobWhole ws → length (job_of ws).sizes ≡ board_sizes ws
unfolding job_of
job-sizes ws j =
    let size' = j.size in
    let l : length (drop words_of_head ws) ≡ length ws - words_of_head = length-drop words_of_head ws in
    sizes-length (threes (board_sizes ws) (size_words ws) (length-take-le (words_of_size * board_sizes ws) (drop words_of_head ws) (omega arith)))

-- the head of a board that is within its limits
pub board-head : (ws : List ℕ) → board_right ws ≡ true → head_right ws ≡ true
unfolding board_right
board-head ws h = (and_parts (head_right ws) (all size_right (job_of ws).sizes) h).0

-- and its sizes
pub board-stock : (ws : List ℕ) → board_right ws ≡ true → all size_right (sizes_of (size_words ws)) ≡ true
unfolding board_right job_of
board-stock ws h = (and_parts (head_right ws) (all size_right (sizes_of (size_words ws))) h).1

-- 1 to 6 sizes and 1 to 40 types
pub record HeadLimits (ws : List ℕ) : Type 0 where
  pub some_size : 1 ≤ board_sizes ws
  pub few-sizes : board_sizes ws ≤ max_sizes
  pub some-type : 1 ≤ types_of ws
  pub few-types : types_of ws ≤ max_types

pub head-limits : (ws : List ℕ) → head_right ws ≡ true → HeadLimits ws
unfolding head_right
head-limits ws h =
    let before = within 2 3 (get_or ws 0 0) && within 0 1 (get_or ws 1 0) in
    let sizes = within 1 max_sizes (get_or ws 2 0) in
    let types = within 1 max_types (get_or ws 3 0) in
    let p = and_parts (before && sizes) types (and_parts (before && sizes && types) (within 0 max_blade (get_or ws 4 0)) h).0 in
    let s = within-parts 1 max_sizes (get_or ws 2 0) (and_parts before sizes p.0).1 in
    let t = within-parts 1 max_types (get_or ws 3 0) p.1 in
    record { some_size = s.0; few-sizes = s.1; some-type = t.0; few-types = t.1 }

pub board-types : (ws : List ℕ) → board_right ws ≡ true → (1 ≤ types_of ws) × (types_of ws ≤ max_types)
board-types ws h = let l = head-limits ws (board-head ws h) in (l.some-type, l.few-types)

pub board-sizes : (ws : List ℕ) → board_right ws ≡ true → (1 ≤ board_sizes ws) × (board_sizes ws ≤ max_sizes)
board-sizes ws h = let l = head-limits ws (board-head ws h) in (l.some_size, l.few-sizes)
