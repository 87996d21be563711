-- The line row of job words and the job row pass exactly where the words are right and the job fits.
use Prim.Native.Nat.{ℕ, zero, suc, ◌+◌, ◌*◌, ◌≤◌, ◌<◌}
use native.Mathlib.Omega.{arith}
use mathlib.Core.Path.{◌≡◌, sym, ◌∙◌, ap}
use mathlib.Core.Logic.{◌↔◌, ◌⊎◌, inl, inr}
use mathlib.Core.Bool.{Bool, true, false, not, ◌&&◌}
use mathlib.Core.List.{List}
use lib.Dec.{ltb, eqb}
use lib.ListN.{length, get_or}
use borrow.Author.Tests.{eqb-true, eq-eqb, ltb-false, le-ltb, not-false}
use Rattle.job.specs.Lists.{all}
use Rattle.job.specs.declared.size.Size.{Size}
use Rattle.job.specs.declared.item.Item.{Item}
use Rattle.job.specs.Sizes.{job_size}
use Rattle.job.specs.declared.item.Position.{Position}
use Rattle.job.specs.Verdict.{pass, ◌then◌, refuse_if, lowest, within}
use Rattle.job.specs.Job.{Job, no_size, size_at, no_item, item_at, unturned, turned, position_at, fits_in, fits, job_of, side, head_right, size_right, board_right, item_right, job_words, larger, demanded, admission, max_side, max_blade, max_sizes, max_cost, max_types, max_pieces}
use Rattle.job.specs.Admitted.{Between, ItemLimits, SizeLimits, WordsRight, Fits, Fitting, AdmittedWords, Admitted, Stocked, Sided}
use Rattle.job.proofs.Tests.{and_left, and_right, and_both, or-true, true-or}
use Rattle.job.proofs.Lists.{any_found, any_at, all-each, each_all}
use Rattle.job.proofs.Decides.{Decides, decides-self, decides-le, decides_and, decides-within}
use Rattle.job.proofs.Verdicts.{then-first, then-second, then-both, refuse_if-pass, refuse_if-false, lowest-good, lowest-pass}
use Rattle.job.proofs.SizeWords.{sizes-length}
use Rattle.job.proofs.ItemWords.{items-length}
use Rattle.job.proofs.Positions.{position-unturned, position-turned, permitted-by, permitted-lies, lies-permitted}

-- the limits of an item type, tested
pub item-limits : (it : Item) → item_right it ≡ true → ItemLimits it
unfolding item_right
item-limits it h =
    let a = side it.width in
    let b = side it.height in
    let c = within 1 max_pieces it.demand in
    let d = within 0 1 it.leave in
    let abc = and_left (a && b && c) d h in
    let ab = and_left (a && b) c abc in
    record {
      width-limits = (decides-within 1 max_side it.width).0 (and_left a b ab);
      height-limits = (decides-within 1 max_side it.height).0 (and_right a b ab);
      demand-limits = (decides-within 1 max_pieces it.demand).0 (and_right (a && b) c abc);
      leave-limits = (decides-within 0 1 it.leave).0 (and_right (a && b && c) d h);
    }

pub item-limits-test : (it : Item) → ItemLimits it → item_right it ≡ true
unfolding item_right
item-limits-test it l =
    rw (
      (decides-within 1 max_side it.width).1 l.width-limits,
      (decides-within 1 max_side it.height).1 l.height-limits,
      (decides-within 1 max_pieces it.demand).1 l.demand-limits,
      (decides-within 0 1 it.leave).1 l.leave-limits,
    )

-- the limits of a size, tested
pub size-limits : (z : Size) → size_right z ≡ true → SizeLimits z
unfolding size_right
size-limits z h =
    let a = side z.width in
    let b = side z.height in
    let c = within 1 max_cost z.cost in
    let ab = and_left (a && b) c h in
    record {
      width-limits = (decides-within 1 max_side z.width).0 (and_left a b ab);
      height-limits = (decides-within 1 max_side z.height).0 (and_right a b ab);
      cost-limits = (decides-within 1 max_cost z.cost).0 (and_right (a && b) c h);
    }

pub size-limits-test : (z : Size) → SizeLimits z → size_right z ≡ true
unfolding size_right
size-limits-test z l =
    rw (
      (decides-within 1 max_side z.width).1 l.width-limits,
      (decides-within 1 max_side z.height).1 l.height-limits,
      (decides-within 1 max_cost z.cost).1 l.cost-limits,
    )

-- the limits of the words of the head, tested
abbrev pub HeadLimits : List ℕ → Type 0
HeadLimits ws =
    Between 2 3 (get_or ws 0 0)
    × Between 0 1 (get_or ws 1 0)
    × Between 1 max_sizes (get_or ws 2 0)
    × Between 1 max_types (get_or ws 3 0)
    × Between 0 max_blade (get_or ws 4 0)

pub head-limits : (ws : List ℕ) → head_right ws ≡ true → HeadLimits ws
unfolding head_right
head-limits ws e =
    let a = within 2 3 (get_or ws 0 0) in
    let b = within 0 1 (get_or ws 1 0) in
    let c = within 1 max_sizes (get_or ws 2 0) in
    let n = within 1 max_types (get_or ws 3 0) in
    let k = within 0 max_blade (get_or ws 4 0) in
    let abcn = and_left (a && b && c && n) k e in
    let abc = and_left (a && b && c) n abcn in
    let ab = and_left (a && b) c abc in (
      (decides-within 2 3 (get_or ws 0 0)).0 (and_left a b ab),
      (decides-within 0 1 (get_or ws 1 0)).0 (and_right a b ab),
      (decides-within 1 max_sizes (get_or ws 2 0)).0 (and_right (a && b) c abc),
      (decides-within 1 max_types (get_or ws 3 0)).0 (and_right (a && b && c) n abcn),
      (decides-within 0 max_blade (get_or ws 4 0)).0 (and_right (a && b && c && n) k e),
    )

pub head-limits-test : (ws : List ℕ) → HeadLimits ws → head_right ws ≡ true
unfolding head_right
head-limits-test ws l =
    rw (
      (decides-within 2 3 (get_or ws 0 0)).1 l.0,
      (decides-within 0 1 (get_or ws 1 0)).1 l.1,
      (decides-within 1 max_sizes (get_or ws 2 0)).1 l.2,
      (decides-within 1 max_types (get_or ws 3 0)).1 l.3,
      (decides-within 0 max_blade (get_or ws 4 0)).1 l.4,
    )

-- the limits of every size, tested
abbrev pub EachSize : Job → Type 0
EachSize job = (j : ℕ) → j < length job.sizes → SizeLimits (size_at job j)

-- the limits of the head and of the sizes, tested
pub board-limits : (ws : List ℕ) → board_right ws ≡ true → HeadLimits ws × EachSize (job_of ws)
unfolding board_right size_at
board-limits ws e =
    let each = all size_right (job_of ws).sizes in
    (head-limits ws (and_left (head_right ws) each e), λ j p. size-limits _ (all-each size_right (job_of ws).sizes no_size (and_right (head_right ws) each e) j p))

pub board-limits-test : (ws : List ℕ) → HeadLimits ws → EachSize (job_of ws) → board_right ws ≡ true
unfolding board_right size_at
board-limits-test ws l each =
    and_both (head_right ws) (all size_right (job_of ws).sizes) (head-limits-test ws l) (each_all size_right (job_of ws).sizes no_size (λ j p. size-limits-test _ (each j p)))

-- a check over the item types passes where no type fails its test, the types numbered from 1
pub types-pass :
    (number : ℕ) (bad : Item → Bool) (job : Job)
    → ((i : ℕ) → 1 ≤ i → i ≤ length job.items → bad (item_at job i) ≡ false)
    → lowest number (λ _ it. bad it) 1 job.items ≡ pass
unfolding item_at
types-pass number bad job f = lowest-pass number (λ _ it. bad it) no_item 1 job.items (λ i p. f (suc i) (omega arith) p)

pub types-good :
    (number : ℕ) (bad : Item → Bool) (job : Job)
    → lowest number (λ _ it. bad it) 1 job.items ≡ pass
    → (i : ℕ)
    → 1 ≤ i
    → i ≤ length job.items
    → bad (item_at job i) ≡ false
unfolding item_at
types-good number bad job h zero p q = absurd (omega arith)
types-good number bad job h (suc i) p q = lowest-good number (λ _ it. bad it) no_item 1 job.items h i q

-- words as long as their t and n say hold t sizes
whole-sizes : (ws : List ℕ) → length ws ≡ job_size (get_or ws 2 0) (get_or ws 3 0) → length (job_of ws).sizes ≡ get_or ws 2 0
whole-sizes ws whole = sizes-length ws (omega arith)

-- where neither 1 nor 2 refuses them, the words are right
pub words_right : (ws : List ℕ) → job_words ws ≡ pass → WordsRight ws
unfolding job_words
words_right ws h =
    let size = refuse_if (not (eqb (length ws) (job_size (get_or ws 2 0) (get_or ws 3 0)))) 1 0 in
    let values = refuse_if (not (board_right ws)) 2 0 in
    let types = lowest 2 (λ _ it. not (item_right it)) 1 (job_of ws).items in
    let later = then-second size (values then types) h in
    let whole = eqb-true (length ws) (job_size (get_or ws 2 0) (get_or ws 3 0)) (not-false _ (refuse_if-pass _ 1 0 (then-first size (values then types) h))) in
    let (l, each) = board-limits ws (not-false _ (refuse_if-pass _ 2 0 (then-first values types later))) in
    let good = types-good 2 (λ it. not (item_right it)) (job_of ws) (then-second values types later) in
    record {
      whole = whole;
      stages-limits = l.0;
      exact-limits = l.1;
      sizes-limits = l.2;
      types-limits = l.3;
      blade-limits = l.4;
      each-size = λ j p. each j (rw (whole-sizes ws whole) p);
      each_item = λ i p q. item-limits (item_at (job_of ws) i) (not-false _ (good i p (rw (items-length ws (get_or ws 3 0) whole) q)));
    }

-- and words that are right are not refused
pub right-words : (ws : List ℕ) → WordsRight ws → job_words ws ≡ pass
unfolding job_words
right-words ws r =
    rw (
      eq-eqb (length ws) (job_size (get_or ws 2 0) (get_or ws 3 0)) r.whole,
      board-limits-test ws (r.stages-limits, r.exact-limits, r.sizes-limits, r.types-limits, r.blade-limits) (λ j p. r.each-size j (rw (whole-sizes ws r.whole) at p)),
    )
    (types-pass 2 (λ it. not (item_right it)) (job_of ws)
    (λ i p q. ap not (item-limits-test (item_at (job_of ws) i) (r.each_item i p (rw (items-length ws (get_or ws 3 0) r.whole) at q)))))

-- a permitted position that fits a size, tested
fits-decides : (p : Position) (z : Size) → Decides (fits_in p z) (((p.allowed ≡ true) × (p.width ≤ z.width)) × (p.height ≤ z.height))
unfolding fits_in
fits-decides p z = decides_and (decides_and (decides-self p.allowed) (decides-le p.width z.width)) (decides-le p.height z.height)

-- position q fits some size
abbrev FitsSome : Job → ℕ → Type 0
FitsSome job q = (j : ℕ) × (j < length job.sizes) × Fits job q j

fits-at : (job : Job) (q : ℕ) (p : Position) → position_at job q ≡ p → fits job p ≡ true → FitsSome job q
unfolding fits size_at
fits-at job q p e h =
    let (j, b, f) = any_found (fits_in p) job.sizes no_size h in
    let d = (fits-decides p (get_or job.sizes j no_size)).0 f in (
      j,
      b,
      record {
        allowed = permitted-lies job q (ap (λ (r : Position). r.allowed) e ∙ d.0.0);
        in-width = omega (arith, ap (λ (r : Position). r.width) e, d.0.1);
        in-height = omega (arith, ap (λ (r : Position). r.height) e, d.1);
      },
    )

at-fits : (job : Job) (q : ℕ) (p : Position) → position_at job q ≡ p → FitsSome job q → fits job p ≡ true
unfolding fits size_at
at-fits job q p e (j, b, f) =
    any_at (fits_in p) job.sizes j no_size b
    ((fits-decides p (get_or job.sizes j no_size)).1 (
      (sym (ap (λ (r : Position). r.allowed) e) ∙ lies-permitted job q f.allowed, omega (arith, ap (λ (r : Position). r.width) e, f.in-width)),
      omega (arith, ap (λ (r : Position). r.height) e, f.in-height),
    ))

-- where neither 3 nor 4 refuses it, the job fits
pub job-fitting : (job : Job) → admission job ≡ pass → Fitting job
unfolding admission larger
job-fitting job h =
    let types = lowest 3 (λ _ it. larger job it) 1 job.items in
    let sum = refuse_if (ltb max_pieces (demanded job)) 4 0 in
    let good = types-good 3 (larger job) job (then-first types sum h) in
    record {
      in-board = λ i p q. go i p q (or-true _ _ (not-false _ (good i p q)));
      few-demanded = ltb-false max_pieces (demanded job) (refuse_if-pass _ 4 0 (then-second types sum h));
    }
  where
    go :
        (i : ℕ)
        → 1 ≤ i
        → i ≤ length job.items
        → (fits job (unturned (item_at job i)) ≡ true) ⊎ (fits job (turned (item_at job i)) ≡ true)
        → (j : ℕ) × (j < length job.sizes) × (Fits job (2 * i) j ⊎ Fits job (2 * i + 1) j)
    go i p q (inl f) = let (j, b, g) = fits-at job (2 * i) (unturned (item_at job i)) (position-unturned job i p q) f in (j, b, inl g)
    go i p q (inr f) = let (j, b, g) = fits-at job (2 * i + 1) (turned (item_at job i)) (position-turned job i p q) f in (j, b, inr g)

-- and a job that fits is not refused
pub fitting-job : (job : Job) → Fitting job → admission job ≡ pass
unfolding admission larger
fitting-job job f =
    then-both (lowest 3 (λ _ it. larger job it) 1 job.items) (refuse_if (ltb max_pieces (demanded job)) 4 0)
    (types-pass 3 (larger job) job (λ i p q. ap not (true-or _ _ (go i p q (f.in-board i p q)))))
    (refuse_if-false _ 4 0 (le-ltb max_pieces (demanded job) f.few-demanded))
  where
    go :
        (i : ℕ)
        → 1 ≤ i
        → i ≤ length job.items
        → (j : ℕ) × (j < length job.sizes) × (Fits job (2 * i) j ⊎ Fits job (2 * i + 1) j)
        → (fits job (unturned (item_at job i)) ≡ true) ⊎ (fits job (turned (item_at job i)) ≡ true)
    go i p q (j, b, inl g) = inl (at-fits job (2 * i) (unturned (item_at job i)) (position-unturned job i p q) (j, b, g))
    go i p q (j, b, inr g) = inr (at-fits job (2 * i + 1) (turned (item_at job i)) (position-turned job i p q) (j, b, g))

-- the words pass both rows exactly where they are those of an admitted job
pub admitted-words : (ws : List ℕ) → ((job_words ws then admission (job_of ws)) ≡ pass) ↔ AdmittedWords ws
admitted-words ws = (
  λ h. record {
    right = words_right ws (then-first (job_words ws) (admission (job_of ws)) h);
    fitting = job-fitting (job_of ws) (then-second (job_words ws) (admission (job_of ws)) h);
  },
  λ a. then-both (job_words ws) (admission (job_of ws)) (right-words ws a.right) (fitting-job (job_of ws) a.fitting),
)

-- the job of such words is admitted
pub admitted-job : (ws : List ℕ) → AdmittedWords ws → Admitted (job_of ws)
unfolding job_of
admitted-job ws a =
    let t = whole-sizes ws a.right.whole in
    let n = items-length ws (get_or ws 3 0) a.right.whole in
    record {
      sizes-limits = rw t a.right.sizes-limits;
      each-size = λ j p. a.right.each-size j (rw t at p);
      types-limits = rw n a.right.types-limits;
      blade-limits = a.right.blade-limits;
      each_item = λ i p q. a.right.each_item i p (rw n at q);
      fitting = a.fitting;
    }

-- the permitted positions of an admitted job have sides of at least 1
pub admitted-sided : (job : Job) → Admitted job → Sided job
unfolding unturned turned
admitted-sided job a =
    permitted-by job (λ p. (1 ≤ p.width) × (1 ≤ p.height))
    (λ i p q.
    let l = a.each_item i p q in
    ((l.width-limits.0, l.height-limits.0), (l.height-limits.0, l.width-limits.0)))

-- an admitted job has as many sizes as may be
pub admitted-stocked : (job : Job) → Admitted job → Stocked job
admitted-stocked job a = a.sizes-limits
