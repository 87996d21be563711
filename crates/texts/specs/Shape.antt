-- Document 01, "Texts": the kinds of lines, the limits of their numbers, and the line row of one line, 1, 2 and 19 (request One).
use Rattle.std.specs.Prelude.{ℕ, ◌+◌, ◌-◌, ◌*◌, Bool, true, false, not, ◌&&◌, List, [], ◌∷◌, eqb, length, get_or, drop}
use Rattle.std.proofs.Math.Option.{Option, none, some}
use Rattle.job.specs.Sizes.{max_blade, max_sizes, max_cost, max_residuals}
use Rattle.job.specs.Verdict.{Verdict, refuse, ◌then◌, refuse_if, within}
use Rattle.job.specs.Job.{job_of, permitted, max_side, max_types, max_pieces}
use Rattle.plan.specs.Prices.{max_price}
use Rattle.columns.specs.Group.{limit}
use Rattle.texts.specs.JobLines.{board_sizes, types_of}

-- the lowest and the highest value of a number
pub record Limit : Type 0 where
  pub low : ℕ
  pub high : ℕ

infix 70 ◌to◌
abbrev pub ◌to◌ : ℕ → ℕ → Limit
low to high = record { low = low; high = high }

-- request Five, "these three have no limits of their own": any number that nine columns hold
abbrev pub unlimited : Limit
unlimited = 0 to (limit - 1)

-- a line that is admitted next: its kind, its running number where it has one, the limits of its other numbers in order, and whether these others
-- turn nothing but what may be turned
pub record Shape : Type 0 where
  pub kind : ℕ
  pub running : List ℕ
  pub limits : List Limit
  pub permits : List ℕ → Bool

-- a kind that turns nothing
abbrev pub shape : ℕ → List ℕ → List Limit → Shape
shape kind running limits = record { kind = kind; running = running; limits = limits; permits = λ _. true }

-- request One, lines 3 and 7 "end with the turn": a kind that does. Of its numbers after the kind the type stands at place i and the turn at place t, from
-- 0, and the job of the words ws has to permit that position
abbrev pub turning : ℕ → List Limit → List ℕ → ℕ → ℕ → Shape
turning kind limits ws i t =
    record {
      kind = kind;
      running = [];
      limits = limits;
      permits = λ vs. permitted (job_of ws) (2 * get_or vs i 0 + get_or vs t 0);
    }

-- kind 1: stages (2 or 3), exact (1 or 0), t, n, b; request Four, "b from 0 to 20 mm, as the last number of line 1"; request Six, it "gives their number
-- t (1 to 6, else 2) in place of W and H"
abbrev pub job_line : Shape
job_line = shape 1 [] (2 to 3 ∷ 0 to 1 ∷ 1 to max_sizes ∷ 1 to max_types ∷ 0 to max_blade ∷ [])

-- kind 10 (request Six): size, W, H, cost; "lines of kind 10 follow it in order", and size j is the next
abbrev pub size_line : ℕ → Shape
size_line j = shape 10 (j ∷ []) (1 to max_side ∷ 1 to max_side ∷ 1 to max_cost ∷ [])

-- kind 2: type, width, height, demand, leave; type i is the next in order; request One, "1 if the type may be turned, 0 if not"
abbrev pub item_line : ℕ → Shape
item_line i = shape 2 (i ∷ []) (1 to max_side ∷ 1 to max_side ∷ 1 to max_pieces ∷ 0 to 1 ∷ [])

-- kind 3 of a job of the words ws: plate, item, count, the plate's width, height and stage, turn; the greatest plate is 2,047, one below the number of
-- plate types. Request Five: "these three have no limits of their own, and the turn comes last"
abbrev pub plan_line : List ℕ → Shape
plan_line ws =
    turning 3
    (0 to max_residuals ∷ 1 to types_of ws ∷ 1 to max_pieces ∷ unlimited ∷ unlimited ∷ unlimited ∷ 0 to 1 ∷ [])
    ws 1 6

-- kind 4: D, n, m
abbrev pub prices_line : Shape
prices_line = shape 4 [] (1 to max_price ∷ 1 to max_types ∷ 0 to max_residuals ∷ [])

-- kind 5: type, price; kind 6: plate type, price; each in order. Request Six: the plate types of lines 6 are plate numbers, from t on
abbrev pub item_price_line : ℕ → Shape
item_price_line i = shape 5 (i ∷ []) (0 to max_price ∷ [])

abbrev pub plate_price_line : ℕ → Shape
plate_price_line j = shape 6 (j ∷ []) (0 to max_price ∷ [])

-- kind 7 of a job of the words ws: board, size, strip, stack, place, type, x, y, turn; request Six, a placement "names its size after the board", 0
-- to t−1
abbrev pub layout_line : List ℕ → Shape
layout_line ws =
    turning 7
    (1 to max_pieces
    ∷ 0 to (board_sizes ws - 1)
    ∷ 1 to max_pieces
    ∷ 1 to max_pieces
    ∷ 1 to max_pieces
    ∷ 1 to types_of ws
    ∷ 0 to max_side
    ∷ 0 to max_side
    ∷ 0 to 1
    ∷ [])
    ws 5 8

-- the second list begins with the first
unfoldable pub begins : List ℕ → List ℕ → Bool
begins [] ns = true
begins (m ∷ ms) [] = false
begins (m ∷ ms) (n ∷ ns) = eqb m n && begins ms ns

-- the numbers of a line are of the shape: its kind, its running number, and as many others as it has limits
unfoldable pub formed : Shape → List ℕ → Bool
formed s ns =
    begins (s.kind ∷ s.running) ns && eqb (length ns) (1 + length s.running + length s.limits)

-- each value is within its limits
unfoldable pub each_within : List Limit → List ℕ → Bool
each_within [] ns = true
each_within (l ∷ ls) [] = true
each_within (l ∷ ls) (n ∷ ns) = within l.low l.high n && each_within ls ns

-- the numbers of a line after its kind and its running number
unfoldable pub values : Shape → List ℕ → List ℕ
values s ns = drop (1 + length s.running) ns

-- the numbers of line L against the shapes that are admitted: 1 where they are of none, else 2 where a value is outside its limits; then request One's 19,
-- "after 2, for a turn of 1 on line 3 or 7 for a square type or one without leave"
unfoldable pub numbers_row : ℕ → List Shape → List ℕ → Verdict
numbers_row line [] ns = refuse 1 line
numbers_row line (s ∷ ss) ns =
    elim (formed s ns) [
      | true ↦
          refuse_if (not (each_within s.limits (values s ns))) 2 line
          then refuse_if (not (s.permits (values s ns))) 19 line
      | false ↦ numbers_row line ss ns
    ]

-- the line row of line L, whose numbers are missing where its bytes are no line
unfoldable pub line_row : ℕ → List Shape → Option (List ℕ) → Verdict
line_row line ss none = refuse 1 line
line_row line ss (some ns) = numbers_row line ss ns
