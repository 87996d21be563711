-- The position of a line, on plain values: its number is small, its type is the job's, and what is said of the position read is said of the line's.
use mathlib.Core.Path.{◌≡◌, sym, ap, ◌∙◌, subst}
use Prim.Native.Nat.{ℕ, ◌+◌, ◌*◌, ◌^◌, ◌≤◌, ◌<◌}
use mathlib.Core.Bool.{Bool, not}
use mathlib.Core.List.{List}
use native.Mathlib.Omega.{arith}
use lib.ListN.{length, get_or}
use Rattle.job.specs.declared.item.Position.{Position}
use Rattle.job.specs.Sizes.{max_types, words_of_placement, job_size}
use Rattle.job.specs.Verdict.{pass}
use Rattle.job.specs.Job.{Job, type_of, position_at, permitted, job_of, job_words}
use Rattle.job.proofs.Positions.{type-of}
use Rattle.job.proofs.CodeAdmission.{passed_length, passed-few}
use Rattle.job.proofs.CodeItems.{items-length}
use Rattle.layouts.specs.Placement.{Placement}
use Rattle.layouts.specs.Lines.{Line, rows_of}
use Rattle.placement.specs.PlacementRead.{no_placement, line_at}
use Rattle.placement.proofs.Rows.{row_read}
use Rattle.layouts_lines.specs.LineSums.{OfType, OfTypes}

-- a line that was read is of a type as the lines are
pub typed-read : {n lines c : ℕ} {ws : List ℕ} {l : Line} → OfTypes n lines ws → c < lines → l ≡ line_at ws c → OfType n l
typed-read {n} {lines} {c} types h e = subst (OfType n) (sym e) (types.each c h)

-- the number of a line of one of at most 40 item types
pub number_small : {n : ℕ} {l : Line} → OfType n l → n ≤ max_types → 2 * l.type + l.turned < 2 ^ 16
number_small o few = omega (arith, o.to_last, o.turn)

-- the words of its type
pub position-there : (job : List ℕ) {l : Line} {q : ℕ} → job_words job ≡ pass → OfType (length (job_of job).items) l → q ≡ 2 * l.type + l.turned → (1 ≤ type_of q) × (job_size (get_or job 2 0) (type_of q) ≤ length job)
position-there job {l} j o e =
    let w : length job ≡ job_size (get_or job 2 0) (get_or job 3 0) = passed_length job j in
    let n : length (job_of job).items ≡ get_or job 3 0 = items-length job (get_or job 3 0) w in
    rw (e, type-of l.type l.turned o.turn) (o.from_one, omega (arith, o.to_last))

-- a job whose words passed has at most 40
pub few-types : (job : List ℕ) → job_words job ≡ pass → length (job_of job).items ≤ max_types
few-types job j = rw (items-length job (get_or job 3 0) (passed_length job j)) (passed-few job j)

-- the line behind c others
pub position-tested : (job : Job) (ws : List ℕ) (lines c : ℕ) → length ws ≡ words_of_placement * lines → c < lines → {p : Position} {q : ℕ} {l : Line} {b : Bool} → p ≡ position_at job q → q ≡ l.placement.item → l ≡ line_at ws c → not p.allowed ≡ b → not (permitted job (get_or (rows_of ws) c no_placement).item) ≡ b
position-tested job ws lines c w h e i f t =
    ap (λ (r : Placement). not (permitted job r.item)) (row_read ws c (omega arith))
    ∙ ap (λ (l : Line). not (permitted job l.placement.item)) (sym f)
    ∙ ap (λ (q : ℕ). not (permitted job q)) (sym i)
    ∙ ap (λ (p : Position). not p.allowed) (sym e)
    ∙ t
