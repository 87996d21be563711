-- The columns of a number that is known: a column after another is compared with its own.
use Prim.Native.Nat.{ℕ, zero, suc, ◌+◌, ◌/◌, ◌%◌, ◌≤◌, ◌<◌}
use native.Mathlib.Nat.{add-suc, add-zero}
use native.Mathlib.Omega.{arith}
use mathlib.Core.Path.{◌≡◌, sym, ap, ◌∙◌}
use mathlib.Core.List.{List, [], ◌∷◌}
use lib.ListN.{length, get_or, take, drop, length-take, length-drop}
use lib.Seq.{drop-cons, get_or-take, get_or-drop}
use Rattle.columns.specs.Widths.{front_bytes, lead_bytes, group_bytes}
use Rattle.std.specs.Prelude.{Some}
use Rattle.columns.specs.Group.{mark, lead, group, number_of}
use Rattle.columns.specs.Words.{Blank}
use Rattle.columns.proofs.GroupLaws.{number-group}
use Rattle.saw_text_reader.specs.PriceRun.{four_digits}

-- ---- bytes of a text

byte_more : (s : List ℕ) (at i k : ℕ) → at + i < length s → take (suc k) (drop (at + i) s) ≡ get_or s (at + i) 0 ∷ take k (drop (at + suc i) s)
byte_more s at i k h = rw (drop-cons s (at + i) 0 h, add-suc at i)

-- nine of them
nine-bytes :
    (s : List ℕ) (at : ℕ)
    → at + group_bytes ≤ length s
    → take group_bytes (drop at s)
    ≡ get_or s (at + 0) 0 ∷ get_or s (at + 1) 0 ∷ get_or s (at + 2) 0 ∷ get_or s (at + 3) 0 ∷ get_or s (at + 4) 0 ∷ get_or s (at + 5) 0 ∷ get_or s (at + 6) 0 ∷ get_or s (at + 7) 0 ∷ get_or s (at + 8) 0 ∷ []
nine-bytes s at h =
    let start : take group_bytes (drop at s) ≡ take group_bytes (drop (at + 0) s) = rw (add-zero at) in
    start
    ∙ rw (byte_more s at 0 8 (omega arith), byte_more s at 1 7 (omega arith), byte_more s at 2 6 (omega arith), byte_more s at 3 5 (omega arith), byte_more s at 4 4 (omega arith), byte_more s at 5 3 (omega arith), byte_more s at 6 2 (omega arith), byte_more s at 7 1 (omega arith), byte_more s at 8 0 (omega arith))

-- one of some that are blank
blank-byte : (bs : List ℕ) (i : ℕ) → Blank bs → i < length bs → get_or bs i 0 ≡ 32
unfolding Blank
blank-byte [] i b l = absurd (omega arith)
blank-byte (x ∷ bs) zero b l = b.0
blank-byte (x ∷ bs) (suc i) b l = blank-byte bs i b.1 (omega arith)

blank-in : (s : List ℕ) (at k : ℕ) → at + k ≤ length s → Blank (take k (drop at s)) → (i : ℕ) → i < k → get_or s (at + i) 0 ≡ 32
blank-in s at k h b i l =
    let size : length (take k (drop at s)) ≡ k = simp (length-take, length-drop) (omega arith) in
    sym (get_or-drop at s i 0) ∙ sym (get_or-take k (drop at s) i 0 l) ∙ blank-byte (take k (drop at s)) i b (omega arith)

-- ---- a number of at most four digits

-- five blanks, and then its columns
columns_of :
    (s : List ℕ) (at n : ℕ)
    → at + group_bytes ≤ length s
    → n < four_digits
    → ((i : ℕ) → i < front_bytes → get_or s (at + i) 0 ≡ 32)
    → get_or s (at + 4) 0 ≡ 32
    → get_or s (at + 5) 0 ≡ mark (n / 1000)
    → get_or s (at + 6) 0 ≡ mark (n / 100)
    → get_or s (at + 7) 0 ≡ mark (n / 10)
    → get_or s (at + 8) 0 ≡ 48 + n % 10
    → number_of (take group_bytes (drop at s)) ≡ Some n
unfolding group lead mark
columns_of s at n h few front fifth thousands hundreds tens last =
    let none : n / 10 / 10 / 10 / 10 ≡ 0 = omega arith in
    let third : n / 10 / 10 / 10 ≡ n / 1000 = omega arith in
    let second : n / 10 / 10 ≡ n / 100 = omega arith in
    let columns : 32 ∷ 32 ∷ 32 ∷ 32 ∷ 32 ∷ mark (n / 1000) ∷ mark (n / 100) ∷ mark (n / 10) ∷ (48 + n % 10) ∷ [] ≡ group n = rw (none, third, second) in
    let bytes : take group_bytes (drop at s) ≡ group n = nine-bytes s at h ∙ rw (front 0 (omega arith), front 1 (omega arith), front 2 (omega arith), front 3 (omega arith), fifth, thousands, hundreds, tens, last) columns in
    ap number_of bytes ∙ number-group n (omega arith)

-- as the code compares it
pub number_known :
    (s : List ℕ) (at n : ℕ)
    → at + group_bytes ≤ length s
    → n < four_digits
    → Blank (take front_bytes (drop at s))
    → get_or s (at + 4) 0 ≡ 32
    → get_or s (at + 5) 0 ≡ mark (n / 1000)
    → get_or s (at + 6) 0 ≡ mark (n / 100)
    → get_or s (at + 7) 0 ≡ mark (n / 10)
    → get_or s (at + 8) 0 ≡ 48 + n % 10
    → number_of (take group_bytes (drop at s)) ≡ Some n
number_known s at n h few front = columns_of s at n h few (blank-in s at front_bytes (omega arith) front)

-- the kind of a line 6: eight blanks, and then its digit
pub kind-six : (s : List ℕ) (at : ℕ) → at + group_bytes ≤ length s → Blank (take lead_bytes (drop at s)) → get_or s (at + lead_bytes) 0 ≡ 54 → number_of (take group_bytes (drop at s)) ≡ Some 6
unfolding mark
kind-six s at h blank last =
    let b = blank-in s at lead_bytes (omega arith) blank in
    columns_of s at 6 h (omega arith) (λ i l. b i (omega arith)) (b 4 (omega arith)) (b 5 (omega arith)) (b 6 (omega arith)) (b 7 (omega arith)) last
