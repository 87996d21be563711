-- A line that is whole: by its length the number of its numbers; behind the bytes that were pending, or in place.
use Prim.Native.Nat.{ℕ, ◌+◌, ◌-◌, ◌/◌, ◌≤◌}
use mathlib.Core.Path.{◌≡◌, refl, sym, ap, ◌∙◌}
use mathlib.Core.List.{List, [], ◌∷◌, ◌++◌}
use mathlib.Core.Option.{Option, none, some}
use native.Mathlib.Omega.{arith}
use Rattle.std.specs.Prelude.{Option as Option·std, Some, None, IfSome}
use lib.ListN.{length, take, drop, replicate, length-append, length-take, length-drop, length-replicate}
use lib.Seq.{take_at}
use borrow.Author.Tests.{eq-eqb, ne_eqb}
use Rattle.job.specs.Buffers.{filled}
use Rattle.job.proofs.Buffers.{filled-length}
use Rattle.columns.specs.Widths.{group_bytes, most_numbers, line_bytes}
use Rattle.columns.specs.Group.{put}
use Rattle.texts.specs.Reader.{longest_line}
use Rattle.columns.specs.Line.{numbers_of, read_line, line_from}
use Rattle.columns.proofs.LineLaws.{numbers-take, length-line}
use Rattle.columns.proofs.LineLaws.{line-numbers as numbers-of-line}
use Rattle.columns.proofs.ReadLaws.{written_read}
use Rattle.columns.proofs.WordLaws.{part_length}
use Rattle.texts_reading.specs.declared.pending.Pending.{Pending}
use Rattle.texts_reading.specs.Begun.{Begun}
use Rattle.texts_reading.proofs.CodeWords.{put-filled}

module _ (s : List ℕ) (at n : ℕ) (h : at + n ≤ length s) where
  pub line-unequal : (n ≡ line_bytes (n / group_bytes) → ⊥) → ◌≡◌ {A = Option·std (List ℕ)} None (line_from (read_line (take n (drop at s))))
  unfolding read_line
  line-unequal d = rw (part_length s at n h, read_line, ne_eqb n (line_bytes (n / group_bytes)) d)

  pub line-equal : n ≡ line_bytes (n / group_bytes) → line_from (numbers_of (n / group_bytes) (drop at s)) ≡ line_from (read_line (take n (drop at s)))
  unfolding read_line
  line-equal e = rw (part_length s at n h, read_line, eq-eqb n (line_bytes (n / group_bytes)) e, part_length s at n h, numbers-take (n / group_bytes) n (drop at s) (omega arith))

-- the numbers and zeros of a line are nine
pub line-most : (k : ℕ) (bs : List ℕ) → k ≤ most_numbers → IfSome (line_from (numbers_of k bs)) (λ ns. length ns ≡ most_numbers)
line-most k bs h = go (numbers_of k bs) refl
  where
    go : (o : Option (List ℕ)) → numbers_of k bs ≡ o → IfSome (line_from o) (λ ns. length ns ≡ most_numbers)
    go none e = tt
    go (some ns) e = let n = (numbers-of-line k bs ns e).0 in simp (length-append, length-replicate) (omega arith)

-- ---- behind the bytes that were pending

module _ (p : Pending) (part : List ℕ) (at end : ℕ) (h : at ≤ end) (k : end ≤ length part) (bs : List ℕ) (b : Begun p bs) where
  pub part-size : length (take (end - at) (drop at part)) ≡ end - at
  part-size = simp (length-take, length-drop) (omega arith)

  -- more of them
  pub begun_more : p.length + (end - at) ≤ longest_line → {bytes : List ℕ} {n : ℕ} → (length p.bytes ≡ longest_line → bytes ≡ put p.bytes p.length (take (end - at) (drop at part))) → n ≡ p.length + (end - at) → Begun (record { bytes = bytes; length = n }) (bs ++ take (end - at) (drop at part))
  begun_more l e f =
      record {
        bytes = e (ap length b.bytes ∙ filled-length longest_line bs (omega (arith, b.size))) ∙ rw b.bytes (put-filled longest_line bs (take (end - at) (drop at part)) p.length (sym b.size));
        size = rw length-append (omega (arith, part-size, b.size));
      }

  -- none were pending
  pub begun-none : p.length ≡ 0 → take (end - at) (drop at part) ≡ bs ++ take (end - at) (drop at part)
  begun-none e = go bs (sym b.size ∙ e)
    where
      go : (bs : List ℕ) → length bs ≡ 0 → take (end - at) (drop at part) ≡ bs ++ take (end - at) (drop at part)
      go [] z = refl
      go (x ∷ bs) z = absurd (omega arith)

-- the line from the bytes that are kept
pub begun-line : (p : Pending) (bs : List ℕ) → Begun p bs → take p.length p.bytes ≡ bs
unfolding filled
begun-line p bs b = rw b.bytes (take_at bs (replicate (longest_line - length bs) 0) p.length (sym b.size))

pub begun-size : (p : Pending) (bs : List ℕ) → Begun p bs → length bs ≤ longest_line → length p.bytes ≡ longest_line
begun-size p bs b h = ap length b.bytes ∙ filled-length longest_line bs h

-- ---- the numbers of a line that is of the form

pub line-not : (o : Option (List ℕ)) → line_from o ≡ None → o ≡ none
line-not none e = refl
line-not (some ns) e = cc

-- its numbers, and no others, are as many as its length says
pub record Numbers (bs numbers ns : List ℕ) : Type 0 where
  pub read : read_line bs ≡ some ns
  pub held : take (length bs / group_bytes) numbers ≡ ns

pub line-numbers : (bs numbers : List ℕ) → line_from (read_line bs) ≡ Some numbers → (ns : List ℕ) × Numbers bs numbers ns
line-numbers bs numbers h = go (read_line bs) refl h
  where
    go : (o : Option (List ℕ)) → read_line bs ≡ o → line_from o ≡ Some numbers → (ns : List ℕ) × Numbers bs numbers ns
    go none e q = cc
    go (some ns) e q =
        let z : ns ++ replicate (most_numbers - length ns) 0 ≡ numbers = cc in
        let n : length bs ≡ line_bytes (length ns) = ap length (written_read bs ns e).0 ∙ length-line ns in
        let k : length ns ≡ length bs / group_bytes = omega arith in
        (ns, record { read = e; held = rw (← z) (take_at ns (replicate (most_numbers - length ns) 0) (length bs / group_bytes) k) })
