-- How a search goes: to lower numbers only, and along one plate type at the most for each stage and side. And the index of the sizes alone, which is empty.
use mathlib.Core.Path.{◌≡◌, sym, ◌∙◌}
use Prim.Native.Nat.{ℕ, ◌+◌, ◌*◌, ◌/◌, ◌≤◌, ◌<◌}
use mathlib.Core.Logic.{◌⊎◌, inl, inr}
use mathlib.Core.List.{List}
use native.Mathlib.Omega.{arith}
use lib.ListN.{length, get_or, replicate, get_or-replicate}
use Rattle.job.specs.Sizes.{max_side, max_plates}
use Rattle.job.proofs.Tests.{at-most-or-above}
use Rattle.listing.specs.declared.plate.Plate.{Plate}
use Rattle.listing.specs.Plate.{waste}
use Rattle.listing_index.specs.Index.{buckets, index_size, bucket_sum, bucket_of, Indexed, Chained, OneEach}
use Rattle.listing_index.proofs.Latest.{latest-most, latest-sizes}

-- an index leads to lower numbers only
pub index-chained : {t : ℕ} {ps : List Plate} {index : List ℕ} {m : ℕ} → Indexed t ps index → index_size ≤ length index → length ps ≡ m → m ≤ max_plates → Chained index m
index-chained {t} {ps} ix room e few =
    record {
      long = room;
      few = few;
      heads = λ b l. omega (arith, ix.heads b l, latest-most t ps b (length ps));
      nexts = λ j l. omega (arith, ix.nexts j (omega arith), latest-most t ps (bucket_of (get_or ps j waste)) j);
    }

-- where all plate types are sizes, every word is 0
pub index-empty : (t : ℕ) (ps : List Plate) → length ps ≡ t → t ≤ max_plates → Indexed t ps (replicate index_size 0)
index-empty t ps e few =
    record {
      heads = λ b l. get_or-replicate index_size b 0 0 (omega arith) ∙ sym (latest-sizes t ps b (length ps) (omega arith));
      nexts = λ j l. get_or-replicate index_size (buckets + j) 0 0 (omega arith) ∙ sym (latest-sizes t ps (bucket_of (get_or ps j waste)) j (omega arith));
      distinct = λ i j a b c d q. absurd (omega arith);
    }

-- two sides that a multiple of the buckets parts are one
one_side : (x y a b : ℕ) → x ≤ max_side → y ≤ max_side → x + buckets * a ≡ y + buckets * b → x ≡ y
one_side x y a b h k e = go (at-most-or-above a b) (at-most-or-above b a)
  where
    go : (a ≤ b) ⊎ (b < a) → (b ≤ a) ⊎ (a < b) → x ≡ y
    go (inr c) d = absurd (omega arith)
    go (inl c) (inr d) = absurd (omega arith)
    go (inl c) (inl d) = omega arith

-- 6,185 times 4,129 is 1 more than 2,552 times the buckets: so what a height counts for tells the height
pub one_each : OneEach
unfolding bucket_of
one_each =
    record {
      by_width = λ p q a b e s w.
          let x = bucket_sum p in
          let y = bucket_sum q in
          let h = one_side p.height q.height (2552 * p.height + 4129 * (y / buckets)) (2552 * q.height + 4129 * (x / buckets)) a b (omega arith) in
          λ i. record { width = w i; height = h i; stage = s i };
      by_height = λ p q a b e s h.
          let x = bucket_sum p in
          let y = bucket_sum q in
          let w = one_side p.width q.width (y / buckets) (x / buckets) a b (omega arith) in
          λ i. record { width = w i; height = h i; stage = s i };
    }
