-- The cuts that the code reads from a lent buffer, and what it knows of them.
use Rattle.std.specs.Prelude.{ℕ, zero, suc, ◌+◌, ◌*◌, ◌≤◌, ◌<◌, ◌≡◌, List, [], ◌∷◌, length, get_or}
use Rattle.job.specs.Sizes.{max_sizes, max_types, words_of_cut, job_size}
use Rattle.job.specs.Job.{type_of, board_sizes}
use Rattle.listing.specs.Listing.{Cut, no_cut, max_plates, max_cuts}
use Rattle.listing.specs.Holds.{cut_of_words}
use Rattle.listing.specs.declared.cut.CutRecord.{CutRecord}

-- the cut of a record of the code
abbrev pub cut_in : CutRecord → Cut
cut_in r = cut_of_words r.plate.0 r.item.0 r.top.0 r.right.0

-- the cut behind c others, by its four words
abbrev pub cut_read : List ℕ → ℕ → Cut
cut_read buffer c =
    cut_of_words (get_or buffer (words_of_cut * c) 0) (get_or buffer (words_of_cut * c + 1) 0) (get_or buffer (words_of_cut * c + 2) 0) (get_or buffer (words_of_cut * c + 3) 0)

-- k cuts, the first of which stands behind c others
unfoldable pub cuts_from : ℕ → ℕ → List ℕ → List Cut
cuts_from zero c buffer = []
cuts_from (suc k) c buffer = cut_read buffer c ∷ cuts_from k (suc c) buffer

-- the first k cuts of a buffer
abbrev pub cuts_read : ℕ → List ℕ → List Cut
cuts_read k buffer = cuts_from k 0 buffer

-- the cut is of one of n item types, on one of m plate types, and what it leaves is among these
pub record InRange (m n : ℕ) (c : Cut) : Type 0 where
  pub on-plate : c.plate < m
  pub from_one : 1 ≤ type_of c.item
  pub of-item : type_of c.item ≤ n
  pub top-plate : c.top < m
  pub right-plate : c.right < m

-- every cut is in range
pub record Sound (m n : ℕ) (cs : List Cut) : Type 0 where
  pub each : (c : ℕ) → c < length cs → InRange m n (get_or cs c no_cut)

-- the job has t sizes, as its third word says, and n item types, and the cuts lent are k sound ones of m plate types, the sizes among them
pub record Lent (job cuts : List ℕ) (t n m k : ℕ) : Type 0 where
  pub job-words : length job ≡ job_size t n
  pub job-sizes : board_sizes job ≡ t
  pub few-sizes : t ≤ max_sizes
  pub few-items : n ≤ max_types
  pub some-plates : t ≤ m
  pub few-plates : m ≤ max_plates
  pub few-cuts : k ≤ max_cuts
  pub cut-words : words_of_cut * k ≤ length cuts
  pub sound : Sound m n (cuts_read k cuts)
