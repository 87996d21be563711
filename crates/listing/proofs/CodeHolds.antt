-- A buffer that holds words: read, and with one word, one plate type or one cut more.
use mathlib.Core.Path.{◌≡◌, sym, ap, ◌∙◌}
use Prim.Native.Nat.{ℕ, suc, ◌+◌, ◌*◌, ◌-◌, ◌<◌}
use mathlib.Core.List.{List, [], ◌∷◌, ◌++◌, append_assoc}
use native.Mathlib.Omega.{arith}
use lib.ListN.{length, get_or, set, replicate, length-append, length-set, length-replicate}
use lib.Seq.{set_at, append_snoc}
use Rattle.job.specs.Sizes.{words_of_plate, words_of_cut, RecordIn}
use Rattle.job.specs.Buffers.{filled}
use Rattle.job.specs.Job.{Job, size_at}
use Rattle.job.proofs.Buffers.{filled-read}
use Rattle.listing.specs.declared.plate.Plate.{Plate}
use Rattle.listing.specs.Plate.{waste}
use Rattle.listing.specs.Listing.{Cut}
use Rattle.listing.specs.Records.{plate_words, cut_words}
use Rattle.listing.specs.Holds.{Holds, plate_read}
use Rattle.listing.proofs.RecordWords.{plate-words-length, cut-words-length, plate-words-last, cut-words-last, plate-words-read}

-- word i of a buffer
pub held_word : {buffer : List ℕ} (ws : List ℕ) → Holds buffer ws → (i : ℕ) → get_or buffer i 0 ≡ get_or ws i 0
held_word {buffer} ws h i = ap (λ (b : List ℕ). get_or b i 0) h.words ∙ filled-read (length buffer) ws i

-- a buffer of zeros holds no words
pub cleared : {buffer : List ℕ} (n : ℕ) → buffer ≡ replicate n 0 → Holds buffer []
unfolding filled
cleared {buffer} n e =
    let l : length buffer - 0 ≡ n = ap (λ (b : List ℕ). length b - 0) e ∙ simp length-replicate (omega arith) in
    record { words = rw l e }

-- one word more
filled_put : (n : ℕ) (ws : List ℕ) (k v : ℕ) → length ws ≡ k → k < n → set (filled n ws) k v ≡ filled n (ws ++ v ∷ [])
unfolding filled
filled_put n ws k v e h =
    let j : n - length ws ≡ suc (n - (k + 1)) = omega arith in
    let j' : n - length (ws ++ v ∷ []) ≡ n - (k + 1) = simp length-append (omega arith) in
    rw (j, j') (set_at ws 0 (replicate (n - (k + 1)) 0) v k e ∙ sym (append_snoc ws v (replicate (n - (k + 1)) 0)))

pub held-put : {buffer ws : List ℕ} (k v : ℕ) → length ws ≡ k → k < length buffer → Holds buffer ws → Holds (set buffer k v) (ws ++ v ∷ [])
held-put {buffer} {ws} k v e h r =
    record { words = rw length-set (ap (λ (b : List ℕ). set b k v) r.words ∙ filled_put (length buffer) ws k v e h) }

-- the words of one plate type more, of one cut more, word by word
plate_words-snoc : (job : Job) (ps : List Plate) (p : Plate) → plate_words job (ps ++ p ∷ []) ≡ plate_words job ps ++ p.width ∷ [] ++ p.height ∷ [] ++ p.stage ∷ [] ++ (size_at job (length ps)).cost ∷ []
plate_words-snoc job ps p = plate-words-last job ps p ∙ simp append_assoc

cut_words-snoc : (cs : List Cut) (c : Cut) → cut_words (cs ++ c ∷ []) ≡ cut_words cs ++ c.plate ∷ [] ++ c.item ∷ [] ++ c.top ∷ [] ++ c.right ∷ []
cut_words-snoc cs c = cut-words-last cs c ∙ simp append_assoc

-- one plate type more, as its four stores leave it
pub held-plate-put : {buffer : List ℕ} (job : Job) (ps : List Plate) (m cost : ℕ) (p : Plate) → length ps ≡ m → (size_at job m).cost ≡ cost → RecordIn words_of_plate m buffer → Holds buffer (plate_words job ps) → Holds (set (set (set (set buffer (words_of_plate * m) p.width) (words_of_plate * m + 1) p.height) (words_of_plate * m + 2) p.stage) (words_of_plate * m + 3) cost) (plate_words job (ps ++ p ∷ []))
held-plate-put job ps m cost p e k h r =
    let l : length (plate_words job ps) ≡ words_of_plate * length ps = plate-words-length job ps in
    let f : (size_at job (length ps)).cost ≡ cost = ap (λ (i : ℕ). (size_at job i).cost) e ∙ k in
    rw (plate_words-snoc, f)
    (held-put (words_of_plate * m + 3) cost (simp length-append (omega arith)) (simp length-set (omega arith))
    (held-put (words_of_plate * m + 2) p.stage (simp length-append (omega arith)) (simp length-set (omega arith))
    (held-put (words_of_plate * m + 1) p.height (simp length-append (omega arith)) (simp length-set (omega arith))
    (held-put (words_of_plate * m) p.width (omega arith) (omega arith) r))))

-- one cut more, as its four stores leave it
pub held-cut-put : {buffer : List ℕ} (cs : List Cut) (k : ℕ) (c : Cut) → length cs ≡ k → RecordIn words_of_cut k buffer → Holds buffer (cut_words cs) → Holds (set (set (set (set buffer (words_of_cut * k) c.plate) (words_of_cut * k + 1) c.item) (words_of_cut * k + 2) c.top) (words_of_cut * k + 3) c.right) (cut_words (cs ++ c ∷ []))
held-cut-put cs k c e h r =
    let l : length (cut_words cs) ≡ words_of_cut * length cs = cut-words-length cs in
    rw cut_words-snoc
    (held-put (words_of_cut * k + 3) c.right (simp length-append (omega arith)) (simp length-set (omega arith))
    (held-put (words_of_cut * k + 2) c.top (simp length-append (omega arith)) (simp length-set (omega arith))
    (held-put (words_of_cut * k + 1) c.item (simp length-append (omega arith)) (simp length-set (omega arith))
    (held-put (words_of_cut * k) c.plate (omega arith) (omega arith) r))))

-- plate type j of a buffer
pub held-plate : {buffer : List ℕ} (job : Job) (ps : List Plate) → Holds buffer (plate_words job ps) → (j : ℕ) → plate_read buffer j ≡ get_or ps j waste
held-plate job ps h j =
    rw (held_word (plate_words job ps) h (words_of_plate * j), held_word (plate_words job ps) h (words_of_plate * j + 1), held_word (plate_words job ps) h (words_of_plate * j + 2)) (plate-words-read job ps j)
