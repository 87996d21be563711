-- A fold text in parts: one part after another keeps what the whole does, and what is kept is determined by the definition's reader.
use Prim.Native.Nat.{ℕ, ◌≤◌}
use mathlib.Core.Path.{◌≡◌}
use mathlib.Core.List.{List, [], ◌++◌}
use native.Mathlib.Omega.{arith}
use lib.ListN.{length, take}
use Rattle.job.specs.Sizes.{longest_job}
use Rattle.texts.specs.Reader.{Reader, fed}
use Rattle.texts.specs.FoldText.{Fold, fold_grammar}
use Rattle.texts_reading.proofs.CodeSplits as splits
use Rattle.fold_text_reader.specs.declared.fold.FoldReader.{FoldReader}
use Rattle.fold_text_reader.specs.FoldKept.{layouts_size, Started, Fed}
use Rattle.fold_text_reader.specs.Parts.{Lent, lent, Kept, PartFed, AsLong, After, InParts}

-- what is kept of a reader is one state and one content of lent words
kept_same : (r : Reader Fold) (f f' : FoldReader) (b b' : Lent) → Kept r f b → Kept r f' b' → AsLong b b' → (f ≡ f') × (b ≡ b')
kept_same r f f' b b' k k' l =
    let t : f.text ≡ f'.text = splits.text_same (λ (s : Fold). s.place) r f.text f'.text k.text k'.text in
    let n : f.rows ≡ f'.rows = omega (arith, k.rows, k'.rows) in
    let j : b.job ≡ b'.job = splits.held_same b.job b'.job r.state.job k.job-words k'.job-words l.job in
    let w : b.layouts ≡ b'.layouts = splits.held_same b.layouts b'.layouts (take layouts_size r.state.layouts) k.layout-words k'.layout-words l.layouts in
    (λ i. record { text = t i; rows = n i }, λ i. record { job = j i; layouts = w i })

pub in_parts : InParts
in_parts = splits.in_parts fold_grammar Kept PartFed AsLong (λ part f f' b b' h. h.kept) kept_same

-- nothing has been fed
pub nothing_read :
    {job layouts job' layouts' : List ℕ} {f : FoldReader}
    → (longest_job ≤ length job) × (layouts_size ≤ length layouts)
    → Started job layouts f job' layouts'
    → After [] f (lent job' layouts')
unfolding fed
nothing_read room s = s.kept room.0 room.1

-- one part more
pub part-read :
    (bs part : List ℕ) {f f' : FoldReader} {job layouts job' layouts' : List ℕ}
    → After bs f (lent job layouts)
    → Fed part f job layouts f' job' layouts'
    → After (bs ++ part) f' (lent job' layouts')
part-read bs part {f} {f'} {job} {layouts} {job'} {layouts'} a h = in_parts.more bs part f f' (lent job layouts) (lent job' layouts') a h
