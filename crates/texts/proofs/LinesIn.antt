-- A text of lines read as its numbers, both ways.
use Prim.Native.Nat.{ℕ}
use native.Mathlib.Omega.{arith}
use mathlib.Core.Path.{◌≡◌, refl, sym, ap, ◌∙◌}
use mathlib.Core.Bool.{Bool, true, false}
use mathlib.Core.List.{List, [], ◌∷◌, ◌++◌, flat_map, append-nil}
use mathlib.Core.Option.{Option, none, some}
use lib.Dec.{eqb}
use lib.Seq.{append_snoc}
use borrow.Author.Tests.{ne_eqb}
use Rattle.columns.specs.Line.{groups, line_of, read_line}
use Rattle.columns.proofs.ReadLaws.{read-written, written_read, Inner, inner-groups}
use Rattle.texts.specs.Printed.{also_line, lines_from, lines_in, AllFit, LinesBothWays}
use Rattle.texts.proofs.Lists.{bytes_of}

-- the first line and those after it
first-line :
    (begun bs rest : List ℕ)
    → Inner bs
    → lines_from begun (bs ++ (10 ∷ rest)) ≡ also_line (read_line (begun ++ bs ++ (10 ∷ []))) (lines_from [] rest)
unfolding lines_from
first-line begun [] rest i = rw (append-nil begun)
first-line begun (b ∷ bs) rest i =
    rw (ne_eqb b 10 i.0, lines_from)
    (first-line (begun ++ (b ∷ [])) bs rest i.1
    ∙ ap (λ (l : List ℕ). also_line (read_line (l ++ (10 ∷ []))) (lines_from [] rest)) (append_snoc begun b bs))

lines-written : (nss : List (List ℕ)) → AllFit nss → lines_from [] (bytes_of nss) ≡ some nss
unfolding lines_from flat_map line_of
lines-written [] f = refl
lines-written (ns ∷ nss) f =
    ap (lines_from []) (append_snoc (groups ns) 10 (bytes_of nss))
    ∙ first-line [] (groups ns) (bytes_of nss) (inner-groups ns)
    ∙ rw (read-written ns f.0, lines-written nss f.1)

lines-read : (bs begun : List ℕ) (nss : List (List ℕ)) → lines_from begun bs ≡ some nss → (begun ++ bs ≡ bytes_of nss) × AllFit nss
unfolding lines_from flat_map
lines-read [] [] nss h = let e : [] ≡ nss = cc in rw (← e) (refl, tt)
lines-read [] (c ∷ begun) nss h = let z : ◌≡◌ {A = ℕ} 0 1 = cc in absurd (omega arith)
lines-read (b ∷ bs) begun nss h = go (eqb b 10) refl (lines-read bs) h
  where
    go :
        (t : Bool)
        → eqb b 10 ≡ t
        → ((begun' : List ℕ) (mss : List (List ℕ)) → lines_from begun' bs ≡ some mss → (begun' ++ bs ≡ bytes_of mss) × AllFit mss)
        → elim t [ true ↦ also_line (read_line (begun ++ (b ∷ []))) (lines_from [] bs) | false ↦ lines_from (begun ++ (b ∷ [])) bs ] ≡ some nss
        → (begun ++ (b ∷ bs) ≡ bytes_of nss) × AllFit nss
    go false e ih p = let w = ih (begun ++ (b ∷ [])) nss p in (sym (append_snoc begun b bs) ∙ w.0, w.1)
    go true e ih p = line (read_line (begun ++ (b ∷ []))) refl (lines_from [] bs) refl p
      where
        line :
            (o : Option (List ℕ))
            → read_line (begun ++ (b ∷ [])) ≡ o
            → (q : Option (List (List ℕ)))
            → lines_from [] bs ≡ q
            → also_line o q ≡ some nss
            → (begun ++ (b ∷ bs) ≡ bytes_of nss) × AllFit nss
        line none f q r p = let z : ◌≡◌ {A = ℕ} 0 1 = cc in absurd (omega arith)
        line (some ns) f none r p = let z : ◌≡◌ {A = ℕ} 0 1 = cc in absurd (omega arith)
        line (some ns) f (some mss) r p =
            let w = written_read (begun ++ (b ∷ [])) ns f in
            let v = ih [] mss r in
            let k : ns ∷ mss ≡ nss = cc in
            let first : begun ++ (b ∷ bs) ≡ line_of ns ++ bs = sym (append_snoc begun b bs) ∙ ap (λ (l : List ℕ). l ++ bs) w.0 in
            rw (← k) (first ∙ ap (λ (l : List ℕ). line_of ns ++ l) v.0, (w.1, v.1))

-- lines of numbers both ways
pub lines-both-ways : LinesBothWays
unfolding lines_in
lines-both-ways = record { read = λ bs nss h. lines-read bs [] nss h; written = λ nss f. lines-written nss f }
