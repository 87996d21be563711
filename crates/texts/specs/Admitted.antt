-- Document 01, "Texts": in plain numbers, a line of a kind within its limits, the lines that a text runs through, and a whole text.
use Rattle.std.specs.Prelude.{ℕ, ◌≤◌, ◌≡◌, ◌⊎◌, true, length}
use mathlib.Core.List.{List, [], ◌∷◌, ◌++◌, flat_map}
use Rattle.columns.specs.Line.{Fit, line_of}
use Rattle.texts.specs.Shape.{Limit, Shape}
use Rattle.texts.specs.Reader.{Grammar, max_lines}

-- as many values as limits, each within its own
abbrev pub InLimits : List Limit → List ℕ → Type 0
InLimits [] [] = Unit {0}
InLimits [] (v ∷ vs) = ⊥
InLimits (l ∷ ls) [] = ⊥
InLimits (l ∷ ls) (v ∷ vs) = (l.low ≤ v) × (v ≤ l.high) × InLimits ls vs

-- the numbers of a line: the kind, the running number where the kind has one, and the others within their limits, which turn what may be turned alone
pub record OfShape (s : Shape) (ns : List ℕ) : Type 0 where
  pub others : List ℕ
  pub numbers : ns ≡ s.kind ∷ (s.running ++ others)
  pub limits : InLimits s.limits others
  pub turned : s.permits others ≡ true

-- the numbers are of one of the shapes
abbrev pub Admitted : List Shape → List ℕ → Type 0
Admitted [] ns = ⊥
Admitted (s ∷ ss) ns = OfShape s ns ⊎ Admitted ss ns

module _ {S : Type 0} (g : Grammar S) where
  -- lines of these numbers, each admitted where the text then stands, bring it from s to t
  abbrev pub Runs : S → List (List ℕ) → S → Type 0
  Runs s [] t = s ≡ t
  Runs s (ns ∷ nss) t = Admitted (g.admits s) ns × Fit ns × Runs (g.after s ns) nss t

  -- the whole texts of a grammar, and where they bring it: at most 99,999 lines, one after another from the start, to where a text may end
  pub record Text (bs : List ℕ) (s : S) : Type 0 where
    pub lines : List (List ℕ)
    pub bytes : bs ≡ flat_map line_of lines
    pub few : length lines ≤ max_lines
    pub runs : Runs g.start lines s
    pub whole : g.complete s ≡ true
