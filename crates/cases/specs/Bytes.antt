-- A quoted text as the bytes of its characters.
use Rattle.std.specs.Prelude.{ℕ, List, [], ◌∷◌}
use Prim.Native.Char.{code}
use Prim.Native.String.{String, [] as empty, ◌∷◌ as ◌followed◌}

unfoldable pub bytes : String → List ℕ
bytes empty = []
bytes (c followed s) = code c ∷ bytes s
