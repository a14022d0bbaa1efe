-- Words as bytes. Assumes nothing.
use Rattle.std.specs.Prelude.{ℕ, List, [], ◌∷◌}
use Prim.Native.Char.{code}
use Prim.Native.String.{String, [] as none, ◌∷◌ as ◌then◌}

-- the bytes of a word, each letter's by its number
abbrev pub bytes : String → List ℕ
bytes none = []
bytes (letter then letters) = code letter ∷ bytes letters
