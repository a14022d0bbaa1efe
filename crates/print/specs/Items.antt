-- The items of a line: a word, and numbers. Assumes nothing.
use Rattle.std.specs.Prelude.{ℕ}
use mathlib.Core.List.{List, [], ◌∷◌, map, flatten}
use Rattle.text.specs.Numbers.{print_number}
use Rattle.text.specs.Words.{bytes}

-- 01: "Exactly one space parts two items": a number after the item before it
unfoldable pub item : ℕ → List ℕ
item v = flatten (bytes " " ∷ print_number v ∷ [])

unfoldable pub items : List ℕ → List ℕ
items vs = flatten (map item vs)

-- a word and numbers
unfoldable pub form : List ℕ → List ℕ → List ℕ
form word vs = flatten (word ∷ items vs ∷ [])

-- 01: "each line ended by byte 10": the form that the word opens is closed
unfoldable pub printed_line : List ℕ → List ℕ → List ℕ
printed_line word vs = flatten (form word vs ∷ bytes ")\n" ∷ [])
