-- The lines of a text as bytes: the text cut after each byte 10. Assumes nothing.
use Rattle.std.specs.Prelude.{ℕ, List, [], ◌∷◌, eqb}
use Rattle.model.specs.Shares.{pick}

-- the lines with one byte more at the front
unfoldable pub ahead : ℕ → List (List ℕ) → List (List ℕ)
ahead b [] = (b ∷ []) ∷ []
ahead b (l ∷ ls) = (b ∷ l) ∷ ls

-- 01: "each line ended by byte 10": the text cut after each of them
unfoldable pub lines_of : List ℕ → List (List ℕ)
lines_of [] = []
lines_of (b ∷ s) = pick (eqb b 10) ((b ∷ []) ∷ lines_of s) (ahead b (lines_of s))
