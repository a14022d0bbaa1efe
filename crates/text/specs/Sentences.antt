-- 02's words for what ails a line, over its bytes. Assumes nothing.
use Rattle.std.specs.Prelude.{ℕ, ◌<◌, ◌⊎◌, ◌≡◌, take}
use mathlib.Core.List.{List, [], ◌∷◌, Memᴰ}
use Rattle.model.specs.Shares.{pick, sum_of}
use Rattle.text.specs.Kinds.{kind_of, is_letter}
use Rattle.text.specs.Words.{bytes}
use Rattle.text.specs.Ailments.{openings, closings}

-- 13: "without byte 10"
abbrev pub Unended : List ℕ → Type 0
Unended line = Memᴰ 10 line → ⊥

-- 14: "closing brackets at some byte outnumber the opening ones or .. counts differ at the end"
abbrev pub Unpaired : List ℕ → Type 0
Unpaired line =
    ((count : ℕ) × (sum_of openings (take count line) < sum_of closings (take count line)))
    ⊎ (sum_of openings line ≡ sum_of closings line → ⊥)

-- "the whole run of letters" at the front
unfoldable pub letters : List ℕ → List ℕ
letters [] = []
letters (b ∷ s) = pick (is_letter (kind_of b)) (b ∷ letters s) []

-- 15, turned round: "first byte .. an opening bracket with the word unit, group or shut .. straight after it"
abbrev pub NamedLine : List ℕ → Type 0
NamedLine line =
    (rest : List ℕ) × (line ≡ 40 ∷ rest)
    × ((letters rest ≡ bytes "unit") ⊎ ((letters rest ≡ bytes "group") ⊎ (letters rest ≡ bytes "shut")))

-- the number of a line not in the form: 13, 14 and 15 "tried in that order just ahead of 3, which covers all other breaches of form"
pub data Ails (line : List ℕ) : ℕ → Type 0 where
  unended : Unended line → Ails line 13
  unpaired : (Unended line → ⊥) → Unpaired line → Ails line 14
  unnamed : (Unended line → ⊥) → (Unpaired line → ⊥) → (NamedLine line → ⊥) → Ails line 15
  otherwise : (Unended line → ⊥) → (Unpaired line → ⊥) → NamedLine line → Ails line 3
