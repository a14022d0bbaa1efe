-- The lines of a report. Assumes nothing.
use Rattle.std.specs.Prelude.{ℕ}
use mathlib.Core.List.{List, [], ◌∷◌, flatten}
use Rattle.model.specs.declared.Figures.{Figures}
use Rattle.text.specs.Words.{bytes}
use Rattle.print.specs.Items.{form, printed_line}

-- 01: "(settled 3)": the passes
abbrev pub settled_line : ℕ → List ℕ
settled_line passes = printed_line (bytes "(settled") (passes ∷ [])

-- 01: "(unit 1 5 6)": "unit number, low, high"
abbrev pub unit_line : ℕ → ℕ → ℕ → List ℕ
unit_line number low high = printed_line (bytes "(unit") (number ∷ low ∷ high ∷ [])

-- 01: "group number, level, deviation, spread, levelled shares"; 02: "Reports print the figure after spread": "(group 1 5 0 0 0 (plan 5 5))"
unfoldable pub group_line : ℕ → ℕ → Figures → List ℕ → List ℕ
group_line number level figures shares =
    flatten
    (form (bytes "(group") (number ∷ level ∷ figures.deviation.0 ∷ figures.spread.0 ∷ figures.pairs.0 ∷ [])
    ∷ form (bytes " (plan") shares
    ∷ bytes "))\n"
    ∷ [])

-- 01: "(refused 12 1)": "number, place"
abbrev pub refusal_line : ℕ → ℕ → List ℕ
refusal_line number place = printed_line (bytes "(refused") (number ∷ place ∷ [])
