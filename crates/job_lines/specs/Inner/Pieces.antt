-- The pieces of a job's text, as they are written. Assumes nothing.
use Rattle.std.specs.Prelude.{ℕ}
use mathlib.Core.List.{List, [], ◌∷◌, ◌++◌, flatten}
use Rattle.form.specs.Form.{deviation_opening, spread_opening, members_opening, Heading, print_limit, print_pairs}
use Rattle.print.specs.Items.{form}
use Rattle.text.specs.Words.{bytes}

-- a group's line up to its members
unfoldable pub group_head : Heading → List ℕ
group_head h =
    flatten
    (form (bytes "(group") (h.total ∷ [])
    ∷ (deviation_opening ++ print_limit h.deviation)
    ∷ (spread_opening ++ print_limit h.spread)
    ∷ print_pairs h.pairs
    ∷ members_opening
    ∷ [])
