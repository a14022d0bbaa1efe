-- What the answers of the line reader say of the text. Assumes nothing.
use Rattle.std.specs.Prelude.{ℕ, List, Option, Some, None}
use Rattle.model.specs.declared.Limit.{Limit}
use Rattle.text.specs.Parsed.{Parsed, parsed, failed}
use Rattle.text.specs.declared.Spot.{Spot}
use Rattle.text.specs.Inner.Spots.{bytes_from}
use Rattle.form.specs.Form.{UnitLine, line_low, line_high, line_mark, PairsLimit, unsaid, said}
use Rattle.form.specs.declared.Unit.{Unit}
use Rattle.form.specs.declared.Head.{Head}
use Rattle.form.specs.declared.Members.{Members}
use Rattle.form.specs.Inner.Tally.{Tally, GroupTally}

-- a unit line as the code keeps it
abbrev pub kept_unit : UnitLine → Unit
kept_unit l = record { low = line_low l; high = line_high l; mark = line_mark l }

-- a unit line and the spot after it
abbrev pub unit_seen : List ℕ → Option (Unit × Spot) → Parsed Unit
unit_seen text (Some (unit, spot)) = parsed unit (bytes_from text spot)
unit_seen text None = failed

-- a limit and the spot after it
abbrev pub limit_seen : List ℕ → Option (Limit × Spot) → Parsed Limit
limit_seen text (Some (limit, spot)) = parsed limit (bytes_from text spot)
limit_seen text None = failed

-- a pairs limit, or none, by whether it is there
abbrev pub pairs_told : Option Limit → PairsLimit
pairs_told (Some limit) = said limit
pairs_told None = unsaid

-- a pairs limit, where it is there, and the spot after it
abbrev pub pairs_seen : List ℕ → Option Limit × Spot → Parsed PairsLimit
pairs_seen text (limit, spot) = parsed (pairs_told limit) (bytes_from text spot)

-- a group line's head and the spot after it
abbrev pub head_seen : List ℕ → Option (Head × Spot) → Parsed Head
head_seen text (Some (head, spot)) = parsed head (bytes_from text spot)
head_seen text None = failed

-- the members and the spot after them
abbrev pub members_seen : List ℕ → List ℕ → Members → Parsed Tally
members_seen text flat m = parsed (record { count = m.count; within = m.within; flat = flat }) (bytes_from text m.next)

-- a group line and the spot after it
abbrev pub group_seen : List ℕ → List ℕ → Option (Head × Members) → Parsed GroupTally
group_seen text flat (Some (head, m)) =
    parsed (record { head = head; tally = record { count = m.count; within = m.within; flat = flat } }) (bytes_from text m.next)
group_seen text flat None = failed
