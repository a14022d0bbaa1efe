-- The group's members and the marks are lent, and the members are levelled. Assumes nothing.
use mathlib.Core.List.{List}
use mathlib.Core.Path.{◌≡◌}
use Prim.Native.Nat.{ℕ, ◌+◌, ◌-◌}
use lib.ListN.{length, take, drop}
use Rattle.groups.specs.Inner.Flat.{marks_from, marks_in, group_in}
use Rattle.groups.specs.declared.Stored.{Stored}
use Rattle.member_ranges.specs.Laws.Parts.{part}
use Rattle.report.proofs.Laws.Printing.{levelled_in}
use Rattle.report.proofs.group_lines.level_stored.Goals as goal

-- the members lent are the group's
members : (flat : List ℕ) (group : Stored) → take (group.from + group.count - group.from) (drop group.from flat) ≡ (group_in flat group).members
members flat group = part group.from group.count flat

-- and the marks lent are the units'
marks : (flat : List ℕ) (count : ℕ) → take (marks_from + count - marks_from) (drop marks_from flat) ≡ marks_in count flat
marks flat count = part marks_from count flat

pub returns : goal.returns
returns c =
    let flat = c.args.flat.now in
    let answer = rw (members flat c.args.group, marks flat (length c.args.lows.now)) at c.level_members.ensures in
    levelled_in c.requires.levelable _ answer.value answer.plan_after
