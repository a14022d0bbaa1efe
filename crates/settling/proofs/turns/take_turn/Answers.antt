-- The running members' ranges are gathered, narrowed and written back. Assumes nothing.
use mathlib.Core.List.{List}
use mathlib.Core.Path.{◌≡◌, sym, ap, ◌∙◌}
use native.Mathlib.Omega.{arith}
use Prim.Native.Nat.{ℕ, ◌+◌, ◌-◌, ◌≤◌}
use lib.ListN.{length, take, drop, length-drop}
use lib.Seq.{length-take-le}
use Rattle.model.specs.Shares.{most_units}
use Rattle.groups.specs.Inner.Flat.{group_in, marks_from, marks_in}
use Rattle.groups.specs.declared.Stored.{Stored}
use Rattle.member_ranges.specs.Inner.Members.{Listed}
use Rattle.member_ranges.specs.Tables.{Table, table_of, units}
use Rattle.member_ranges.specs.Laws.Parts.{part}
use Rattle.works.specs.Inner.Asked.{Turning, HoldsMembers}
use Rattle.settling.specs.Laws.Turning.{count_few, members_listed, gathered_sound, lows_held, highs_held, turn_running}
use Rattle.settling.proofs.turns.take_turn.Goals as goal
use Rattle.settling.proofs.turns.take_turn.Goals.{After-gather_running-count}

-- the lists handed on are the group's members and the marks of the units
module _ (flat : List ℕ) (group : Stored) (table : Table) where
  same_members : take (group.from + group.count - group.from) (drop group.from flat) ≡ (group_in flat group).members
  same_members = part group.from group.count flat

  same_marks : take (marks_from + units table - marks_from) (drop marks_from flat) ≡ marks_in (units table) flat
  same_marks = part marks_from (units table) flat

  listed : Turning table (group_in flat group) → HoldsMembers flat group (units table)
      → Listed
      (take (group.from + group.count - group.from) (drop group.from flat))
      (take (marks_from + units table - marks_from) (drop marks_from flat))
      table.lows
      table.highs
  listed turning holds =
      members_listed turning same_members
      (ap length same_marks ∙ length-take-le (units table) (drop marks_from flat) (omega (arith, length-drop marks_from flat, holds.marked)))

pub gather_running-count-requires-clause-listed : goal.gather_running-count-requires-clause-listed
gather_running-count-requires-clause-listed c =
    listed c.args.flat.now c.args.group (table_of c.args.lows.now c.args.highs.now) c.requires.turning c.requires.holds_members

-- the running members' ranges fit into the working lists
few : (c : After-gather_running-count) → c.gather_running-count.result ≤ most_units
few c =
    omega (
      arith,
      c.gather_running-count.ensures.few,
      ap length (same_members c.args.flat.now c.args.group (table_of c.args.lows.now c.args.highs.now)),
      count_few c.requires.turning,
    )

pub slice_bounds-narrow_core-end : goal.slice_bounds-narrow_core-end
slice_bounds-narrow_core-end c =
    omega (
      arith,
      few (goal.at.slice_bounds-narrow_core-end c).After-gather_running-count,
      c.requires.member_room.for_lows,
      c.gather_running-count.auto.member_lows,
    )

pub slice_bounds-narrow_core-end-2 : goal.slice_bounds-narrow_core-end-2
slice_bounds-narrow_core-end-2 c =
    sym
    (length-take-le _ _
    (omega (
      arith,
      few (goal.at.slice_bounds-narrow_core-end-2 c).After-gather_running-count,
      c.requires.member_room.for_lows,
      c.gather_running-count.auto.member_lows,
    )))

pub slice_bounds-narrow_core-end-3 : goal.slice_bounds-narrow_core-end-3
slice_bounds-narrow_core-end-3 c =
    omega (
      arith,
      few (goal.at.slice_bounds-narrow_core-end-3 c).After-gather_running-count,
      c.requires.member_room.for_highs,
      c.gather_running-count.auto.member_highs,
    )

pub slice_bounds-narrow_core-end-4 : goal.slice_bounds-narrow_core-end-4
slice_bounds-narrow_core-end-4 c =
    sym
    (length-take-le _ _
    (omega (
      arith,
      few (goal.at.slice_bounds-narrow_core-end-4 c).After-gather_running-count,
      c.requires.member_room.for_highs,
      c.gather_running-count.auto.member_highs,
    )))

pub narrow_core-turn-requires : goal.narrow_core-turn-requires
narrow_core-turn-requires c =
    let flat = c.args.flat.now in
    let group = c.args.group in
    let table = table_of c.args.lows.now c.args.highs.now in
    let whole = group_in flat group in
    let marks = marks_in (units table) flat in
    let members = same_members flat group table in
    let marked = same_marks flat group table in
    gathered_sound c.requires.turning marks
    (lows_held table whole marks members marked c.gather_running-count.ensures)
    (highs_held table whole marks members marked c.gather_running-count.ensures)

pub scatter_running-requires-clause-listed : goal.scatter_running-requires-clause-listed
scatter_running-requires-clause-listed c =
    listed c.args.flat.now c.args.group (table_of c.args.lows.now c.args.highs.now) c.requires.turning c.requires.holds_members

pub returns : goal.returns
returns c =
    let flat = c.args.flat.now in
    let group = c.args.group in
    let table = table_of c.args.lows.now c.args.highs.now in
    turn_running table (group_in flat group) (marks_in (units table) flat) (same_members flat group table) (same_marks flat group table)
    c.gather_running-count.ensures c.narrow_core-turn.result _ _ c.narrow_core-turn.ensures c.narrow_core-turn.auto.lows c.narrow_core-turn.auto.highs
    c.scatter_running.ensures.lows_after c.scatter_running.ensures.highs_after
