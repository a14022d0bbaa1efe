-- Where there is room, the checks are those of lists. Assumes nothing.
use mathlib.Core.Bool.{true}
use mathlib.Core.Path.{◌≡◌, sym, ◌∙◌}
use lib.ListN.{length}
use lib.Seq.{length-take-le}
use Rattle.works.specs.Calls.{has_room, check_table}
use Rattle.works.proofs.Laws.Checked.{Roomy, roomy}
use Rattle.works.proofs.checks.check_table.Goals as goal
use Rattle.works.proofs.checks.check_table.Goals.{Else-not-has_room}

pub returns-then-not-has_room : goal.returns-then-not-has_room
unfolding check_table
returns-then-not-has_room c = rw (← c.has_room.ensures, c.if-not-has_room.true)

-- where there is room
module _ (c : Else-not-has_room) where
  has : has_room c.args.units (length c.args.lows.now) (length c.args.highs.now) c.args.scratch ≡ true
  has = sym c.has_room.ensures ∙ c.if-not-has_room.false

  room : Roomy c.args.units (length c.args.lows.now) (length c.args.highs.now) c.args.scratch
  room = roomy _ _ _ _ has

pub slice_bounds-check_lists-end : goal.slice_bounds-check_lists-end
slice_bounds-check_lists-end c = sym (length-take-le _ _ (room (goal.at.slice_bounds-check_lists-end c).Else-not-has_room).for_lows)

pub slice_bounds-check_lists-end-2 : goal.slice_bounds-check_lists-end-2
slice_bounds-check_lists-end-2 c = sym (length-take-le _ _ (room (goal.at.slice_bounds-check_lists-end-2 c).Else-not-has_room).for_highs)

pub returns : goal.returns
unfolding check_table
returns c = rw (has (goal.at.returns c).Else-not-has_room) c.check_lists.ensures
