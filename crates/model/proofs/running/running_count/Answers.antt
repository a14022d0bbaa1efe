-- Those counted and those running_from are all that run. Assumes nothing.
use native.Mathlib.Omega.{arith}
use Prim.Native.Nat.{◌+◌}
use mathlib.Core.Path.{◌≡◌}
use Rattle.model.proofs.Laws.Running.{running_few}
use Rattle.model.proofs.Laws.Packing.{running_from, ahead_step, ahead_none}
use Rattle.model.proofs.running.running_count.Goals as goal
use Rattle.model.proofs.running.running_count.Goals.{After-count_of-count}

pub loop-mark-init : goal.loop-mark-init
loop-mark-init c = omega arith

-- one member more is counted
step : (c : After-count_of-count) → let marks = c.args.marks.now in
    c.loop-mark.count + c.count_of-count.result + running_from marks (c.loop-mark.mark-index + 1) ≡ running_from marks 0
step c =
    omega (arith, c.loop-mark.invariant, ahead_step c.args.marks.now c.loop-mark.mark-index (omega arith) _ c.count_of-count.ensures)

pub overflow_add-count : goal.overflow_add-count
overflow_add-count c = omega (arith, step c, running_few c.args.marks.now c.args.marks.now)

pub loop-mark-preserved : goal.loop-mark-preserved
loop-mark-preserved c = step c

pub returns : goal.returns
returns c =
    omega (arith, ahead_none c.args.marks.now c.loop-mark.mark-index c.loop-mark-test.false, c.loop-mark.invariant)
