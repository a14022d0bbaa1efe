-- Those counted and those running_from are all that run. Assumes nothing.
use Prim.Native.Nat.{◌+◌}
use mathlib.Core.Path.{◌≡◌}
use Rattle.model.proofs.Laws.Packing.{running_from}
use Rattle.model.proofs.running.running_count.Given as goal

abbrev pub invariant-loop-mark : goal.invariant-loop-mark
invariant-loop-mark l = l.count + running_from l.marks l.mark-index ≡ running_from l.marks 0
