-- The shares of the members passed are written, and the bar tells those of the others. Assumes nothing.
use Prim.Native.Nat.{◌≤◌}
use lib.ListN.{length}
use Rattle.model.proofs.Laws.Walk.{Handing}
use Rattle.levelling.proofs.shares.fill_plan.Given as goal

abbrev pub invariant-loop-i : goal.invariant-loop-i
invariant-loop-i l =
    (l.v ≤ l.bar) × (length l.lows ≤ length l.initial.plan) × Handing l.lows l.highs l.v l.left l.bar l.rest l.i l.initial.plan l.plan
