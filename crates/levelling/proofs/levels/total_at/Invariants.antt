-- What was added up and T(v) of the members left are T(v). Assumes nothing.
use mathlib.Core.Path.{◌≡◌}
use Prim.Native.Nat.{◌+◌}
use lib.ListN.{drop}
use Rattle.model.specs.Levels.{total_at}
use Rattle.levelling.proofs.levels.total_at.Given as goal

abbrev pub invariant-loop-i : goal.invariant-loop-i
invariant-loop-i l = l.total + total_at (drop l.i l.lows) (drop l.i l.highs) l.v ≡ total_at l.lows l.highs l.v
