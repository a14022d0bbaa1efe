-- What was gathered and the members left that can take a copy are all. Assumes nothing.
use mathlib.Core.Path.{◌≡◌}
use Prim.Native.Nat.{◌+◌, ◌≤◌}
use lib.ListN.{drop}
use Rattle.model.specs.Levels.{roomier}
use Rattle.headroom.proofs.gather_growing.Given as goal

abbrev pub invariant-loop-i : goal.invariant-loop-i
invariant-loop-i l =
    (l.count ≤ l.i) × (l.count + roomier (drop l.i l.lows) (drop l.i l.highs) l.v l.v ≡ roomier l.lows l.highs l.v l.v)
